use Rattle.std.{proofs.Common.{◌≡◌, map, drop}, specs.Prelude.{filter, not, slice_get}}
use Rattle.model_registers.specs.Decoding.{opens_space}
use Rattle.model_findings.specs.OpenRegions.{region_now}
use Rattle.bridge_forward.specs.RoutingRows.{base_of}
use Rattle.monitor.proofs.handover.disabled.first_disabled_region.Given as goal

abbrev pub invariant-loop-region : goal.invariant-loop-region
invariant-loop-region l = slice_get (filter (λ q. not (opens_space l.command q.space)) (map (region_now l.path) (map base_of (drop l.region-index l.regions)))) 0
    ≡ slice_get (filter (λ q. not (opens_space l.command q.space)) (map (region_now l.path) (map base_of l.regions))) 0
