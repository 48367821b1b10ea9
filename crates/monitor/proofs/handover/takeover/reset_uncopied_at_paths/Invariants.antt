use Rattle.std.proofs.Common.{◌≡◌, take}
use Rattle.monitor.proofs.TakenOver.{reset_on}
use Rattle.monitor.proofs.handover.takeover.reset_uncopied_at_paths.Given as goal

abbrev pub invariant-loop-path : goal.invariant-loop-path
invariant-loop-path l = l.host ≡ reset_on l.initial.host (take l.path-index l.paths)
