use Rattle.std.proofs.Common.{◌≡◌, ◌≤◌, length}
use Rattle.monitor.{specs.{Counts.counts_of, Loadings.{KeepsFunction, regions_size}}, proofs.LoadedParts.AtRegion}
use Rattle.monitor.proofs.saved.load_function.load_regions.Given as goal

-- the regions so far have their values
abbrev pub invariant-loop-region : goal.invariant-loop-region
invariant-loop-region l = record {
  at : (k : KeepsFunction l.fn.host l.fn.guests l.guest l.slot) → regions_size k.f.decl.regions ≤ length l.values → AtRegion k l.values l.region l.count l.left l.host l.guests;
  low : l.region ≤ l.count;
  counts : counts_of l.guests ≡ counts_of l.fn.guests;
}
