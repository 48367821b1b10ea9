use Rattle.std.proofs.Common.{◌+◌, ◌∙◌, List, ℕ, refl, subst, sym, arith}
use Rattle.lists.proofs.Indices.{at_below}
use Rattle.monitor.proofs.{LoadSteps.go_on, LoadedParts.{AtRegion, first_region, last_region, next_region, region_fits, told_regions}}
use Rattle.monitor.proofs.saved.load_function.load_regions.Goals as goal

pub loop-region-init : goal.loop-region-init
loop-region-init c = record {
  at = λ k enough. first_region k enough (told_regions k (c.host_index_of_slot.ensures k.holds) c.region_count-count.ensures);
  low = omega arith;
  counts = refl;
}

pub load_region_and_advance-left-requires : goal.load_region_and_advance-left-requires
load_region_and_advance-left-requires c =
    let at = c.loop-region.invariant.at c.requires.0 c.requires.1 in
    let many = at.many in
    let found = at_below c.requires.0.f.decl.regions c.loop-region.region (omega arith) in
    (go_on c.requires.0 at.passed.becomes, found.0, found.1, region_fits c.requires.0 at found.0 found.1)

pub loop-region-preserved : goal.loop-region-preserved
loop-region-preserved c = record {
  at = λ k enough.
      let at = c.loop-region.invariant.at k enough in
      let many = at.many in
      let found = at_below k.f.decl.regions c.loop-region.region (omega arith) in
      let now = go_on k at.passed.becomes in
      let fits = region_fits k at found.0 found.1 in
      subst (λ (vs : List ℕ). AtRegion k c.args.values.now (c.loop-region.region + 1) c.region_count-count.result vs c.load_region_and_advance-left.new.host c.load_region_and_advance-left.new.guests)
      (sym (c.load_region_and_advance-left.ensures.left now found.0 found.1 fits))
      (next_region k at found.0 found.1 (c.load_region_and_advance-left.ensures.becomes now found.0 found.1 fits));
  low = omega arith;
  counts = c.load_region_and_advance-left.ensures.counts ∙ c.loop-region.invariant.counts;
}

pub returns-clause-becomes : goal.returns-clause-becomes
returns-clause-becomes c = λ k enough. last_region k (c.loop-region.invariant.at k enough) (omega arith)
