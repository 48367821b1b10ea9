use Rattle.std.{proofs.{Common.{◌≡◌, ℕ, ◌+◌, [], ◌∷◌, get_or, Some, subst, arith}, lemmas.{List.length-set, Option.slice_get-get_or}}, specs.List.slice_get}
use Rattle.lists.{specs.Elements.IsIn, proofs.Members.{each_in, each_from}}
use Rattle.model_set_up.specs.FunctionTable.{board_in}
use Rattle.bus_scan.specs.Rows.{regions_of}
use Rattle.window_packing.{specs.{Packs.regions_from, Placed.IsRegionAt}, proofs.BarLists.{region_among, push_told}}
use Rattle.window_packing.proofs.settings.bars_with_bases.Goals as goal

pub bar_with_base_if_any-requires-clause-found : goal.bar_with_base_if_any-requires-clause-found
bar_with_base_if_any-requires-clause-found c =
    let b = board_in c.args.rows.now in
    let bars = c.args.bars.now in
    let i = c.loop-index.index in
    let o = get_or bars c.from-at.result c.index-bars-at.result in
    let e : slice_get bars i ≡ Some o = subst (λ (j : ℕ). slice_get bars j ≡ Some o) c.from-at.ensures (slice_get-get_or bars c.from-at.result c.index-bars-at.result (omega arith)) in
    let z : i ≡ 0 + i = omega arith in
    each_from (IsRegionAt b c.args.i) (regions_from i (o ∷ [])) (λ k m. each_in (IsRegionAt b c.args.i) k (regions_of bars) c.requires.found (region_among 0 bars i o e k (subst (λ (j : ℕ). IsIn k (regions_from j (o ∷ []))) z m)))

pub loop-index-preserved : goal.loop-index-preserved
loop-index-preserved c = grind (arith, slice_get-get_or, length-set, push_told)
