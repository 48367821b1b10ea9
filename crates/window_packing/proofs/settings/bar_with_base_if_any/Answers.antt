use Rattle.std.{proofs.Common.{◌≡◌, ℕ, List, [], ◌∷◌, get_or, map, Option, Some, ap, sym, ◌∙◌, subst, arith}, specs.List.slice_get}
use Rattle.lists.{specs.Elements.Each, proofs.Indices.{read_at, same_at, map_at}}
use Rattle.model_registers.specs.{Declarations.{Bar, Region}, EndpointTable.BaseAddress}
use Rattle.model_board.specs.{Paths.last_part, Board.Row}
use Rattle.model_set_up.specs.{Pools.{bridges_above, pool_of}, Placement.a_region, SetUpWrites.placed_base, FunctionTable.{TableRow, board_in}}
use Rattle.bars.specs.{declared.region.BarWithBase.BarWithBase, Slots.placed}
use Rattle.window_packing.{specs.{Packs.regions_from, Placed.{PlacedPool, IsPlaced, IsRegionAt}, Plans.named_pool}, proofs.{BusIndex.row_in, PoolSteps.above_row, PlacedFunctions.{placed_in, region_strict, region_aligned, region_room, base_is}}}
use Rattle.window_packing.proofs.settings.bar_with_base_if_any.Goals as goal
use Rattle.window_packing.proofs.settings.bar_with_base_if_any.Goals.{After-last}

-- the row of the endpoint, the pool of the region, and the bus that it stands on, as they are read
module _ (c : After-last) where
  at : slice_get (board_in c.args.rows.now) c.args.i ≡ Some (row_in c.index-rows-i.result)
  at = map_at row_in c.args.rows.now c.args.i _ (read_at c.args.rows.now c.args.i c.index-rows-i.result c.requires.there c.index-rows-i.is)

  pool_is : IsPlaced (board_in c.args.rows.now) c.args.apertures.now (named_pool c.pool_of.result) c.pool-placed.result.now
  pool_is = grind (arith, placed_in)

  first : c.index-first.result.now ≡ get_or c.pool-placed.result.now.firsts c.args.above.now.bus c.index-first.result.now
  first = c.index-first.ensures ∙ ap (λ (p : PlacedPool). get_or p.firsts c.args.above.now.bus c.index-first.result.now) c.placed.view_is

  pack : c.index-pack.result.now ≡ get_or c.pool-placed.result.now.packs c.args.above.now.bus c.index-pack.result.now
  pack = c.index-pack.ensures ∙ ap (λ (p : PlacedPool). get_or p.packs c.args.above.now.bus c.index-pack.result.now) c.placed.view_is

  last : c.last.result ≡ last_part c.index-rows-i.result.path
  last = c.last.ensures ∙ ap (λ (t : TableRow). last_part t.path) c.row.view_is

pub bar_with_base-requires : goal.bar_with_base-requires
bar_with_base-requires c =
    let b = board_in c.args.rows.now in
    let g : Region = record { index = c.args.index; kind = c.in_ok-bar.bar.kind; size = c.in_ok-bar.bar.size; cells = [] } in
    let own : IsRegionAt b c.args.i g = (subst (λ (o : Option Bar). Each (IsRegionAt b c.args.i) (regions_from c.args.index (o ∷ []))) c.in_ok-bar.was c.requires.found).0 in
    record {
      order = region_strict (pool_is c) c.requires.board c.requires.declarations c.args.i (at c) c.requires.above (pack c);
      align = region_aligned (pool_is c) c.requires.board c.requires.declarations c.args.i (at c) c.requires.above (pack c) (last c) g own;
      room = region_room (pool_is c) c.requires.board c.requires.declarations c.args.i (at c) c.requires.above (pack c) (last c) (first c) (a_region c.args.index);
    }

pub returns : goal.returns
returns c = λ r there.
    let k = (goal.at.returns c).After-last in
    let b = board_in c.args.rows.now in
    let t = c.index-rows-i.result in
    let g : Region = record { index = c.args.index; kind = c.in_ok-bar.bar.kind; size = c.in_ok-bar.bar.size; cells = [] } in
    let same : row_in t ≡ r = same_at b c.args.i (row_in t) r (at k) there in
    let over = (above_row b c.requires.above.all c.args.i (row_in t) c.args.above.now c.requires.above.told (at k) c.requires.above.there).over in
    let of_pool = ap (pool_of c.args.apertures.now (bridges_above b t.path)) (sym c.kind.ensures) ∙ sym (c.pool_of.ensures (bridges_above b t.path) over) in
    let base = base_is (pool_is k) c.requires.board c.requires.declarations c.args.i (at k) c.requires.above (pack k) (last k) (first k) g of_pool in
    let one : ℕ → List BaseAddress = λ m. record { index = c.args.index; kind = c.in_ok-bar.bar.kind; size = c.in_ok-bar.bar.size; base = m } ∷ [] in
    ap (λ (x : BarWithBase). placed c.args.index x ∷ []) c.bar_with_base.ensures ∙ ap one base ∙ ap (λ (s : Row). placed_base b c.args.apertures.now s.path g ∷ []) same
    ∙ ap (λ (o : Option Bar). map (placed_base b c.args.apertures.now r.path) (regions_from c.args.index (o ∷ []))) (sym c.in_ok-bar.was)
