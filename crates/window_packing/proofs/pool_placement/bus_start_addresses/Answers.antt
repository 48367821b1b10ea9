use Rattle.std.proofs.{Common.{◌≡◌, ℕ, ◌+◌, suc, false, get_or, ap, ◌∙◌, arith}, lemmas.Option.slice_get-get_or}
use Rattle.model_board.specs.{Paths.{parent, last_part}, Board.Board}
use Rattle.model_set_up.specs.{Pools.Pool, Placement.{a_window, offset_in, bus_first}, FunctionTable.{TableRow, board_in}}
use Rattle.lists.proofs.Indices.{read_at, map_at}
use Rattle.window_packing.{specs.{declared.upstream_windows.UpstreamSupport.UpstreamSupport, Buses.bus_path, Packs.pack_of, Plans.named_pool}, proofs.{AboveRows.length_board, BusIndex.row_in, PoolSteps.above_count, FirstsSoFar.{one_first, more_firsts, all_firsts, pack_is, count_packs, IsFittingRow, bus_low, own_pack, behind_pack, own_first, own_strict, own_align, behind_first, next_bound}}}
use Rattle.window_packing.proofs.pool_placement.bus_start_addresses.Goals as goal
use Rattle.window_packing.proofs.pool_placement.bus_start_addresses.Goals.{After-index-packs-i}

abbrev none : UpstreamSupport
none = record { bus = 0; io = false; pref = false; pref64 = false }

pub loop-i-init : goal.loop-i-init
loop-i-init c = grind (arith, read_at, count_packs, pack_is, one_first)

-- a row, its bus and the bus behind it, as they are read
module _ (c : After-index-packs-i) where
  abbrev b : Board
  b = board_in c.args.rows.now

  abbrev pool : Pool
  pool = named_pool c.args.pool

  fitting : IsFittingRow b c.args.apertures.now pool c.loop-i.i (row_in c.index-rows-i.result) (get_or c.args.above.now c.loop-i.i none)
  fitting = grind (arith, map_at, row_in, read_at, slice_get-get_or, above_count, length_board)

  own : c.index-packs-bus.result ≡ pack_of b c.args.apertures.now pool (parent c.index-rows-i.result.path)
  own = own_pack fitting c.args.packs.now c.requires.packs c.index-packs-bus.result c.index-packs-bus.is

  part : c.last.result ≡ last_part c.index-rows-i.result.path
  part = c.last.ensures ∙ ap (λ (t : TableRow). last_part t.path) c.row.view_is

  -- the bus behind it begins where its window stands
  next : (n : ℕ) → n ≡ get_or c.loop-i.firsts.items (get_or c.args.above.now c.loop-i.i none).bus n
      → n + offset_in c.index-packs-bus.result.spots c.last.result a_window ≡ bus_first b c.args.apertures.now pool (bus_path b (suc c.loop-i.i))
  next n is = behind_first fitting c.index-packs-bus.result own c.last.result part n (own_first fitting c.loop-i.firsts.items c.loop-i.invariant n is)

pub index-requires : goal.index-requires
index-requires c = omega (arith, bus_low (fitting (goal.at.index-requires c).After-index-packs-i), c.loop-i.invariant.count, c.loop-i.firsts.ok)

pub window_offset_or_zero-offset-requires : goal.window_offset_or_zero-offset-requires
window_offset_or_zero-offset-requires c = record {
  order = own_strict (fitting c) c.index-packs-bus.result (own c);
  align = own_align (fitting c) c.index-packs-bus.result (own c) c.last.result (part c) c.index-packs-i.result
      (behind_pack (fitting c) c.args.packs.now c.requires.packs c.index-packs-i.result c.index-packs-i.is);
}

pub overflow_add-first : goal.overflow_add-first
overflow_add-first c = grind (arith, next, next_bound, fitting)

pub loop-i-preserved : goal.loop-i-preserved
loop-i-preserved c = grind (arith, next, more_firsts, length_board)

pub returns : goal.returns
returns c = grind (arith, length_board, all_firsts)
