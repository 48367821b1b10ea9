use Rattle.std.{proofs.Common.{◌≡◌, length, take, map, Some}, specs.List.slice_get}
use Rattle.model_board.specs.Board.{Row}
use Rattle.model_set_up.specs.{FunctionTable.board_in, SetUpWrites.placed_base}
use Rattle.bars.specs.Slots.{bases_from}
use Rattle.window_packing.specs.Packs.{regions_from}
use Rattle.window_packing.proofs.settings.bars_with_bases.Given as goal

abbrev pub invariant-loop-index : goal.invariant-loop-index
invariant-loop-index l = record {
  count : length l.bases ≡ 6;
  told : (r : Row) → slice_get (board_in l.rows) l.i ≡ Some r → bases_from 0 (take l.index l.bases) ≡ map (placed_base (board_in l.rows) l.apertures r.path) (regions_from 0 (take l.index l.bars));
}
