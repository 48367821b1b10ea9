use Rattle.board_file.proofs.NextEntry.{next_passes}
use Rattle.board_file.proofs.functions.part.declare_all_if_masks_hold.Goals as goal

pub declare_if_masks_hold-requires : goal.declare_if_masks_hold-requires
declare_if_masks_hold-requires g c = next_passes c.args.entries.now c.entries.entry-index c.entry-item.result c.entries-test.true c.entry-item.is g.P.PartEntry.is_declarable c.entries.invariant.0
