use Rattle.std.proofs.{lemmas.Grind.common_steps, Common.arith}
use Rattle.board_file.{specs.Endpoints.is_declarable, proofs.NextEntry.{next_passes, rest_passes, rest_same, rest_map, each_push}}
use Rattle.board_file.proofs.board.declare_endpoints_if_masks_hold.Goals as goal

pub declare_if_masks_hold-requires : goal.declare_if_masks_hold-requires
declare_if_masks_hold-requires c = next_passes c.args.entries.now c.entries.entry-index c.entry-item.result c.entries-test.true c.entry-item.is is_declarable c.entries.invariant.0

pub entries-preserved : goal.entries-preserved
entries-preserved c = grind (arith, common_steps, rest_passes, rest_same, rest_map, each_push)
