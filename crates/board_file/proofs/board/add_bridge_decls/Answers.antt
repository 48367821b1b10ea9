use Rattle.std.proofs.{lemmas.Grind.common_steps, Common.arith}
use Rattle.board_file.{specs.Judged.is_lawful_bridge, proofs.{Declaring.fixed_secondary, NextEntry.{next_passes, rest_passes, rest_map, each_push}}}
use Rattle.board_file.proofs.board.add_bridge_decls.Goals as goal

pub declare-requires-clause-secondary_status : goal.declare-requires-clause-secondary_status
declare-requires-clause-secondary_status c =
    fixed_secondary c.entry-item.result
    (next_passes c.args.entries.now c.entries.entry-index c.entry-item.result c.entries-test.true c.entry-item.is is_lawful_bridge c.entries.invariant.0)

pub entries-preserved : goal.entries-preserved
entries-preserved c = grind (arith, common_steps, rest_passes, rest_map, each_push)
