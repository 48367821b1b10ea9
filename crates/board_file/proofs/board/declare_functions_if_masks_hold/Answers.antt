use Rattle.std.proofs.Common.{arith}
use Rattle.board_file.proofs.Declaring.{all_declarable, all_bridges}
use Rattle.board_file.proofs.board.declare_functions_if_masks_hold.Goals as goal

pub declare_endpoints_if_masks_hold-requires : goal.declare_endpoints_if_masks_hold-requires
declare_endpoints_if_masks_hold-requires c = grind (arith, all_declarable)

pub add_bridge_decls-requires-clause-bridges : goal.add_bridge_decls-requires-clause-bridges
add_bridge_decls-requires-clause-bridges c = grind (arith, all_bridges)
