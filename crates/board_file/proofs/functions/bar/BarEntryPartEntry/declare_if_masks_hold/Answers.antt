use Rattle.std.proofs.Common.{arith}
use Rattle.board_file.proofs.Declaring.{region_parts}
use Rattle.board_file.proofs.functions.bar.BarEntryPartEntry.declare_if_masks_hold.Goals as goal

pub magnitude_as_u8-requires : goal.magnitude_as_u8-requires
magnitude_as_u8-requires c = grind (arith, region_parts)

pub bar_decl-requires : goal.bar_decl-requires
bar_decl-requires c = grind (arith, region_parts)
