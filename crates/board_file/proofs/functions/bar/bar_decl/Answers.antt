use Rattle.std.proofs.{Common.arith, Math.Facts.to_z-of_z}
use Rattle.board_file.proofs.ListTests.{lawful_size}
use Rattle.board_file.proofs.functions.bar.bar_decl.Goals as goal

pub unwrap-requires : goal.unwrap-requires
unwrap-requires c = grind (arith, to_z-of_z, lawful_size)
