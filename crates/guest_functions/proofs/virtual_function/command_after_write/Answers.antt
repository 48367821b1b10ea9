use Rattle.std.proofs.{Common.arith, lemmas.Nat.and_le_l}
use Rattle.guest_functions.proofs.Copies.{written_in_32, command_fits}
use Rattle.guest_functions.proofs.virtual_function.command_after_write.Goals as goal

pub overflow_cast-result : goal.overflow_cast-result
overflow_cast-result c = grind (arith, and_le_l, command_fits)

pub returns : goal.returns
returns c = grind (arith, and_le_l, written_in_32)
