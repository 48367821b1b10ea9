use Rattle.std.proofs.Common.{arith}
use Rattle.headers.proofs.OwnRegisters.{registers_of_all}
use Rattle.headers.proofs.own_registers.have_valid_bar_registers.Goals as goal

pub returns-then-are_within_bar_registers : goal.returns-then-are_within_bar_registers
returns-then-are_within_bar_registers g c = grind (arith, registers_of_all)

pub returns-else-are_within_bar_registers : goal.returns-else-are_within_bar_registers
returns-else-are_within_bar_registers g c = grind (arith, registers_of_all)
