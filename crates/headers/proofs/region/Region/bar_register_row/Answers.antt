use Rattle.std.proofs.{Common.{◌-◌, arith}, lemmas.Nat.pow_pos}
use Rattle.headers.proofs.BaseRegisters.{base_is, mask_is}
use Rattle.headers.proofs.region.Region.bar_register_row.Goals as goal

pub returns-clause-cells : goal.returns-clause-cells
returns-clause-cells c = grind (arith, pow_pos, mask_is, base_is)
