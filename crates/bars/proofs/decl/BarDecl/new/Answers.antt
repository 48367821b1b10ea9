use Rattle.std.proofs.Common.{refl, arith}
use Rattle.bars.proofs.Powers.{power_of_test, test_of_power}
use Rattle.bars.proofs.decl.BarDecl.new.Goals as goal

pub returns-then-not-is_power_of_two-clause-taken : goal.returns-then-not-is_power_of_two-clause-taken
returns-then-not-is_power_of_two-clause-taken c = grind (arith, test_of_power)

pub invariant_of-result : goal.invariant_of-result
invariant_of-result c = grind (arith, power_of_test)

pub returns-clause-taken : goal.returns-clause-taken
returns-clause-taken c = (λ h. invariant_of-result c, λ h. refl)
