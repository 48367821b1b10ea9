use Rattle.std.proofs.Common.{arith}
use Rattle.findings.proofs.Least.{none_shared}
use Rattle.findings.proofs.contention.lowest_shared_address.Goals as goal

pub returns-then-not-is_same_space : goal.returns-then-not-is_same_space
returns-then-not-is_same_space c = grind (arith, none_shared)
