use Rattle.std.proofs.{Common.arith, lemmas.Nat.and_le_l}
use Rattle.model_registers.proofs.Bases.{size_limits}
use Rattle.bars.proofs.Regions.{written_in_64, size_positive}
use Rattle.bars.proofs.region.BarWithBase.written.Goals as goal

pub returns : goal.returns
returns c = grind (arith, size_limits, size_positive, and_le_l, written_in_64)
