use Rattle.std.proofs.{Common.arith, lemmas.Grind.common_steps}
use Rattle.headers.proofs.Units.{ends_unit}
use Rattle.headers.proofs.apertures.Aperture.is_whole_units.Goals as goal

pub returns-then-self-unit-eq0 : goal.returns-then-self-unit-eq0
returns-then-self-unit-eq0 c = grind (arith, ends_unit, common_steps)
