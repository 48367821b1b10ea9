use Rattle.std.proofs.Common.{arith}
use Rattle.model_lines.specs.Sessions.{given}
use Rattle.session.proofs.Stages.{handed_over_as}
use Rattle.session.proofs.stage.hand_over.Goals as goal

pub returns-in-Ok-clause-given : goal.returns-in-Ok-clause-given
returns-in-Ok-clause-given c = grind (arith, handed_over_as)
