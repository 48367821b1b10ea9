use Rattle.std.proofs.Common.{[], Ok, refl, ap}
use Rattle.session.proofs.session.Session.run_line.Goals as goal

pub returns-clause-text : goal.returns-clause-text
returns-clause-text c = c.in_ok-answer.ensures.text [] refl

pub returns-clause-after : goal.returns-clause-after
returns-clause-after c = c.in_ok-answer.ensures.after [] refl

pub returns-clause-plain : goal.returns-clause-plain
returns-clause-plain c = λ plain. ap Ok (c.in_ok-answer.ensures.plain [] refl plain)

pub returns-in_err-answer-clause-plain : goal.returns-in_err-answer-clause-plain
returns-in_err-answer-clause-plain c = λ plain. absurd (c.in_err-answer.ensures.plain [] refl plain)
