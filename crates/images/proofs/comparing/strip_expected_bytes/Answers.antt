use Rattle.std.proofs.Common.{◌∙◌, Err, ap, sym}
use Rattle.images.{specs.Faults.number_of, proofs.{ComparedBytes.{begins, differs, falls_short}, comparing.strip_expected_bytes.Goals.{then-starts_with, else-starts_with}}}
use Rattle.images.proofs.comparing.strip_expected_bytes.Goals as goal

pub returns-in-Some-clause-left : goal.returns-in-Some-clause-left
returns-in-Some-clause-left c = let e = c.in-Some.ensures.cases in begins 906 c.args.own.now c.args.bytes.now c.in-Some.rest.now e.0 e.1

pub returns-after-starts_with-clause-refused : goal.returns-after-starts_with-clause-refused
returns-after-starts_with-clause-refused c = elim c.if-starts_with.branch [
  | then-starts_with w ↦
      falls_short 906 c.args.own.now c.args.bytes.now c.in-None.ensures.cases (sym c.starts_with.ensures.value ∙ w.if-starts_with.true)
      ∙ ap (λ why. Err (number_of why)) (sym w.result-is)
  | else-starts_with w ↦
      differs 906 c.args.own.now c.args.bytes.now c.in-None.ensures.cases (sym c.starts_with.ensures.value ∙ w.if-starts_with.false)
      ∙ ap (λ why. Err (number_of why)) (sym w.result-is)
]
