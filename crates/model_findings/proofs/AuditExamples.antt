-- The worked examples, by computation.
use Rattle.std.specs.Fmt.{digits}
use Rattle.model_findings.specs.AuditExamples.{WorkedExamples}

pub worked_examples : WorkedExamples
unfolding digits
worked_examples = assumption
