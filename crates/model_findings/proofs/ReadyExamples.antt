-- The worked examples, by computation.
use Rattle.std.specs.Fmt.{digits}
use Rattle.model_findings.specs.ReadyExamples.{ReadyExamples}

pub ready_examples : ReadyExamples
unfolding digits
ready_examples = assumption
