-- The worked examples, by computation.
use Rattle.std.specs.Fmt.{digits}
use Rattle.model_lines.specs.WhyExamples.{WhyExamples}

pub why_examples : WhyExamples
unfolding digits
why_examples = assumption
