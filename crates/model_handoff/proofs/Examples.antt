-- The worked examples, by computation.
use Rattle.model_handoff.specs.Examples.{WorkedExamples}

pub worked_handoff_examples : WorkedExamples
worked_handoff_examples = assumption
