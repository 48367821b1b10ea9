-- The worked examples, by computation.
use Rattle.model_handoff.specs.FunctionExamples.{ToldFunctions}

pub worked_function_reports : ToldFunctions
worked_function_reports = assumption
