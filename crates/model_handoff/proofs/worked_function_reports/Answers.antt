use Rattle.model_handoff.proofs.FunctionExamples.{worked_function_reports}
use Rattle.model_handoff.proofs.worked_function_reports.Goals as goal

pub returns : goal.returns
returns c = worked_function_reports
