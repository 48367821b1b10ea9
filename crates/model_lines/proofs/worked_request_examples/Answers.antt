use Rattle.model_lines.proofs.Requests.{request_examples}
use Rattle.model_lines.proofs.worked_request_examples.Goals as goal

pub returns : goal.returns
returns c = request_examples
