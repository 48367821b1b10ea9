use Rattle.model_set_up.proofs.WindowReads.{closed_windows_forward_nothing}
use Rattle.model_set_up.proofs.closed_windows_forward_nothing.Goals as goal

pub returns : goal.returns
returns c = closed_windows_forward_nothing
