use Rattle.model_lines.proofs.SessionLists.{sessions_show_capability_lists}
use Rattle.model_lines.proofs.sessions_show_capability_lists.Goals as goal

pub returns : goal.returns
returns c = sessions_show_capability_lists
