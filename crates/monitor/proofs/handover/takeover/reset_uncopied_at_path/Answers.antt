use Rattle.std.proofs.Common.{rules}
use Rattle.bridge_forward.proofs.Changes.{none_back}
use Rattle.monitor.proofs.TakenOver.{reset_found}
use Rattle.monitor.proofs.handover.takeover.reset_uncopied_at_path.Goals as goal

pub returns-in_default : goal.returns-in_default
returns-in_default c = search (rules, none_back)

pub returns : goal.returns
returns c = search (rules, reset_found)
