use Rattle.std.proofs.Common.{arith}
use Rattle.lines.proofs.Counts.{event_of_seven}
use Rattle.lines.proofs.forms.parse_guest_request.Goals as goal

pub returns-in_default : goal.returns-in_default
returns-in_default c = grind (arith, event_of_seven)
