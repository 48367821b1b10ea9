use Rattle.std.proofs.Common.{rules}
use Rattle.monitor.proofs.RaisePlaces.{copies_left}
use Rattle.monitor.proofs.device.raise.raise_if_uncopied.Goals as goal

pub returns-then-has_guest_copy : goal.returns-then-has_guest_copy
returns-then-has_guest_copy c = search (rules, copies_left)
