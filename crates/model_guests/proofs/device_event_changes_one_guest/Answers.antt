use Rattle.model_guests.proofs.DeviceSeats.{own_after, others_after, seated_after, names_after}
use Rattle.model_guests.proofs.device_event_changes_one_guest.Goals as goal

pub returns : goal.returns
returns c = record { own = own_after; others = others_after; seated = seated_after; names = names_after }
