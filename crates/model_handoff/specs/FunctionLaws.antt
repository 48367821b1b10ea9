-- Laws of the reports on functions.
--     path_in_seat gs s      the path in a slot of the guest at an index
--     SeatsHold      a reported slot holds the function
--     NoSeatHolds      if no slot is reported, no guest's slot holds the function
use Rattle.std.specs.Prelude.{◌≡◌, Option, Some, None, unwrap_or, option_and_then, slice_get}
use Rattle.model_board.specs.Paths.{Path}
use Rattle.model_guests.specs.Guests.{GuestNow, GuestsNow}
use Rattle.model_handoff.specs.Functions.{Assignment, seat_of}

abbrev pub path_in_seat : GuestsNow → Assignment → Option Path
path_in_seat gs s = option_and_then (λ (g : GuestNow). unwrap_or (slice_get g.paths s.slot) None) (slice_get gs s.guest)

abbrev pub SeatsHold : Type 0
SeatsHold = (gs : GuestsNow) (p : Path) (s : Assignment) → seat_of gs p ≡ Some s → path_in_seat gs s ≡ Some p

abbrev pub NoSeatHolds : Type 0
NoSeatHolds = (gs : GuestsNow) (p : Path) → seat_of gs p ≡ None → (s : Assignment) → path_in_seat gs s ≡ Some p → ⊥
