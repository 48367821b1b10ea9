-- What a guest is told of its accesses is told of what it holds alone.
--     EqualGuests      guests that hold the same are told the same, whatever else there is
--     AgreeAlong      two guests that hold the same, and of whose actions, loads and restarts the same is their own
--     EqualAlong      after such requests they are told the same
use Rattle.std.specs.Prelude.{ℕ, ◌≡◌, List, IsSome}
use Rattle.model_guests.specs.{Accesses.Target, Text.Text, Guests.{guest_named, lone_of}, WorldNow.WorldNow}
use Rattle.model_images.specs.Requests.{Request, after_requests, request_inputs}
use Rattle.session.specs.declared.questions.ReportForm.{ReportForm}
use Rattle.board_told.specs.{GuestFindings.lone_asked, WhyJson.explain_guest_access}

-- the guests at two indices of two worlds
abbrev pub EqualGuests : Type 0
EqualGuests = (v w : WorldNow) (i j : ℕ) → lone_asked v i ≡ lone_asked w j
    → (form : ReportForm) (t : Target) → explain_guest_access form (lone_asked v i) t ≡ explain_guest_access form (lone_asked w j) t

pub record AgreeAlong (v w : WorldNow) (one other : Text) (first second : List Request) : Type 0 where
  pub in_first : IsSome (guest_named v.guests one)
  pub in_second : IsSome (guest_named w.guests other)
  pub holds : lone_of v.guests one ≡ lone_of w.guests other
  pub inputs : request_inputs one v first ≡ request_inputs other w second

-- whatever other guests do meanwhile, and whatever is done to them
abbrev pub EqualAlong : Type 0
EqualAlong = (v w : WorldNow) (one other : Text) (first second : List Request) → AgreeAlong v w one other first second
    → (form : ReportForm) (t : Target)
    → explain_guest_access form (lone_of (after_requests v first).guests one) t
    ≡ explain_guest_access form (lone_of (after_requests w second).guests other) t
