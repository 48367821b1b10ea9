-- Laws of assigning and unassigning functions.
--     OnGift, OnTaking      a law for accepted requests whose guest exists
--     BoardAfterGift, BoardAfterTaking      the board has the function at reset, and everything else unchanged
--     LawfulAfterGift, LawfulAfterTaking      the world stays lawful: no region of an assigned function is disabled
--     ShownAfterGift, ShownAfterTaking      the board identifies the handoff with the function at reset, and otherwise as before
--     GivenFunction      the slot has the function at the path, at reset
--     GivenBack      unassigning it at once restores all guests
--     OthersAfterGift, OthersAfterTaking      all other guests keep their state
use Rattle.std.specs.{Prelude.{◌≡◌, ℕ, Some, None, IsFalse, IsSome}, Str.bytes_eq}
use Rattle.model_board.specs.{Paths.Path, AtReset.board_at}
use Rattle.model_guests.specs.{Slots.reset_function, Text.Text, World.declared, Guests.{guest_named, lone_of, path_in, function_in}, WorldNow.{WorldNow, board_state}}
use Rattle.model_handoff.specs.{Kept.IsLawfulOver, ViewLaws.with_seated_reset, Giving.{Gift, with_reset_at, give_fault, take_fault, after_give, after_take}}

abbrev pub OnGift : (WorldNow → Gift → Type 0) → Type 0
OnGift P = (w : WorldNow) → IsLawfulOver w → (g : Gift) → IsSome (guest_named w.guests g.to) → give_fault w g ≡ None
    → P w g

abbrev pub OnTaking : (WorldNow → Text → ℕ → Path → Type 0) → Type 0
OnTaking P = (w : WorldNow) → IsLawfulOver w → (name : Text) (n : ℕ) → take_fault w name n ≡ None
    → (p : Path) → path_in w.guests name n ≡ Some p → P w name n p

abbrev pub BoardAfterGift : Type 0
BoardAfterGift = OnGift (λ w g. board_state (after_give w g) ≡ with_reset_at g.path (board_state w))

abbrev pub BoardAfterTaking : Type 0
BoardAfterTaking = OnTaking (λ w name n p. board_state (after_take w name n) ≡ with_reset_at p (board_state w))

abbrev pub LawfulAfterGift : Type 0
LawfulAfterGift = (w : WorldNow) → IsLawfulOver w → (g : Gift) → IsLawfulOver (after_give w g)

abbrev pub LawfulAfterTaking : Type 0
LawfulAfterTaking = (w : WorldNow) → IsLawfulOver w → (name : Text) (n : ℕ) → IsLawfulOver (after_take w name n)

abbrev pub ShownAfterGift : Type 0
ShownAfterGift = OnGift (λ w g. with_seated_reset (after_give w g).handoff (after_give w g).guests
    ≡ with_reset_at g.path (with_seated_reset w.handoff w.guests))

abbrev pub ShownAfterTaking : Type 0
ShownAfterTaking = OnTaking (λ w name n p. with_seated_reset (after_take w name n).handoff (after_take w name n).guests
    ≡ with_seated_reset w.handoff w.guests)

pub record IsGiven (w now : WorldNow) (g : Gift) : Type 0 where
  pub path : path_in now.guests g.to g.slot ≡ Some g.path
  pub function : function_in now.guests g.to g.slot ≡ reset_function (declared (board_at w.handoff.functions) g.path)

abbrev pub GivenFunction : Type 0
GivenFunction = OnGift (λ w g. IsGiven w (after_give w g) g)

pub record IsGivenBack (w : WorldNow) (g : Gift) : Type 0 where
  pub is_done : take_fault (after_give w g) g.to g.slot ≡ None
  pub guests : (after_take (after_give w g) g.to g.slot).guests ≡ w.guests

abbrev pub GivenBack : Type 0
GivenBack = OnGift IsGivenBack

abbrev pub OthersAfterGift : Type 0
OthersAfterGift = (w : WorldNow) (g : Gift) (other : Text) → IsFalse (bytes_eq g.to other)
    → lone_of (after_give w g).guests other ≡ lone_of w.guests other

abbrev pub OthersAfterTaking : Type 0
OthersAfterTaking = (w : WorldNow) (name : Text) (n : ℕ) (other : Text) → IsFalse (bytes_eq name other)
    → lone_of (after_take w name n).guests other ≡ lone_of w.guests other
