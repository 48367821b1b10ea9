-- Laws of saving at any time: guests can be saved after any requests, and each guest with equal declarations accepts the
-- saved bytes.
--     CanBeDeclared, AreDeclared fs      a declaration that can be serialized; all declarations of a board can be
--     CanBeSaved w      this holds for a world's board, and each of its guests can be saved
--     IsSavedAtFirst, CanBeSavedAtFirst      a lawful world can be saved at first, if the declarations of its board can
--                                   be serialized
--     IsWritableRequest, AreWritableRequests      requests whose images fit their guests, and have encodings
--     CanBeSavedAlong      after such requests it can be saved
--     IsAlike w from v to      a guest of equal declarations, in this world or another
--     IsTakenBy w from v to      the second guest accepts the bytes saved from the first, and then answers as
--                                   the first would have, and no other guest's replies change
--     IsTakenByEach w from, TakesSavedGuest      each guest with equal declarations does so
--     SavesWhatWasTaken      saving a guest straight after a load returns the loaded bytes
--     NoImageIsRefused      bytes refused with 905 aren't an image
use Rattle.std.specs.{Prelude.{◌≡◌, ℕ, List, [], ◌∷◌, Some, None, IsFalse, IsSome, ⊤}, Str.bytes_eq}
use Rattle.lists.specs.Elements.{Each}
use Rattle.model_board.specs.{Board.{Decl, endpoint, bridge}, State.{BoardFunction, State}}
use Rattle.model_guests.specs.{Text.Text, World.World, Lone.LoneGuest, Guests.{GuestNow, guest_named, lone_of}, WorldNow.{WorldNow, world_over}}
use Rattle.model_handoff.specs.{Handoffs.taken_over, Kept.IsLawfulOver}
use Rattle.model_images.specs.{Images.{Image, image_of_guest, after_load, Fits}, Requests.{Request, acts, loads, restarts, after_request, after_requests, request_inputs}, LoadLaws.{copied, AnswersAlike}, FitLaws.declarations_of, ImageBytes.{image_bytes, image_of}, ByteLaws.{HasBytes, IsDeclared, IsSavableGuest}, LoadedBytes.{load_fault, after_load_bytes}, LoadedLaws.IsFittingImage}

-- a lawful bridge can be serialized
abbrev pub CanBeDeclared : Decl → Type 0
CanBeDeclared (endpoint d) = IsDeclared d
CanBeDeclared (bridge d) = ⊤

abbrev pub AreDeclared : List BoardFunction → Type 0
AreDeclared fs = Each (λ (f : BoardFunction). CanBeDeclared f.decl) fs

pub record CanBeSaved (w : WorldNow) : Type 0 where
  pub declared : AreDeclared w.handoff.functions
  pub guests : Each (λ (g : GuestNow). IsSavableGuest g.lone) w.guests

-- over a handoff, and over the board that guests get from it
pub record IsSavedAtFirst (w : World) (s : State) : Type 0 where
  pub over : IsLawfulOver (world_over w s) → CanBeSaved (world_over w s)
  pub taken_over : IsLawfulOver (world_over w (taken_over w s)) → CanBeSaved (world_over w (taken_over w s))

abbrev pub CanBeSavedAtFirst : Type 0
CanBeSavedAtFirst = (w : World) (s : State) → AreDeclared s.functions → IsSavedAtFirst w s

-- bytes that decode to an image come from an image with an encoding
pub record IsWritableImage (i : Image) (g : LoneGuest) : Type 0 where
  pub fits : Fits i g
  pub bytes : HasBytes i

abbrev pub IsWritableRequest : WorldNow → Request → Type 0
IsWritableRequest w (acts a) = ⊤
IsWritableRequest w (loads n i) = IsWritableImage i (lone_of w.guests n)
IsWritableRequest w (restarts n) = ⊤

abbrev pub AreWritableRequests : WorldNow → List Request → Type 0
AreWritableRequests w [] = ⊤
AreWritableRequests w (r ∷ more) = IsWritableRequest w r × AreWritableRequests (after_request w r) more

abbrev pub CanBeSavedAlong : Type 0
CanBeSavedAlong = (w : WorldNow) → IsLawfulOver w → CanBeSaved w → (requests : List Request)
    → AreWritableRequests w requests → CanBeSaved (after_requests w requests)

-- ---- the saved bytes of a guest

pub record IsAlike (w : WorldNow) (from : Text) (v : WorldNow) (to : Text) : Type 0 where
  pub there : IsSome (guest_named v.guests to)
  pub declarations : declarations_of (lone_of w.guests from) ≡ declarations_of (lone_of v.guests to)

-- whatever other guests do, before and after
pub record IsTakenBy (w : WorldNow) (from : Text) (v : WorldNow) (to : Text) : Type 0 where
  pub image : image_of (image_bytes (image_of_guest from w)) ≡ Some (image_of_guest from w)
  pub accepted : load_fault (lone_of v.guests to) (image_bytes (image_of_guest from w)) ≡ None
  pub world : after_load_bytes to (image_bytes (image_of_guest from w)) v ≡ copied from w to v
  pub answers : (ones others : List Request) → request_inputs from w ones ≡ request_inputs to (copied from w to v) others
      → AnswersAlike w from ones (copied from w to v) to others
  pub others : (name : Text) → IsFalse (bytes_eq to name) → IsSome (guest_named v.guests name)
      → (ones others : List Request) → request_inputs name v ones ≡ request_inputs name (copied from w to v) others
      → AnswersAlike v name ones (copied from w to v) name others

abbrev pub IsTakenByEach : WorldNow → Text → Type 0
IsTakenByEach w from = (v : WorldNow) (to : Text) → IsAlike w from v to → IsTakenBy w from v to

abbrev pub TakesSavedGuest : Type 0
TakesSavedGuest = (w : WorldNow) (from : Text) → IsLawfulOver w → CanBeSaved w → IsSome (guest_named w.guests from)
    → IsTakenByEach w from

-- ---- the loaded bytes

abbrev pub SavesWhatWasTaken : Type 0
SavesWhatWasTaken = (w : WorldNow) (name : Text) → IsSome (guest_named w.guests name) → (bytes : List ℕ) (i : Image)
    → IsFittingImage (lone_of w.guests name) bytes i → image_bytes (image_of_guest name (after_load name i w)) ≡ bytes

abbrev pub NoImageIsRefused : Type 0
NoImageIsRefused = (g : LoneGuest) → IsSavableGuest g → (bytes : List ℕ) → load_fault g bytes ≡ Some 905
    → image_of bytes ≡ None
