-- Laws of saving and loading guests.
--     KeepsWhatWasSaved      loading a guest's current image changes nothing
--     LoadedHolds      a guest's state after a load depends only on the image
--     RestartedHolds      after a restart it is at reset
--     HoldsAsSaved, AnswersAsSaved      a guest loaded with the image of another, of this world or of another
--                                       one, has the saved guest's state, and gives the same replies to the same inputs
--     OthersAfterLoad, NamesAfterLoad, PathsAfterLoad, HandoffAfterLoad      everything else that guests have stays the same
--     BoardBesideLoad      so do the board's functions that the guest doesn't have
--     BoardAfterLoad, LoadsAlike      in the guest's functions, the board takes the values that the guest has no copies of
--     SeatedAfterLoad, LawfulAfterLoad      after loading an image that fits, guests stay seated, and the world is lawful
--     ShownAfterLoad      the board still identifies the same handoff
use Rattle.std.specs.{Prelude.{◌≡◌, ℕ, List, Some, IsFalse, IsSome, slice_get}, Str.bytes_eq}
use Rattle.model_registers.specs.{Registers.File, CopiedFiles.agreed_file}
use Rattle.model_board.specs.{Paths.Path, Board.Board, Ports.file_at}
use Rattle.model_guests.specs.{Text.Text, Guests.{guest_named, lone_of, path_in}, WorldNow.{WorldNow, names_now, board_state}, Seated.AreSeated, ChangeLaws.ChangesAlike}
use Rattle.model_handoff.specs.{Kept.IsLawfulOver, ViewLaws.with_seated_reset}
use Rattle.model_images.specs.{Images.{SavedFunction, Image, image_of_guest, restored, lone_of_image, after_load, at_reset, after_restart, Fits}, Requests.{Request, after_requests, all_told_of, request_inputs}}

abbrev pub KeepsWhatWasSaved : Type 0
KeepsWhatWasSaved = (b : Board) (w : WorldNow) → AreSeated b w.guests → (name : Text)
    → after_load name (image_of_guest name w) w ≡ w

abbrev pub LoadedHolds : Type 0
LoadedHolds = (w : WorldNow) (name : Text) → IsSome (guest_named w.guests name) → (i : Image)
    → lone_of (after_load name i w).guests name ≡ lone_of_image i

abbrev pub RestartedHolds : Type 0
RestartedHolds = (w : WorldNow) (name : Text) → IsSome (guest_named w.guests name)
    → lone_of (after_restart name w).guests name ≡ at_reset (lone_of w.guests name)

-- a guest of w is saved, and loaded into a guest of v
abbrev pub copied : Text → WorldNow → Text → WorldNow → WorldNow
copied from w to v = after_load to (image_of_guest from w) v

pub record IsCopy (w : WorldNow) (from : Text) (v : WorldNow) (to : Text) : Type 0 where
  pub first : IsSome (guest_named w.guests from)
  pub second : IsSome (guest_named v.guests to)
  pub seated : (b : Board) × AreSeated b w.guests

abbrev pub HoldsAsSaved : Type 0
HoldsAsSaved = (w v : WorldNow) (from to : Text) → IsCopy w from v to
    → lone_of (copied from w to v).guests to ≡ lone_of w.guests from

-- whatever else happens in the two worlds
pub record AnswersAlike (w : WorldNow) (from : Text) (ones : List Request) (v : WorldNow) (to : Text)
    (others : List Request) : Type 0 where
  pub replies : all_told_of to v others ≡ all_told_of from w ones
  pub holds : lone_of (after_requests v others).guests to ≡ lone_of (after_requests w ones).guests from

abbrev pub AnswersAsSaved : Type 0
AnswersAsSaved = (w v : WorldNow) (from to : Text) → IsCopy w from v to → (ones others : List Request)
    → request_inputs from w ones ≡ request_inputs to (copied from w to v) others
    → AnswersAlike w from ones (copied from w to v) to others

-- ---- unchanged state

abbrev pub OthersAfterLoad : Type 0
OthersAfterLoad = (w : WorldNow) (name other : Text) (i : Image) → IsFalse (bytes_eq name other)
    → lone_of (after_load name i w).guests other ≡ lone_of w.guests other

abbrev pub NamesAfterLoad : Type 0
NamesAfterLoad = (w : WorldNow) (name : Text) (i : Image) → names_now (after_load name i w) ≡ names_now w

abbrev pub PathsAfterLoad : Type 0
PathsAfterLoad = (w : WorldNow) (name : Text) (i : Image) (other : Text) (n : ℕ)
    → path_in (after_load name i w).guests other n ≡ path_in w.guests other n

abbrev pub HandoffAfterLoad : Type 0
HandoffAfterLoad = (w : WorldNow) (name : Text) (i : Image) → (after_load name i w).handoff ≡ w.handoff

-- other guests' functions, functions in no slot, and bridges
abbrev pub BoardBesideLoad : Type 0
BoardBesideLoad = (b : Board) (w : WorldNow) → AreSeated b w.guests → (name : Text) (i : Image) (p : Path)
    → ((n : ℕ) → path_in w.guests name n ≡ Some p → ⊥)
    → file_at (board_state (after_load name i w)).functions p ≡ file_at (board_state w).functions p

-- the registers that guests have copies of stay as in the handoff
abbrev pub BoardAfterLoad : Type 0
BoardAfterLoad = (b : Board) (w : WorldNow) → AreSeated b w.guests → (name : Text) (i : Image)
    → Fits i (lone_of w.guests name) → (n : ℕ) (p : Path) (s : SavedFunction) → path_in w.guests name n ≡ Some p
    → slice_get i.slots n ≡ Some (Some s)
    → file_at (board_state (after_load name i w)).functions p
    ≡ agreed_file (file_at w.handoff.functions p) (restored s).file

abbrev pub LoadsAlike : Type 0
LoadsAlike = (file : File) → ChangesAlike (λ own. file) (λ shown. agreed_file shown file)

-- ---- images that fit

abbrev pub SeatedAfterLoad : Type 0
SeatedAfterLoad = (b : Board) (w : WorldNow) → AreSeated b w.guests → (name : Text) (i : Image)
    → Fits i (lone_of w.guests name) → AreSeated b (after_load name i w).guests

abbrev pub LawfulAfterLoad : Type 0
LawfulAfterLoad = (w : WorldNow) → IsLawfulOver w → (name : Text) (i : Image) → Fits i (lone_of w.guests name)
    → IsLawfulOver (after_load name i w)

abbrev pub ShownAfterLoad : Type 0
ShownAfterLoad = (w : WorldNow) (name : Text) (i : Image)
    → with_seated_reset w.handoff (after_load name i w).guests ≡ with_seated_reset w.handoff w.guests
