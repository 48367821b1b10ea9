-- Laws of loading bytes into a guest.
--     AcceptedIsImage      accepted bytes encode an image that fits the guest
--     ImagesDecided      an image is accepted if it fits, and otherwise refused as belonging to other functions
--     IsTakenByAll g, AlikeAccepted      each guest with equal declarations accepts the bytes of a guest's own image
--     LoadsImage, RefusedStays      the world afterwards is that after loading an image that fits, or unchanged
--     KeepsSavedBytes      loading the bytes just saved changes nothing
use Rattle.std.specs.Prelude.{◌≡◌, ◌⊎◌, ℕ, List, Some, None}
use Rattle.model_board.specs.Board.{Board}
use Rattle.model_guests.specs.{Text.Text, Lone.LoneGuest, Guests.lone_of, Seated.AreSeated, WorldNow.WorldNow}
use Rattle.model_images.specs.{Images.{Image, image_of_lone, image_of_guest, after_load, Fits}, FitLaws.declarations_of, ImageBytes.{image_bytes, image_of}, ByteLaws.{AreBytes, IsSavableGuest}, LoadedBytes.{load_fault, after_load_bytes}}

pub record IsFittingImage (g : LoneGuest) (bytes : List ℕ) (i : Image) : Type 0 where
  pub image : image_of bytes ≡ Some i
  pub fits : Fits i g

abbrev pub AcceptedIsImage : Type 0
AcceptedIsImage = (g : LoneGuest) → IsSavableGuest g → (bytes : List ℕ) → AreBytes bytes → load_fault g bytes ≡ None
    → (i : Image) × IsFittingImage g bytes i

pub record IsOfOthers (g : LoneGuest) (bytes : List ℕ) (i : Image) : Type 0 where
  pub refused : load_fault g bytes ≡ Some 906
  pub not_fitting : Fits i g → ⊥

-- so bytes refused with 905 aren't an image
abbrev pub ImagesDecided : Type 0
ImagesDecided = (g : LoneGuest) → IsSavableGuest g → (bytes : List ℕ) (i : Image) → image_of bytes ≡ Some i
    → ((load_fault g bytes ≡ None) × Fits i g) ⊎ IsOfOthers g bytes i

-- including the guest itself
abbrev pub IsTakenByAll : LoneGuest → Type 0
IsTakenByAll g = (other : LoneGuest) → declarations_of g ≡ declarations_of other
    → load_fault other (image_bytes (image_of_lone g)) ≡ None

abbrev pub AlikeAccepted : Type 0
AlikeAccepted = (g : LoneGuest) → IsSavableGuest g → IsTakenByAll g

-- ---- in a world

pub record IsLoad (w now : WorldNow) (name : Text) (bytes : List ℕ) : Type 0 where
  pub image : Image
  pub is_image : IsFittingImage (lone_of w.guests name) bytes image
  pub world : now ≡ after_load name image w

abbrev pub LoadsImage : Type 0
LoadsImage = (w : WorldNow) (name : Text) → IsSavableGuest (lone_of w.guests name) → (bytes : List ℕ) → AreBytes bytes
    → load_fault (lone_of w.guests name) bytes ≡ None → IsLoad w (after_load_bytes name bytes w) name bytes

abbrev pub RefusedStays : Type 0
RefusedStays = (w : WorldNow) (name : Text) (bytes : List ℕ) (k : ℕ) → load_fault (lone_of w.guests name) bytes ≡ Some k
    → after_load_bytes name bytes w ≡ w

abbrev pub KeepsSavedBytes : Type 0
KeepsSavedBytes = (b : Board) (w : WorldNow) → AreSeated b w.guests → (name : Text)
    → IsSavableGuest (lone_of w.guests name) → after_load_bytes name (image_bytes (image_of_guest name w)) w ≡ w
