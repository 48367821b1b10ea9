-- The results of saving and loading a guest, as C receives them, and the machine after a guest is reset.
--     image_asked w guest      the bytes of the image of a guest by its index
--     IsTakenAsSaved m guest      every guest with equal declarations can load this image, and then answers as this guest would
--     IsStop g bytes slot offset      where bytes that a guest refuses as an image of other functions or of another version stop
--         fitting it; of other bytes, slot 32 and how many there are
--     TellsStop o guest bytes slot offset n      this is told of a machine, if there is one: else 901, and 902 without such a guest
--     after_restart m guest      the machine after this guest was put to reset
--     load_number w guest bytes      0, or the number of why bytes can't be loaded into the guest
--     load_asked m guest bytes      the result of the load, or 902 if the machine has no such guest
use Rattle.std.specs.Prelude.{◌≡◌, ◌≤◌, ◌<◌, ℕ, true, false, if◌then◌else◌, length, nat_lt, unwrap_or, Option, IfNone, IfSome}
use Rattle.model_guests.specs.{Text.Text, Lone.LoneGuest, Guests.lone_of, WorldNow.WorldNow}
use Rattle.model_handoff.specs.Changes.{MachineNow}
use Rattle.model_images.specs.{Images.image_of_guest, Requests.restarts, RequestLaws.after_request_on_machine, ImageBytes.image_bytes, LoadedBytes.load_fault, SavedLaws.IsTakenByEach, Stops.{StopsAt, stop_slot, is_told}}
use Rattle.board_told.specs.GuestFindings.{lone_asked}
use Rattle.monitor.specs.ByIndex.{name_nth}

abbrev pub image_asked : WorldNow → ℕ → Text
image_asked w guest = image_bytes (image_of_guest (name_nth w guest) w)

-- whatever else happens in the two worlds
unfoldable pub IsTakenAsSaved : MachineNow → ℕ → Type 0
IsTakenAsSaved m guest = IsTakenByEach m.world (name_nth m.world guest)

pub record IsStop (g : LoneGuest) (bytes : Text) (slot offset : ℕ) : Type 0 where
  pub at : is_told (load_fault g bytes) ≡ true → StopsAt g bytes offset
  pub in_slot : is_told (load_fault g bytes) ≡ true → slot ≡ stop_slot g bytes
  pub within : is_told (load_fault g bytes) ≡ true → offset < length bytes
  pub nowhere : is_told (load_fault g bytes) ≡ false → (slot ≡ 32) × (offset ≡ length bytes)

pub record TellsStop (o : Option MachineNow) (guest : ℕ) (bytes : Text) (slot offset n : ℕ) : Type 0 where
  pub nothing : IfNone o (n ≡ 901)
  pub nobody : IfSome o (λ m. length m.world.guests ≤ guest → n ≡ 902)
  pub told : IfSome o (λ m. guest < length m.world.guests → (n ≡ 0) × IsStop (lone_asked m.world guest) bytes slot offset)

unfoldable pub after_restart : MachineNow → ℕ → MachineNow
after_restart m guest = after_request_on_machine m (restarts (name_nth m.world guest))

unfoldable pub load_number : WorldNow → ℕ → Text → ℕ
load_number w guest bytes = unwrap_or (load_fault (lone_of w.guests (name_nth w guest)) bytes) 0

abbrev pub load_asked : MachineNow → ℕ → Text → ℕ
load_asked m guest bytes = if nat_lt guest (length m.world.guests) then load_number m.world guest bytes else 902
