-- The bytes that a guest accepts, slot by slot: the offset of each function's values, and the image that the bytes encode.
--     le_number bytes      the number that these bytes encode, low byte first
--     values_begin d      how many bytes of a slot precede the values of a function with this declaration
--     slot_size f      how many bytes a slot has
--     taken_function, taken_slot, taken_slots      the saved state in the bytes of a function, of a slot, and of slots
--     taken_image g bytes      the image that the bytes encode, if the guest accepts them
--     IsTakenSlot f fs bytes rest      the bytes accepted for a slot, and those after it
--     SlotsAreTaken      slots are accepted one after the other, as a loop over them may assume
--     IsTakenImage, ImageIsTaken      the bytes before the slots, followed by the slots
--     IsDeclaredGuest g      its declarations can be serialized, whatever its functions hold
--     AcceptedIsTaken      accepted bytes encode this image, which fits the guest
use Rattle.std.specs.Prelude.{List, [], ◌∷◌, ◌≡◌, ◌≤◌, ℕ, ◌+◌, ◌*◌, false, length, take, drop, Option, Some, None, Ok, ⊤}
use Rattle.lists.specs.Elements.{Each}
use Rattle.model_registers.specs.{ConfigAddress.latched, Declarations.Endpoint, EndpointTable.endpoint_reset, Decoding.Function}
use Rattle.model_guests.specs.{Slots.Slots, Lone.LoneGuest}
use Rattle.model_images.specs.{Images.{SavedFunction, Image, FitsSlot}, Layouts.{parsed, parse_number}, ImageBytes.{magic, version, declaration_bytes}, ByteLaws.{AreBytes, IsDeclared}, LoadedBytes.{after_beginning, after_slot, after_slots, load_fault}, LoadedLaws.IsFittingImage}

abbrev pub le_number : List ℕ → ℕ
le_number [] = 0
le_number (b ∷ bytes) = b + 256 * le_number bytes

-- ---- a slot

-- the byte for a filled slot, and the declaration
abbrev pub values_begin : Endpoint → ℕ
values_begin d = 1 + length (declaration_bytes d)

abbrev pub slot_size : Option Function → ℕ
slot_size None = 1
slot_size (Some f) = values_begin f.decl + length (endpoint_reset f.decl false)

abbrev pub taken_function : Function → List ℕ → SavedFunction
taken_function f bytes = record {
  decl = f.decl;
  values = take (length (endpoint_reset f.decl false)) (drop (values_begin f.decl) bytes);
}

abbrev pub taken_slot : Option Function → List ℕ → Option SavedFunction
taken_slot None bytes = None
taken_slot (Some f) bytes = Some (taken_function f bytes)

-- ---- slots, and an image

abbrev pub taken_slots : Slots → List ℕ → List (Option SavedFunction)
taken_slots [] bytes = []
taken_slots (f ∷ fs) bytes = taken_slot f bytes ∷ taken_slots fs (drop (slot_size f) bytes)

-- four bytes of magic, four of version, four of CONFIG_ADDRESS
abbrev pub taken_image : LoneGuest → List ℕ → Image
taken_image g bytes = record { latch = le_number (take 4 (drop 8 bytes)); slots = taken_slots g.slots (drop 12 bytes) }

-- ---- laws

-- a byte for each cell of a function, with a value that the cell can hold
pub record IsTakenSlot (f : Option Function) (fs : Slots) (bytes rest : List ℕ) : Type 0 where
  pub slot : after_slot f bytes ≡ Ok (drop (slot_size f) bytes)
  pub enough : slot_size f ≤ length bytes
  pub fits : FitsSlot (taken_slot f bytes) f
  pub others : after_slots fs (drop (slot_size f) bytes) ≡ Ok rest

abbrev pub SlotsAreTaken : Type 0
SlotsAreTaken = (f : Option Function) (fs : Slots) (bytes rest : List ℕ) → after_slots (f ∷ fs) bytes ≡ Ok rest
    → IsTakenSlot f fs bytes rest

pub record IsTakenImage (g : LoneGuest) (bytes : List ℕ) : Type 0 where
  pub enough : 12 ≤ length bytes
  pub begins : after_beginning magic version bytes ≡ Ok (drop 8 bytes)
  pub read : parse_number 4 (drop 8 bytes) ≡ Some (parsed (taken_image g bytes).latch (drop 12 bytes))
  pub latch : latched (taken_image g bytes).latch ≡ (taken_image g bytes).latch
  pub slots : after_slots g.slots (drop 12 bytes) ≡ Ok []

abbrev pub ImageIsTaken : Type 0
ImageIsTaken = (g : LoneGuest) (bytes : List ℕ) → load_fault g bytes ≡ None → IsTakenImage g bytes

abbrev pub HoldsDeclared : Option Function → Type 0
HoldsDeclared None = ⊤
HoldsDeclared (Some f) = IsDeclared f.decl

pub record IsDeclaredGuest (g : LoneGuest) : Type 0 where
  pub count : length g.slots ≡ 32
  pub functions : Each HoldsDeclared g.slots

abbrev pub AcceptedIsTaken : Type 0
AcceptedIsTaken = (g : LoneGuest) → IsDeclaredGuest g → (bytes : List ℕ) → AreBytes bytes → load_fault g bytes ≡ None
    → IsFittingImage g bytes (taken_image g bytes)
