-- Images of guests: a guest's own state, as a value that outlives its world.
--     SavedFunction, Image      a function's declaration and the values of its cells; a guest's CONFIG_ADDRESS and its 32 slots
--     image_of_lone, image_of_guest      the image of a guest by itself; of a guest of a world
--     lone_of_image      the state of a guest after an image is loaded into it
--     after_load name i w      the world in which this guest has the state in the image, and everything else is unchanged
--     at_reset, after_restart name w      a guest with all functions and its CONFIG_ADDRESS at reset; the world with this guest reset
--     fixed_bits, can_hold, fit_cells      the values that a cell, and the cells of a function, can take
--     Fits i g      the images that fit a guest: equal declarations slot by slot, and values that their cells can take
use Rattle.std.specs.Prelude.{List, [], ◌∷◌, ◌≡◌, ℕ, Bool, true, false, ◌&&◌, ◌||◌, ◌==◌, bit_and, map, Option, Some, None, option_map, IsTrue, ⊤}
use Rattle.model_registers.specs.{Cell.{Cell, except}, Registers.{PlacedCell, File}, Declarations.Endpoint, EndpointTable.endpoint_reset, DeviceBytes.{is_device_byte, with_value}, Decoding.Function, ConfigAddress.latched}
use Rattle.model_guests.specs.{Slots.{Slots, reset_function}, Text.Text, Lone.LoneGuest, Guests.{GuestNow, lone_of, with_guest}, WorldNow.WorldNow}

-- the values in the order of the cells at reset
pub record SavedFunction : Type 0 where
  pub decl : Endpoint
  pub values : List ℕ

pub record Image : Type 0 where
  pub latch : ℕ
  pub slots : List (Option SavedFunction)

-- ---- saved

abbrev pub values_of : File → List ℕ
values_of file = map (λ (e : PlacedCell). e.cell.value) file

abbrev pub saved : Function → SavedFunction
saved f = record { decl = f.decl; values = values_of f.file }

abbrev pub image_of_lone : LoneGuest → Image
image_of_lone g = record { latch = g.latch; slots = map (option_map saved) g.slots }

abbrev pub image_of_guest : Text → WorldNow → Image
image_of_guest name w = image_of_lone (lone_of w.guests name)

-- ---- loaded

-- the cells with these values; places and masks are kept
abbrev pub with_values : List ℕ → File → File
with_values vs [] = []
with_values [] (e ∷ es) = e ∷ es
with_values (v ∷ vs) (e ∷ es) = record e { cell = with_value v e.cell } ∷ with_values vs es

-- the declaration determines the places of cells and their masks
abbrev pub restored : SavedFunction → Function
restored s = record { decl = s.decl; file = with_values s.values (endpoint_reset s.decl false) }

abbrev pub lone_of_image : Image → LoneGuest
lone_of_image i = record { slots = map (option_map restored) i.slots; latch = i.latch }

abbrev pub loaded : Image → GuestNow → GuestNow
loaded i g = record g { lone = lone_of_image i }

-- the handoff and the functions' paths on the board stay the same
abbrev pub after_load : Text → Image → WorldNow → WorldNow
after_load name i w = record w { guests = with_guest (loaded i) name w.guests }

-- ---- at reset

abbrev pub function_at_reset : Option Function → Option Function
function_at_reset o = reset_function (option_map (λ (f : Function). f.decl) o)

abbrev pub at_reset : LoneGuest → LoneGuest
at_reset g = record { slots = map function_at_reset g.slots; latch = 0 }

-- the same as loading the guest's image at reset
abbrev pub after_restart : Text → WorldNow → WorldNow
after_restart name w = after_load name (image_of_lone (at_reset (lone_of w.guests name))) w

-- ---- images that fit

-- the bits of a byte that no access changes in the cell
abbrev pub fixed_bits : Cell → ℕ → ℕ
fixed_bits c v = bit_and (bit_and v (except c.writable)) (except c.clearable)

-- a device may write any byte of its own; elsewhere the fixed bits keep their reset values
abbrev pub can_hold : PlacedCell → ℕ → Bool
can_hold e v = is_device_byte e.place || fixed_bits e.cell v == fixed_bits e.cell e.cell.value

-- a value for each cell of a file at reset
abbrev pub fit_cells : File → List ℕ → Bool
fit_cells [] [] = true
fit_cells [] (v ∷ vs) = false
fit_cells (e ∷ es) [] = false
fit_cells (e ∷ es) (v ∷ vs) = can_hold e v && fit_cells es vs

abbrev pub fits_declaration : SavedFunction → Bool
fits_declaration s = fit_cells (endpoint_reset s.decl false) s.values

pub record FitsFunction (s : SavedFunction) (f : Function) : Type 0 where
  pub decl : s.decl ≡ f.decl
  pub values : IsTrue (fits_declaration s)

abbrev pub FitsSlot : Option SavedFunction → Option Function → Type 0
FitsSlot None None = ⊤
FitsSlot None (Some f) = ⊥
FitsSlot (Some s) None = ⊥
FitsSlot (Some s) (Some f) = FitsFunction s f

abbrev pub FitSlots : List (Option SavedFunction) → Slots → Type 0
FitSlots [] [] = ⊤
FitSlots [] (f ∷ fs) = ⊥
FitSlots (s ∷ ss) [] = ⊥
FitSlots (s ∷ ss) (f ∷ fs) = FitsSlot s f × FitSlots ss fs

-- unused bits of CONFIG_ADDRESS are 0
pub record Fits (i : Image) (g : LoneGuest) : Type 0 where
  pub latch : latched i.latch ≡ i.latch
  pub slots : FitSlots i.slots g.slots
