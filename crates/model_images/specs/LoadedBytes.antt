-- How bytes are loaded into a guest: they are compared with the declarations of its functions, slot by slot, and the first
-- byte that fails decides the refusal.
--     then_read next r      applies `next` to the remaining bytes, unless there was a refusal
--     after_bytes k xs bytes      the bytes after these ones; the refusal k if a byte differs
--     after_values file bytes      the bytes after a value for each cell that the cell can hold
--     after_slot      the bytes after those of a slot
--     after_slots, after_image      the bytes after those of slots, and after an image of this guest, which must be the end
--     after_version v, after_beginning m v      the bytes after a version, and after the start of an image
--     load_fault g bytes      905 if the bytes aren't an image, 908 if their version is another one, 906 if they
--                             declare other functions
--     after_load_bytes      the world after loading the bytes
use Rattle.std.specs.{Prelude.{List, [], ◌∷◌, ◌++◌, ℕ, ◌==◌, false, if◌then◌else◌, is_some, Option, Some, None, Result, Ok, Err}, Option.option_map_or}
use Rattle.model_registers.specs.{Registers.File, ConfigAddress.latched, EndpointTable.endpoint_reset, Decoding.Function}
use Rattle.model_guests.specs.{Slots.Slots, Text.Text, Lone.LoneGuest, Guests.lone_of, WorldNow.WorldNow}
use Rattle.model_images.specs.{Images.{Image, can_hold, after_load}, Layouts.{Parsed, le_bytes, parse_number}, ImageBytes.{magic, version, declaration_bytes, image_of}}

-- the remaining bytes, or a refusal
abbrev pub Left : Type 0
Left = Result (List ℕ) ℕ

abbrev pub then_read : (List ℕ → Left) → Left → Left
then_read next (Ok bytes) = next bytes
then_read next (Err k) = Err k

abbrev pub after_bytes : ℕ → List ℕ → List ℕ → Left
after_bytes k [] bytes = Ok bytes
after_bytes k (x ∷ xs) [] = Err 905
after_bytes k (x ∷ xs) (b ∷ bytes) = if x == b then after_bytes k xs bytes else Err k

abbrev pub after_values : File → List ℕ → Left
after_values [] bytes = Ok bytes
after_values (e ∷ es) [] = Err 905
after_values (e ∷ es) (b ∷ bytes) = if can_hold e b then after_values es bytes else Err 905

abbrev pub after_slot : Option Function → List ℕ → Left
after_slot None bytes = after_bytes 906 (0 ∷ []) bytes
after_slot (Some f) bytes =
    then_read (after_values (endpoint_reset f.decl false)) (after_bytes 906 (1 ∷ declaration_bytes f.decl) bytes)

-- no byte remains
abbrev pub at_end : List ℕ → Left
at_end [] = Ok []
at_end (b ∷ bytes) = Err 905

abbrev pub after_slots : Slots → List ℕ → Left
after_slots [] bytes = at_end bytes
after_slots (f ∷ fs) bytes = then_read (after_slots fs) (after_slot f bytes)

abbrev pub after_number : Option (Parsed ℕ) → Left
after_number None = Err 905
after_number (Some p) = if latched p.value == p.value then Ok p.rest else Err 905

abbrev pub after_latch : List ℕ → Left
after_latch bytes = after_number (parse_number 4 bytes)

abbrev pub header : List ℕ
header = le_bytes 4 magic ++ le_bytes 4 version

abbrev pub after_version : ℕ → List ℕ → Left
after_version v bytes = after_bytes 908 (le_bytes 4 v) bytes

-- the rest is decoded only if the version is this one
abbrev pub after_beginning : ℕ → ℕ → List ℕ → Left
after_beginning m v bytes = then_read (after_version v) (after_bytes 905 (le_bytes 4 m) bytes)

abbrev pub after_image : LoneGuest → List ℕ → Left
after_image g bytes = then_read (after_slots g.slots) (then_read after_latch (after_beginning magic version bytes))

abbrev pub fault_of : Left → Option ℕ
fault_of (Ok bytes) = None
fault_of (Err k) = Some k

abbrev pub load_fault : LoneGuest → List ℕ → Option ℕ
load_fault g bytes = fault_of (after_image g bytes)

-- refused bytes change nothing
abbrev pub after_load_bytes : Text → List ℕ → WorldNow → WorldNow
after_load_bytes name bytes w =
    if is_some (load_fault (lone_of w.guests name) bytes) then w
    else option_map_or (λ (i : Image). after_load name i w) (image_of bytes) w
