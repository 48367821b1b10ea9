-- A function as its guest sees it, and its bytes in an image.
--     seen e own      the board's endpoint with the guest's own copies put in
--     HasDeclaredPlaces e      its cells are at the places at which the declaration has cells at reset
--     source e own p, shown_byte e own p      the cells that tell a byte, and the byte
--     bytes_from e own p n      n bytes from a place on
--     header_values, block_values, region_values, shown_values      the bytes of all cells, part by part
--     function_bytes f, slot_bytes o      the bytes of a function, and of a slot
--     after_filled d bytes      the bytes after those of a slot that is filled with a function of this declaration
use Rattle.std.specs.Prelude.{◌≡◌, List, [], ◌∷◌, ◌++◌, ℕ, zero, suc, ◌*◌, ◌%◌, false, if◌then◌else◌, length, flat_map, Option, Some, None}
use Rattle.model_registers.specs.{Registers.{Place, config, block, after, File, cell_at}, Declarations.{registers_of, Region, ConfigBlock, Endpoint}, EndpointTable.{base_register, endpoint_reset}, OwnCopies.{is_own, OwnCopies, own_file}, CopiedFiles.{places_of, with_copies}, Decoding.Function}
use Rattle.model_images.specs.{Images.saved, ImageBytes.function_layout, LoadedBytes.{Left, after_slot}}

abbrev pub seen : Function → OwnCopies → Function
seen e own = record e { file = with_copies (own_file own) e.file }

abbrev pub HasDeclaredPlaces : Function → Type 0
HasDeclaredPlaces e = places_of e.file ≡ places_of (endpoint_reset e.decl false)

-- ---- bytes

abbrev pub source : Function → OwnCopies → Place → File
source e own p = if is_own p then own_file own else e.file

unfoldable pub shown_byte : Function → OwnCopies → Place → ℕ
shown_byte e own p = (cell_at (source e own p) p).value % 256

unfoldable pub bytes_from : Function → OwnCopies → Place → ℕ → List ℕ
bytes_from e own p zero = []
bytes_from e own p (suc n) = shown_byte e own p ∷ bytes_from e own (after p) n

-- ---- all values

abbrev pub header_values : Function → OwnCopies → List ℕ
header_values e own =
    bytes_from e own (config 0) 15 ++ (bytes_from e own (config 0x2c) 4 ++ bytes_from e own (config 0x3c) 4)

abbrev pub block_values : Function → OwnCopies → ConfigBlock → List ℕ
block_values e own b = bytes_from e own (config b.offset) (length b.cells)

-- the base address register, then the cells
abbrev pub region_values : Function → OwnCopies → Region → List ℕ
region_values e own r =
    bytes_from e own (base_register r.index) (4 * registers_of r.kind)
    ++ bytes_from e own (block r.index 0) (length r.cells)

abbrev pub shown_values : Function → OwnCopies → Endpoint → List ℕ
shown_values e own d =
    header_values e own ++ (flat_map (block_values e own) d.blocks ++ flat_map (region_values e own) d.regions)

-- ---- in an image

unfoldable pub function_bytes : Function → List ℕ
function_bytes f = function_layout.bytes (saved f)

-- whether it is filled, and with what
abbrev pub slot_bytes : Option Function → List ℕ
slot_bytes None = 0 ∷ []
slot_bytes (Some f) = 1 ∷ function_bytes f

-- whatever its cells hold
unfoldable pub after_filled : Endpoint → List ℕ → Left
after_filled d bytes = after_slot (Some (record { decl = d; file = [] })) bytes
