-- Cells that hold bytes, and of whose bits no write of a byte and no device makes more.
use Rattle.std.{proofs.{Common.{◌≡◌, ℕ, zero, suc, ◌/◌, ◌<◌, Bool, true, false, List, [], ◌∷◌, Some, None, Option, arith}, lemmas.Nat.{and_le_l, and_le_r, or_lt}}, specs.Prelude.{bit_and, flat_map, ⊤}}
use Rattle.lists.{specs.Elements.Each, proofs.EachLemmas.{each_append, each_map}}
use Rattle.model_registers.specs.{Cell.{Cell, IsCell, except, written, raised}, Registers.{Place, after, PlacedCell, File, changed, write, field, cells_from}, AccessLaws.HoldsBytes, CopiedFiles.shape_of, Declarations.{Region, ConfigBlock, Endpoint}, DeviceBytes.with_value, EndpointTable.{region_cells, block_cells, header_cells, endpoint_reset}, Decoding.Function}
use Rattle.model_images.{proofs.KeptFunctions.AreKept, specs.ByteLaws.HasCells}

pub record IsByteCell (c : Cell) : Type 0 where
  pub value : c.value < 256
  pub clearable : c.clearable < 256

abbrev pub AreByteCells : File → Type 0
AreByteCells file = Each (λ (e : PlacedCell). IsByteCell e.cell) file

pub hold_bytes : (file : File) → AreByteCells file → HoldsBytes file
hold_bytes file h = each_map (λ (e : PlacedCell). IsByteCell e.cell) (λ (e : PlacedCell). e.cell.value < 256) file (λ e k. k.value) h

-- masks are told by the shape
pub of_shape : (file reset : File) → shape_of file ≡ shape_of reset → AreByteCells reset → HoldsBytes file → AreByteCells file
of_shape [] [] same h k = tt
of_shape (e ∷ es) (r ∷ rs) same h k = grind (arith, of_shape es rs)
of_shape file reset same h k = cc

-- ---- at reset

field_bytes : (n v rw w1c : ℕ) (p : Place) → AreByteCells (field p n v rw w1c)
field_bytes zero v rw w1c p = tt
field_bytes (suc n) v rw w1c p = (record { value = omega arith; clearable = omega arith }, field_bytes n (v / 256) (rw / 256) (w1c / 256) (after p))

cells_bytes : (cs : List Cell) (p : Place) → Each IsCell cs → AreByteCells (cells_from p cs)
cells_bytes [] p h = tt
cells_bytes (c ∷ cs) p h = (record { value = h.0.value_fits; clearable = h.0.clearable_fits }, cells_bytes cs (after p) h.1)

blocks_bytes : (bs : List ConfigBlock) → Each (λ (b : ConfigBlock). Each IsCell b.cells) bs → AreByteCells (flat_map block_cells bs)
blocks_bytes [] h = tt
blocks_bytes (b ∷ bs) h = grind (arith, each_append, cells_bytes, blocks_bytes bs h.1)

regions_bytes : (rs : List Region) → Each (λ (r : Region). Each IsCell r.cells) rs → AreByteCells (flat_map (region_cells (λ r. 0)) rs)
regions_bytes [] h = tt
regions_bytes (r ∷ rs) h = grind (arith, each_append, field_bytes, cells_bytes, regions_bytes rs h.1)

header_bytes : (d : Endpoint) → AreByteCells (header_cells d false 0)
header_bytes d = grind (arith, each_append, field_bytes)

pub reset_bytes : (d : Endpoint) → HasCells d → AreByteCells (endpoint_reset d false)
reset_bytes d h = grind (arith, each_append, header_bytes, blocks_bytes, regions_bytes)

-- ---- changed

below : (a b : ℕ) → a < 256 → bit_and a b < 256
below a b h = let less = and_le_l a b in omega arith

above : (a b : ℕ) → b < 256 → bit_and a b < 256
above a b h = let less = and_le_r a b in omega arith

abbrev KeepsBytes : (Cell → Cell) → Type 0
KeepsBytes f = (c : Cell) → IsByteCell c → IsByteCell (f c)

written_byte : (b : ℕ) → b < 256 → KeepsBytes (written b)
written_byte b low c h =
    let kept = below (bit_and c.value (except c.writable)) (except c.clearable) (below c.value (except c.writable) h.value) in
    let taken = below b c.writable low in
    let cleared = below (bit_and c.value c.clearable) (except b) (below c.value c.clearable h.value) in
    grind (arith, or_lt 8 (bit_and (bit_and c.value (except c.writable)) (except c.clearable)) (bit_and b c.writable) kept taken, or_lt 8)

raised_byte : (m : ℕ) → KeepsBytes (raised m)
raised_byte m c h = record { value = or_lt 8 c.value (bit_and m c.clearable) h.value (above m c.clearable h.clearable); clearable = h.clearable }

put_byte : (v : ℕ) → v < 256 → KeepsBytes (with_value v)
put_byte v low c h = record { value = low; clearable = h.clearable }

changed_bytes : (f : Cell → Cell) → KeepsBytes f → (p : Place) (file : File) → AreByteCells file → AreByteCells (changed f p file)
changed_bytes f keeps p [] h = tt
changed_bytes f keeps p (e ∷ es) h = grind (arith, changed_bytes f keeps p es h.1)

write_bytes : (ons : List Bool) (v : ℕ) (p : Place) (file : File) → AreByteCells file → AreByteCells (write ons v p file)
write_bytes [] v p file h = h
write_bytes (true ∷ ons) v p file h = grind (arith, changed_bytes, written_byte, write_bytes ons (v / 256))
write_bytes (false ∷ ons) v p file h = write_bytes ons (v / 256) (after p) file h

-- ---- a function, if its declaration can be written

abbrev pub HoldsByteCells : Option Function → Type 0
HoldsByteCells None = ⊤
HoldsByteCells (Some f) = HasCells f.decl → AreByteCells f.file

pub byte_cells_kept : AreKept HoldsByteCells
byte_cells_kept = grind (arith, write_bytes, changed_bytes, raised_byte, put_byte, reset_bytes)
