-- Cells that come to a value that they can hold: as they stand, as it is written, or as it is put.
use Rattle.std.{proofs.{Common.{◌≡◌, ℕ, zero, suc, ◌+◌, ◌-◌, ◌/◌, ◌%◌, ◌<◌, ◌≤◌, true, false, List, [], ◌∷◌, sym, ap, ap₂, ◌∙◌, arith}, Math.Nat.mod-eq_of_lt, lemmas.{Bool.{eqb-true, Decides.nat_tests}, Nat.{and-not, and_comm, and_mask, or_disjoint}}}, specs.{Prelude.{bit_and, bit_or}, Int.Bits.{or_zero_r, and_zero_r, and_zero_l, and_le_l}}}
use Rattle.lists.specs.Elements.{Each}
use Rattle.model_registers.specs.{Cell.{Cell, written}, Registers.{Place, config, after, PlacedCell, File, field}, DeviceBytes.{is_device_byte, with_value}}
use Rattle.model_images.{specs.Images.{fixed_bits, can_hold}, proofs.FixedBits.{none_outside, none_in}}

-- how a cell comes to a value
pub data Way : Type 0 where
  keeps : Way
  writes : Way
  puts : Way

abbrev pub becomes : Way → ℕ → Cell → Cell
becomes keeps v c = c
becomes writes v c = written (v % 256) c
becomes puts v c = with_value (v % 256) c

abbrev pub Settles : Way → PlacedCell → Type 0
Settles way e = (v : ℕ) → v < 256 → can_hold e v ≡ true → becomes way v e.cell ≡ with_value v e.cell

-- n places, one after the other
abbrev pub from : Place → ℕ → List Place
from p zero = []
from p (suc n) = p ∷ from (after p) n

abbrev pub AreNoDeviceBytes : Place → ℕ → Type 0
AreNoDeviceBytes p n = Each (λ q. is_device_byte q ≡ false) (from p n)

-- ---- bits

in_byte : (n : ℕ) → n < 256 → bit_and n 255 ≡ n
in_byte n low = and_mask n 8 ∙ mod-eq_of_lt low

-- a cell with no clearable bits
written_value : (x w v : ℕ) → v < 256 → w < 256 → bit_and (bit_and v (255 - w)) 255 ≡ bit_and (bit_and x (255 - w)) 255
    → bit_or (bit_or (bit_and (bit_and x (255 - w)) 255) (bit_and v w)) (bit_and (bit_and x 0) (255 - v)) ≡ v
written_value x w v low mask same =
    let rest : ℕ = bit_and v (255 - w) in
    let small : rest < 256 = omega (arith, and_le_l v (255 - w)) in
    let kept : bit_and (bit_and x (255 - w)) 255 ≡ rest = sym same ∙ in_byte rest small in
    let none : bit_and (bit_and x 0) (255 - v) ≡ 0 = ap (λ t. bit_and t (255 - v)) (and_zero_r x) ∙ and_zero_l (255 - v) in
    let apart : bit_and rest (bit_and v w) ≡ 0 = none_in v (255 - w) v w (and_comm (255 - w) w ∙ none_outside w) in
    let parts : bit_and (255 - w) v + bit_and w v ≡ v = and-not 8 w v mask low in
    ap₂ bit_or (ap (λ t. bit_or t (bit_and v w)) kept) none ∙ or_zero_r (bit_or rest (bit_and v w)) ∙ or_disjoint rest (bit_and v w) apart
    ∙ ap₂ (λ a b. a + b) (and_comm v (255 - w)) (and_comm v w) ∙ parts

-- ---- cells

-- away from a device's bytes the fixed bits are those that stand
fixed_same : (e : PlacedCell) (v : ℕ) → is_device_byte e.place ≡ false → can_hold e v ≡ true → fixed_bits e.cell v ≡ fixed_bits e.cell e.cell.value
fixed_same e v none holds = grind (arith, eqb-true)

-- a byte of a register that nothing changes
pub kept_byte : (a x : ℕ) → is_device_byte (config a) ≡ false → Settles keeps (record { place = config a; cell = record { value = x % 256; writable = 0; clearable = 0 } })
kept_byte a x none v low holds = grind (arith, in_byte, fixed_same)

pub written_field : (a n x w : ℕ) → AreNoDeviceBytes (config a) n → Each (Settles writes) (field (config a) n x w 0)
written_field a zero x w none = tt
written_field a (suc n) x w none = grind (arith, fixed_same, mod-eq_of_lt, written_value, written_field (a + 1) n (x / 256) (w / 256) none.1)

pub put_cells : (file : File) → Each (Settles puts) file
put_cells [] = tt
put_cells (e ∷ es) = (λ v low holds. ap (λ t. with_value t e.cell) (mod-eq_of_lt low), put_cells es)

-- ---- places

pub no_device_bytes : (a n : ℕ) → 8 ≤ a → a + n ≤ 0x34 → AreNoDeviceBytes (config a) n
no_device_bytes a zero low high = tt
no_device_bytes a (suc n) low high = grind (arith, nat_tests, no_device_bytes (a + 1) n)
