-- A register of writable and fixed bits takes back what it held, whatever was written to it in between.
use Rattle.std.{proofs.{Common.{◌≡◌, ℕ, zero, suc, ◌+◌, ◌-◌, ◌*◌, ◌/◌, ◌%◌, ◌<◌, Bool, false, ◌||◌, cond, List, [], ◌∷◌, length, refl, ap, ap₂, ◌∙◌, arith, w8, min, max}, lemmas.Nat.{and_mask, and_le_l, and_le_r, or_lt, Bits.{bit_at_and, bit_at_or, bit_at_not, bit_at-lt, same_from_bits_below}}, Math.Nat.mod-eq_of_lt}, specs.{Prelude.{bit_and, bit_or}, Int.{bit_at, Bits.{or_zero_r, and_zero_r}}}}
use Rattle.model_registers.{specs.{Cell.{Cell, written}, Registers.{config, File, read, write, field}, FileLaws.has_place}, proofs.{RegisterFiles.{self, above, read_here}, EnabledBytes.{read_past, write_past}, Files.{change_none, places_stay}}}

-- ---- one byte

-- the writable bits of b and the fixed ones of v
abbrev mixed : ℕ → ℕ → ℕ → ℕ
mixed v w b = bit_or (bit_and v (255 - w)) (bit_and b w)

value_written : (v w b : ℕ) → v < 256 → bit_or (bit_or (bit_and (bit_and v (255 - w)) 255) (bit_and b w)) (bit_and (bit_and v 0) (255 - b)) ≡ mixed v w b
value_written v w b h =
    let fixed : ℕ = bit_and v (255 - w) in
    let small : fixed < 256 = omega (arith, and_le_l v (255 - w)) in
    ap₂ bit_or (ap (λ n. bit_or n (bit_and b w)) (and_mask fixed 8 ∙ mod-eq_of_lt small)) (ap (λ n. bit_and n (255 - b)) (and_zero_r v))
    ∙ or_zero_r (mixed v w b)

mixed_fits : (v w b : ℕ) → v < 256 → w < 256 → mixed v w b < 256
mixed_fits v w b h k = or_lt 8 (bit_and v (255 - w)) (bit_and b w) (omega (arith, and_le_l v (255 - w))) (omega (arith, and_le_r b w))

-- at a bit, where w is 1 the mixed number has the bit of b, and else that of v
mixed_bit : (v w b i : ℕ) → w < 256 → i < 8 → bit_at (mixed v w b) i ≡ max (min (bit_at v i) (1 - bit_at w i)) (min (bit_at b i) (bit_at w i))
mixed_bit v w b i h k =
    bit_at_or (bit_and v (255 - w)) (bit_and b w) i
    ∙ ap₂ max (bit_at_and v (255 - w) i ∙ ap (min (bit_at v i)) (bit_at_not w8 w i h k)) (bit_at_and b w i)

mixed_back : (v w b : ℕ) → v < 256 → w < 256 → mixed (mixed v w b) w v ≡ v
mixed_back v w b h k = same_from_bits_below 8 (mixed (mixed v w b) w v) v (mixed_fits (mixed v w b) w v (mixed_fits v w b h k) k) h
    (λ i l. mixed_bit (mixed v w b) w v i k l ∙ ap (λ n. max (min n (1 - bit_at w i)) (min (bit_at v i) (bit_at w i))) (mixed_bit v w b i k l)
    ∙ one_bit (bit_at v i) (bit_at w i) (bit_at b i) (bit_at-lt v i) (bit_at-lt w i) (bit_at-lt b i))
  where
    one_bit : (v w b : ℕ) → v < 2 → w < 2 → b < 2 → max (min (max (min v (1 - w)) (min b w)) (1 - w)) (min v w) ≡ v
    one_bit v w b hv hw hb = omega arith

abbrev cell_of : ℕ → ℕ → Cell
cell_of v w = record { value = v; writable = w; clearable = 0 }

written_mixed : (v w b : ℕ) → v < 256 → written b (cell_of v w) ≡ cell_of (mixed v w b) w
written_mixed v w b h = ap (λ n. record { value = n; writable = w; clearable = 0 }) (value_written v w b h)

written_back : (v w b : ℕ) → v < 256 → w < 256 → written v (written b (cell_of v w)) ≡ cell_of v w
written_back v w b h k = grind (arith, written_mixed, mixed_fits, mixed_back)

-- ---- a register of several bytes

-- no cell of a register stands below it
pub field_lacks_below : (n a q v w c : ℕ) → q < a → has_place (field (config a) n v w c) (config q) ≡ false
field_lacks_below zero a q v w c h = refl
field_lacks_below (suc n) a q v w c h = ap₂ (λ (s t : Bool). s || t) (above a q h) (field_lacks_below n (a + 1) q (v / 256) (w / 256) (c / 256) (omega arith))

-- a write of the lowest byte changes the first cell alone
first_written : (on : Bool) (ons : List Bool) (x a : ℕ) (c : Cell) (es : File) → has_place es (config a) ≡ false
    → write (on ∷ ons) x (config a) (record { place = config a; cell = c } ∷ es) ≡ record { place = config a; cell = cond on (written (x % 256) c) c } ∷ write ons (x / 256) (config (a + 1)) es
first_written on ons x a c es none = grind (arith, self, change_none, write_past)

low_of : (on : Bool) (v r : ℕ) → v < 256 → (cond on v 0 + 256 * r) / 256 ≡ r
low_of on v r h = grind arith

byte_back : (on : Bool) (v w x r : ℕ) → v < 256 → w < 256 → cond on (written ((cond on v 0 + 256 * r) % 256) (cond on (written x (cell_of v w)) (cell_of v w))) (cond on (written x (cell_of v w)) (cell_of v w)) ≡ cell_of v w
byte_back on v w x r h k = grind (arith, written_back)

pub field_back : (ons : List Bool) (x a v w : ℕ)
    → write ons (read (field (config a) (length ons) v w 0) (config a) ons) (config a) (write ons x (config a) (field (config a) (length ons) v w 0)) ≡ field (config a) (length ons) v w 0
field_back [] x a v w = refl
field_back (on ∷ ons) x a v w = grind (arith, field_lacks_below, places_stay, read_here, read_past, first_written, byte_back, low_of, field_back ons (x / 256) (a + 1) (v / 256) (w / 256))
