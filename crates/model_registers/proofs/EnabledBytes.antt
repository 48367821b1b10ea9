-- A register of several bytes, read and written where the byte enables say so.
use Rattle.std.{proofs.{Common.{◌≡◌, ℕ, suc, ◌+◌, ◌-◌, ◌*◌, ◌/◌, ◌%◌, ◌^◌, ◌<◌, Bool, true, false, cond, List, [], ◌∷◌, ◌++◌, length, refl, sym, ap, ap₂, ◌∙◌, arith}, lemmas.Nat.{and_mod, and_mask, and_shr, and_block, and_le_l}, Math.Nat.pow-suc}, specs.{Prelude.{bit_and, bit_or}, Int.Bits.{or_zero_r, and_zero_r}}}
use Rattle.model_registers.{specs.{Cell.Cell, Registers.{config, File, read, write, field}, ByteEnables.enabled_bits, RegisterLaws.merged}, proofs.{RegisterFiles.{self, below, read_here, merged_low, merged_high, kept}, Parts.change_outside}}

-- an access above an entry passes it by
pub read_past : (ons : List Bool) (a b : ℕ) (c : Cell) (file : File) → b < a → read (record { place = config b; cell = c } ∷ file) (config a) ons ≡ read file (config a) ons
read_past [] a b c file h = refl
read_past (on ∷ ons) a b c file h = grind (arith, below, read_past ons (a + 1) b c file)

pub write_past : (ons : List Bool) (x a b : ℕ) (c : Cell) (file : File) → b < a → write ons x (config a) (record { place = config b; cell = c } ∷ file) ≡ record { place = config b; cell = c } ∷ write ons x (config a) file
write_past [] x a b c file h = refl
write_past (false ∷ ons) x a b c file h = write_past ons (x / 256) (a + 1) b c file (omega arith)
write_past (true ∷ ons) x a b c file h = grind (arith, below, write_past ons (x / 256) (a + 1) b c)

-- the bits of one byte, where it is enabled
abbrev byte_bits : Bool → ℕ
byte_bits on = cond on 255 0

enabled_low : (on : Bool) (ons : List Bool) → enabled_bits (on ∷ ons) % 256 ≡ byte_bits on
enabled_low on ons = grind arith

enabled_high : (on : Bool) (ons : List Bool) → enabled_bits (on ∷ ons) / 256 ≡ enabled_bits ons
enabled_high on ons = grind arith

-- ---- reading

and_split : (v e on : ℕ) → on < 256 → bit_and v (on + 256 * e) ≡ bit_and (v % 256) on + 256 * bit_and (v / 256) e
and_split v e on h = grind (arith, and_block 8 (v / 256) e (v % 256) on)

byte_read : (on : Bool) (v : ℕ) → cond on (v % 256) 0 ≡ bit_and (v % 256) (byte_bits on)
byte_read true v = sym (and_mask (v % 256) 8 ∙ omega arith)
byte_read false v = sym (and_zero_r (v % 256))

pub read_field : (ons : List Bool) (a v rw c : ℕ) (rest : File) → read (field (config a) (length ons) v rw c ++ rest) (config a) ons ≡ bit_and v (enabled_bits ons)
read_field [] a v m c rest = sym (and_zero_r v)
read_field (on ∷ ons) a v m c rest = grind (arith, read_here, byte_read, read_past, read_field ons (a + 1) (v / 256) (m / 256) (c / 256) rest, and_split)

-- ---- writing

-- the writable bits of the enabled bytes, by their lowest byte and the others
mask_low : (on : Bool) (ons : List Bool) (m : ℕ) → bit_and m (enabled_bits (on ∷ ons)) % 256 ≡ bit_and (m % 256) (byte_bits on)
mask_low on ons m = and_mod m (enabled_bits (on ∷ ons)) 8 ∙ ap (bit_and (m % 256)) (enabled_low on ons)

mask_high : (on : Bool) (ons : List Bool) (m : ℕ) → bit_and m (enabled_bits (on ∷ ons)) / 256 ≡ bit_and (m / 256) (enabled_bits ons)
mask_high on ons m = and_shr m (enabled_bits (on ∷ ons)) 8 ∙ ap (bit_and (m / 256)) (enabled_high on ons)

-- the value of the lowest byte after a write of a register with the writable bits of which t are left
abbrev low_value : ℕ → ℕ → ℕ → ℕ
low_value v x t = bit_or (bit_or (bit_and (bit_and (v % 256) (255 - t)) 255) (bit_and (x % 256) t)) (bit_and (bit_and (v % 256) 0) (255 - x % 256))

and_byte : (v : ℕ) → bit_and (v % 256) 255 ≡ v % 256
and_byte v = and_mask (v % 256) 8 ∙ omega arith

untouched : (v x : ℕ) → low_value v x 0 ≡ v % 256
untouched v x =
    ap₂ bit_or (ap₂ bit_or (kept v 0 ∙ and_byte v) (and_zero_r (x % 256))) (ap (λ t. bit_and t (255 - x % 256)) (and_zero_r (v % 256)))
    ∙ or_zero_r (bit_or (v % 256) 0) ∙ or_zero_r (v % 256)

byte_write : (on : Bool) (ons : List Bool) (v m x : ℕ) → m < 256 ^ suc (length ons)
    → cond on (low_value v x (m % 256)) (v % 256) ≡ merged (suc (length ons)) v x (bit_and m (enabled_bits (on ∷ ons))) % 256
byte_write true ons v m x h =
    let mask : ℕ = bit_and m (enabled_bits (true ∷ ons)) in
    grind (arith, mask_low true ons m, and_mask (m % 256) 8, merged_low (length ons) v x mask, and_le_l m (enabled_bits (true ∷ ons)))
byte_write false ons v m x h =
    let mask : ℕ = bit_and m (enabled_bits (false ∷ ons)) in
    let none : mask % 256 ≡ 0 = mask_low false ons m ∙ and_zero_r (m % 256) in
    sym (untouched v x) ∙ ap (low_value v x) (sym none) ∙ merged_low (length ons) v x mask (omega (arith, and_le_l m (enabled_bits (false ∷ ons))))

rest_write : (on : Bool) (ons : List Bool) (v m x : ℕ) → m < 256 ^ suc (length ons)
    → merged (length ons) (v / 256) (x / 256) (bit_and (m / 256) (enabled_bits ons)) ≡ merged (suc (length ons)) v x (bit_and m (enabled_bits (on ∷ ons))) / 256
rest_write on ons v m x h = grind (arith, mask_high on ons m, merged_high (length ons) v x, and_le_l m (enabled_bits (on ∷ ons)))

pub write_field : (ons : List Bool) (a v rw x : ℕ) → rw < 256 ^ length ons
    → write ons x (config a) (field (config a) (length ons) v rw 0) ≡ field (config a) (length ons) (merged (length ons) v x (bit_and rw (enabled_bits ons))) rw 0
write_field [] a v m x h = refl
write_field (on ∷ ons) a v m x h = grind (arith, byte_write, write_field ons (a + 1) (v / 256) (m / 256) (x / 256), pow-suc, rest_write, self, change_outside, write_past)
