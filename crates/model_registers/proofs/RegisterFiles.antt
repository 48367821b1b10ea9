-- Laws of register files.
use Rattle.std.{proofs.{Common.{◌≡◌, ℕ, zero, suc, ◌+◌, ◌-◌, ◌*◌, ◌/◌, ◌%◌, ◌^◌, ◌<◌, true, false, [], ◌∷◌, refl, sym, ap, ap₂, ◌∙◌, arith, eqb}, lemmas.{Bool.{Decides.nat_tests, eqb-true}, Nat.{or_mod, and_mod, and_mask, or_shr, and_shr}}, Math.{Arith.mod-mul, Nat.{pow-suc, one-le-pow, mod-one, mod-eq_of_lt}}}, specs.{Prelude.{bit_and, bit_or}, Int.Bits.{or_zero_r, and_zero_r, and_le_l}}}
use Rattle.model_registers.specs.{Cell.Cell, Registers.{Place, config, place_eq, File, cell_at, changed, field, number, write, all_bytes}, RegisterLaws.{ChangeAtPlace, FieldReads, FieldWrites, merged}}
use Rattle.lists.proofs.Tests.{left_true, right_true}

pub place_same : (p q : Place) → place_eq p q ≡ true → p ≡ q
place_same p q h = grind (arith, eqb-true, left_true, right_true)

pub place_turned : (p q : Place) → place_eq p q ≡ place_eq q p
place_turned p q = grind (arith, nat_tests)

pub change_at_place : ChangeAtPlace
change_at_place f h [] p q = grind arith
change_at_place f h (e ∷ es) p q = grind (arith, change_at_place f h es p q, place_same)

-- ---- registers of several bytes

pub self : (a : ℕ) → eqb a a ≡ true
self a = grind (arith, nat_tests)

pub above : (a b : ℕ) → b < a → eqb a b ≡ false
above a b h = grind (arith, nat_tests)

pub below : (a b : ℕ) → b < a → eqb b a ≡ false
below a b h = grind (arith, nat_tests)

-- reading above an entry passes it by
read_past : (w a b : ℕ) (c : Cell) (file : File) → b < a → number (record { place = config b; cell = c } ∷ file) (config a) w ≡ number file (config a) w
read_past zero a b c file h = refl
read_past (suc w) a b c file h = grind (arith, below, read_past w (a + 1) b c file)

pub read_here : (a : ℕ) (c : Cell) (file : File) → cell_at (record { place = config a; cell = c } ∷ file) (config a) ≡ c
read_here a c file = let e : eqb a a ≡ true = self a in rw e

pub low_byte : (w v : ℕ) → v % 256 + 256 * (v / 256 % 256 ^ w) ≡ v % 256 ^ suc w
low_byte w v = grind (arith, one-le-pow, mod-mul, pow-suc)

pub field_reads : FieldReads
field_reads zero a v m w1c rest = sym (mod-one v)
field_reads (suc w) a v m w1c rest = grind (arith, read_here, read_past, field_reads w (a + 1) (v / 256) (m / 256) (w1c / 256) rest, low_byte)

-- a change below a register leaves it
change_below : (f : Cell → Cell) (w a b v m c : ℕ) → b < a → changed f (config b) (field (config a) w v m c) ≡ field (config a) w v m c
change_below f zero a b v m c h = refl
change_below f (suc w) a b v m c h = grind (arith, above, change_below f w (a + 1) b (v / 256) (m / 256) (c / 256))

write_past : (w a b x : ℕ) (c : Cell) (file : File) → b < a → write (all_bytes w) x (config a) (record { place = config b; cell = c } ∷ file) ≡ record { place = config b; cell = c } ∷ write (all_bytes w) x (config a) file
write_past zero a b x c file h = refl
write_past (suc w) a b x c file h = grind (arith, below, write_past w (a + 1) b (x / 256) c)

pub kept : (v m : ℕ) → bit_and (bit_and (v % 256) (255 - m)) 255 ≡ bit_and (v % 256) (255 - m)
kept v m =
    let y : ℕ = bit_and (v % 256) (255 - m) in
    let small : y < 256 = omega (arith, and_le_l (v % 256) (255 - m)) in
    and_mask y 8 ∙ mod-eq_of_lt small

none_cleared : (v z : ℕ) → bit_and (bit_and v 0) z ≡ 0
none_cleared v z = ap (λ t. bit_and t z) (and_zero_r v)

rest_low : (w m : ℕ) → m < 256 ^ suc w → 255 - m % 256 ≡ (256 ^ suc w - 1 - m) % 256
rest_low w m h = omega (arith, pow-suc 256 w)

pub merged_low : (w v x m : ℕ) → m < 256 ^ suc w
    → bit_or (bit_or (bit_and (bit_and (v % 256) (255 - m % 256)) 255) (bit_and (x % 256) (m % 256))) (bit_and (bit_and (v % 256) 0) (255 - x % 256)) ≡ merged (suc w) v x m % 256
merged_low w v x m h =
    let rest : ℕ = 256 ^ suc w - 1 - m in
    ap₂ bit_or (ap₂ bit_or (kept v (m % 256)) refl) (none_cleared (v % 256) (255 - x % 256))
    ∙ or_zero_r (bit_or (bit_and (v % 256) (255 - m % 256)) (bit_and (x % 256) (m % 256)))
    ∙ ap₂ bit_or (ap (bit_and (v % 256)) (rest_low w m h) ∙ sym (and_mod v rest 8)) (sym (and_mod x m 8))
    ∙ sym (or_mod (bit_and v rest) (bit_and x m) 8)

pub merged_high : (w v x m : ℕ) → m < 256 ^ suc w → merged w (v / 256) (x / 256) (m / 256) ≡ merged (suc w) v x m / 256
merged_high w v x m h =
    let rest : ℕ = 256 ^ suc w - 1 - m in
    grind (arith, pow-suc, and_shr v rest 8, and_shr x m 8, or_shr (bit_and v rest) (bit_and x m) 8)

pub field_writes : FieldWrites
field_writes zero a v m x h = refl
field_writes (suc w) a v m x h = grind (arith, self, pow-suc, change_below, write_past, merged_low, field_writes w (a + 1) (v / 256) (m / 256) (x / 256), merged_high)
