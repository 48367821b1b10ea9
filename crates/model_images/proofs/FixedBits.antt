-- Bits that no access changes in a cell, after a write and after a raise.
use Rattle.std.{proofs.{Common.{◌≡◌, inl, inr, ℕ, ◌+◌, ◌-◌, sym, ap, ◌∙◌, arith}, lemmas.{Bool.cases_lt, Nat.{and_assoc, and_comm, and_or_apart, and-not}}}, specs.{Prelude.{bit_and, bit_or}, Int.Bits.{and_self, and_zero_r}}}
use Rattle.model_registers.specs.Cell.{Cell, except, written, raised}
use Rattle.model_images.specs.Images.{fixed_bits}

-- a mask has no bit of the others
pub none_outside : (m : ℕ) → bit_and m (except m) ≡ 0
none_outside m = elim (cases_lt m 256) [
  | inl low ↦
      let parts : bit_and (255 - m) m + bit_and m m ≡ m = and-not 8 m m low low in
      let self = and_self m in
      let none : bit_and (255 - m) m ≡ 0 = omega (arith, parts, self) in
      and_comm m (255 - m) ∙ none
  | inr high ↦ let none : 255 - m ≡ 0 = omega arith in ap (bit_and m) none ∙ and_zero_r m
]

-- two masks that share no bit with the rest of the others
pub none_in : (p q r s : ℕ) → bit_and q s ≡ 0 → bit_and (bit_and p q) (bit_and r s) ≡ 0
none_in p q r s none = grind (arith, and_assoc, and_comm)

abbrev fixed : Cell → ℕ
fixed c = bit_and (except c.writable) (except c.clearable)

fixed_is : (c : Cell) (v : ℕ) → fixed_bits c v ≡ bit_and v (fixed c)
fixed_is c v = and_assoc (except c.clearable) v (except c.writable)

pub written_fixed : (b : ℕ) (c : Cell) → fixed_bits c (written b c).value ≡ fixed_bits c c.value
written_fixed b c =
    let nw = except c.writable in
    let nc = except c.clearable in
    let kept : ℕ = bit_and (bit_and c.value nw) nc in
    let taken : ℕ = bit_and b c.writable in
    let cleared : ℕ = bit_and (bit_and c.value c.clearable) (except b) in
    let no_taken : bit_and taken (fixed c) ≡ 0 = ap (bit_and taken) (and_comm nw nc) ∙ none_in b c.writable nc nw (none_outside c.writable) in
    let turned : cleared ≡ bit_and (bit_and c.value (except b)) c.clearable =
    and_assoc (except b) c.value c.clearable ∙ ap (bit_and c.value) (and_comm c.clearable (except b)) ∙ sym (and_assoc c.clearable c.value (except b)) in
    let no_cleared : bit_and cleared (fixed c) ≡ 0 = ap (λ n. bit_and n (fixed c)) turned ∙ none_in (bit_and c.value (except b)) c.clearable nw nc (none_outside c.clearable) in
    fixed_is c (bit_or (bit_or kept taken) cleared)
    ∙ and_or_apart (fixed c) (bit_or kept taken) cleared no_cleared ∙ and_or_apart (fixed c) kept taken no_taken
    ∙ ap (λ n. bit_and n (fixed c)) (fixed_is c c.value) ∙ and_assoc (fixed c) c.value (fixed c) ∙ ap (bit_and c.value) (and_self (fixed c)) ∙ sym (fixed_is c c.value)

pub raised_fixed : (m : ℕ) (c : Cell) → fixed_bits c (raised m c).value ≡ fixed_bits c c.value
raised_fixed m c = grind (arith, none_in, none_outside, fixed_is, and_or_apart)
