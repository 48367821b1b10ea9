-- The own copies of a word and its other bytes add up within 32 bits.
use Rattle.std.proofs.{Common.{◌≡◌, ℕ, ◌+◌, ◌*◌, ◌/◌, ◌%◌, ◌<◌, ◌≤◌, ◌^◌, ◌⊎◌, Bool, true, false, cond, inl, inr, List, [], ◌∷◌, refl, sym, ap₂, ◌∙◌, subst, arith, lit≤}, lemmas.Bool.Decides.nat_tests}
use Rattle.lists.proofs.Tests.{and_false}
use Rattle.model_registers.specs.{Registers.{config, File, cell_at, read}, OwnCopies.{OwnCopies, own_file, IsLawfulOwn, forwarded_byte_enables}, ByteEnables.enabled_bytes}
use Rattle.guest_functions.proofs.{Copies.{IsAway, away_read}, HeldCopies.{sum_of_bytes, enabled_bytes-fits}}

abbrev four : Bool → Bool → Bool → Bool → List Bool
four p q r s = p ∷ q ∷ r ∷ s ∷ []

-- none of the bytes is handed on
none : (F : File) (off : ℕ) (p q r s : Bool) → 0x10 ≤ off → off + 4 ≤ 0x28 → read F (config off) (forwarded_byte_enables (config off) (four p q r s)) ≡ 0
none F off p q r s h k = grind (arith, and_false, nat_tests)

byte : (t : Bool) (n : ℕ) → cond t (n % 256) 0 < 256
byte true n = omega arith
byte false n = omega arith

-- Command and Status
status : (own : OwnCopies) → IsLawfulOwn own → (F : File) (p q r s : Bool) → read F (config 4) (forwarded_byte_enables (config 4) (four p q r s)) < 2 ^ 32
    → read (own_file own) (config 4) (four p q r s) + read F (config 4) (forwarded_byte_enables (config 4) (four p q r s)) < 2 ^ 32
status own lawful F p q r s small =
    let low : ℕ = cond p (own.command % 256) 0 in
    let high : ℕ = cond q (own.command / 256 % 256) 0 in
    let more : ℕ = read (own_file own) (config 6) (r ∷ s ∷ []) in
    let none_more : more ≡ 0 = let e : read (own_file own) (config 6) (four r s false false) ≡ 0 = away_read own lawful r s false false 6 (record { command = inr (lit≤ tt); bases = inl (lit≤ tt) }) in omega arith in
    let mine : read (own_file own) (config 4) (four p q r s) ≡ low + 256 * (high + 256 * more) = refl in
    let b : low < 256 = byte p own.command in
    let d : high < 256 = byte q (own.command / 256) in
    let others : ℕ = read F (config 6) (forwarded_byte_enables (config 6) (r ∷ s ∷ [])) in
    let theirs : read F (config 4) (forwarded_byte_enables (config 4) (four p q r s)) ≡ 65536 * others =
    ap₂ (λ (x y : Bool). cond x (cell_at F (config 4)).value 0 + 256 * (cond y (cell_at F (config 5)).value 0 + 256 * others)) (and_false p) (and_false q) ∙ scaled others in
    omega arith
  where
    scaled : (n : ℕ) → 0 + 256 * (0 + 256 * n) ≡ 65536 * n
    scaled n = omega arith

away : (off : ℕ) → off % 4 ≡ 0 → ((off ≡ 4) ⊎ ((0x10 ≤ off) × (off + 4 ≤ 0x28))) ⊎ IsAway off
away off h = grind (arith, nat_tests)

own_fits : (own : OwnCopies) → IsLawfulOwn own → (off : ℕ) (p q r s : Bool) → read (own_file own) (config off) (four p q r s) < 2 ^ 32
own_fits own lawful off p q r s =
    let n : ℕ = read (own_file own) (config off) (four p q r s) in
    let more : ℕ = enabled_bytes (forwarded_byte_enables (config off) (four p q r s)) 0 in
    let sum : n + more ≡ enabled_bytes (four p q r s) (n + more) = sum_of_bytes own lawful (four p q r s) (config off) 0 in
    grind (arith, enabled_bytes-fits)

pub sum_fits : (own : OwnCopies) → IsLawfulOwn own → (F : File) (off : ℕ) (p q r s : Bool) → off % 4 ≡ 0
    → read F (config off) (forwarded_byte_enables (config off) (four p q r s)) < 2 ^ 32
    → read (own_file own) (config off) (four p q r s) + read F (config off) (forwarded_byte_enables (config off) (four p q r s)) < 2 ^ 32
sum_fits own lawful F off p q r s whole theirs = by_word (away off whole)
  where
    by_word : ((off ≡ 4) ⊎ ((0x10 ≤ off) × (off + 4 ≤ 0x28))) ⊎ IsAway off
        → read (own_file own) (config off) (four p q r s) + read F (config off) (forwarded_byte_enables (config off) (four p q r s)) < 2 ^ 32
    by_word (inl (inl e)) =
        let P : ℕ → Type 0 = λ n. read F (config n) (forwarded_byte_enables (config n) (four p q r s)) < 2 ^ 32 → read (own_file own) (config n) (four p q r s) + read F (config n) (forwarded_byte_enables (config n) (four p q r s)) < 2 ^ 32 in
        subst P (sym e) (status own lawful F p q r s) theirs
    by_word (inl (inr e)) = grind (arith, none, own_fits)
    by_word (inr h) = let zero_own = away_read own lawful p q r s off h in omega arith
