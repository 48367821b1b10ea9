-- The first place of a byte, as the search for it says it.
use Rattle.std.{proofs.{Common.{◌≡◌, ℕ, Bool, true, false, cond, Option, Some, None, length, nat_lt, sym, ap, ◌∙◌, arith}, lemmas.{Bool.Decides.nat_tests, List.Sums.position_or_len_is}}, specs.List.position}
use Rattle.model_guests.specs.Text.{Text}
use Rattle.memchr.specs.Find.{IsFirstByte}

not_true : (b : Bool) → ¬ (b ≡ true) → b ≡ false
not_true b h = grind arith

past : (n : ℕ) → cond (nat_lt n n) (Some n) None ≡ None
past n = grind (arith, nat_tests)

-- the place that a search tells is the first
pub first_is_position : (p : ℕ → Bool) (xs : Text) (r : Option ℕ) → IsFirstByte p xs r → r ≡ position p xs
first_is_position p xs None nowhere =
    let k = position_or_len_is p xs (length xs) 0 (omega arith)
    (λ j h. not_true _ (nowhere j (omega arith) h)) (λ h. absurd (omega (arith, h))) in
    sym (ap (λ n. cond (nat_lt n (length xs)) (Some n) None) k ∙ past (length xs))
first_is_position p xs (Some i) first = grind (arith, position_or_len_is, not_true, nat_tests)
