-- The checks of a slot, which come before what is asked of its function.
use Rattle.std.{proofs.{Common.{◌≡◌, ◌≤◌, ℕ, Bool, true, false, cond, not, Some, None, Option, ap, ◌∙◌, arith}, lemmas.Bool.lt-leb}, specs.Prelude.nat_le}

-- the slot is past the last, there is a function
abbrev pub slot_checked : Bool → Bool → Option ℕ → Option ℕ
slot_checked past there o = cond past (Some 303) (cond (not there) (Some 601) o)

pub refused_first : (past there : Bool) (o : Option ℕ) {number : ℕ} → slot_checked past there None ≡ Some number → slot_checked past there o ≡ Some number
refused_first past there o e = grind arith

pub passes_slot : {past there : Bool} → past ≡ false → there ≡ true → (o : Option ℕ) → slot_checked past there o ≡ o
passes_slot {past} {there} low is o = ap (λ (t : Bool). slot_checked t there o) low ∙ ap (λ (t : Bool). slot_checked false t o) is

pub low_slot : {n : ℕ} → n ≤ 31 → nat_le 32 n ≡ false
low_slot {n} low = lt-leb 32 n (omega arith)
