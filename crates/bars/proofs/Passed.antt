-- Registers that are passed, as no region there holds the address.
use Rattle.std.{proofs.Common.{◌≡◌, ℕ, zero, suc, ◌+◌, ◌<◌, List, [], ◌∷◌, length, drop, get_or, ap, ◌∙◌, arith}, specs.Prelude.{Option, Some, None}}
use Rattle.model_registers.specs.Decoding.{Space}
use Rattle.bars.specs.{declared.region.BarWithBase.BarWithBase, Hits.{offset_in, hit_from}}

passed : (space : Space) (a n k : ℕ) (slots : List (Option BarWithBase)) (d : Option BarWithBase) → k < length slots → ((r : BarWithBase) → get_or slots k d ≡ Some r → offset_in space a r ≡ None)
    → hit_from space a n (drop k slots) ≡ hit_from space a (n + 1) (drop (k + 1) slots)
passed space a n k [] d within none = absurd (omega arith)
passed space a n zero r d within none = grind arith
passed space a n (suc k) (s ∷ slots) d within none = grind (arith, passed space a n k slots d)

-- a register at which no region begins
pub passed_unused : (space : Space) (a n : ℕ) (slots : List (Option BarWithBase)) (d : Option BarWithBase) → n < length slots → ((r : BarWithBase) → get_or slots n d ≡ Some r → ⊥)
    → hit_from space a n (drop n slots) ≡ hit_from space a (n + 1) (drop (n + 1) slots)
passed_unused space a n slots d within unused = passed space a n n slots d within (λ r is. absurd (unused r is))

-- a region that holds the address not
pub passed_region : (space : Space) (a n : ℕ) (slots : List (Option BarWithBase)) (d : Option BarWithBase) → n < length slots → (r : BarWithBase) → get_or slots n d ≡ Some r → offset_in space a r ≡ None
    → hit_from space a n (drop n slots) ≡ hit_from space a (n + 1) (drop (n + 1) slots)
passed_region space a n slots d within r there none = passed space a n n slots d within (λ q is. let same : q ≡ r = cc in ap (offset_in space a) same ∙ none)
