-- The blocks of an endpoint that go back to reset, one after the other.
use Rattle.std.{proofs.Common.{◌≡◌, ℕ, zero, suc, ◌+◌, ◌≤◌, Some, List, [], ◌∷◌, length, refl, ap, sym, arith, add-one}, specs.List.{slice_get, slice_set}}
use Rattle.config_bytes.specs.CellFile.{CellFile}
use Rattle.bridge_forward.specs.EndpointParts.{blocks_after}

-- the first n of these have gone back
abbrev pub first_after : ℕ → List CellFile → List CellFile
first_after zero fs = fs
first_after (suc n) [] = []
first_after (suc n) (f ∷ fs) = record f { now = f.initial } ∷ first_after n fs

-- the next one is as it was
pub next_is : (n : ℕ) (fs : List CellFile) → slice_get (first_after n fs) n ≡ slice_get fs n
next_is zero fs = refl
next_is (suc n) [] = refl
next_is (suc n) (f ∷ fs) = next_is n fs

set_next : (n : ℕ) (fs : List CellFile) (f : CellFile) → slice_get fs n ≡ Some f → slice_set (first_after n fs) n (record f { now = f.initial }) ≡ first_after (suc n) fs
set_next n [] f e = absurd (cc)
set_next zero (x ∷ xs) f e = let same : x ≡ f = cc in ap (λ (y : CellFile). record y { now = y.initial } ∷ xs) (sym same)
set_next (suc n) (x ∷ xs) f e = ap (λ (ys : List CellFile). record x { now = x.initial } ∷ ys) (set_next n xs f e)

pub first_next : (n : ℕ) (fs gs : List CellFile) (f k : CellFile) → gs ≡ first_after n fs → slice_get gs n ≡ Some f → k ≡ record f { now = f.initial } → slice_set gs n k ≡ first_after (n + 1) fs
first_next n fs gs f k are at is = grind (arith, next_is, set_next, add-one)

pub first_all : (n : ℕ) (fs : List CellFile) → length fs ≤ n → first_after n fs ≡ blocks_after fs
first_all zero [] l = refl
first_all (suc n) [] l = refl
first_all zero (f ∷ fs) l = absurd (omega arith)
first_all (suc n) (f ∷ fs) l = ap (λ (xs : List CellFile). record f { now = f.initial } ∷ xs) (first_all n fs (omega arith))
