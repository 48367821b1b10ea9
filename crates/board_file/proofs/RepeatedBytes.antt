-- One more byte of a block.
use Rattle.std.{proofs.Common.{◌≡◌, ℕ, suc, ◌+◌, ◌-◌, ◌<◌, Bool, true, false, List, [], ◌∷◌, ◌++◌, map, refl, sym, ◌∙◌, arith, append_assoc}, specs.List.{list_all, range_with_len}}
use Rattle.model_registers.specs.Cell.{Cell}

step : (i n : ℕ) → i < n → range_with_len i (n - i) ≡ i ∷ range_with_len (i + 1) (n - (i + 1))
step i n h = let e : n - i ≡ suc (n - (i + 1)) = omega arith in rw e refl

pub more_pass : (p : ℕ → Bool) (i n : ℕ) (all : Bool) → i < n → p i ≡ true → list_all p (range_with_len i (n - i)) ≡ all → list_all p (range_with_len (i + 1) (n - (i + 1))) ≡ all
more_pass p i n all h here e = let k = rw (step i n h, here) at e in k

pub one_fails : (p : ℕ → Bool) (i n : ℕ) (all : Bool) → i < n → p i ≡ false → list_all p (range_with_len i (n - i)) ≡ all → all ≡ false
one_fails p i n all h here e = let k = rw (step i n h, here) at e in sym k

pub more_cells : (f : ℕ → Cell) (i n : ℕ) (xs all : List Cell) → i < n → xs ++ map f (range_with_len i (n - i)) ≡ all
    → (xs ++ f i ∷ []) ++ map f (range_with_len (i + 1) (n - (i + 1))) ≡ all
more_cells f i n xs all h e = let k = rw (step i n h) at e in append_assoc xs (f i ∷ []) (map f (range_with_len (i + 1) (n - (i + 1)))) ∙ k
