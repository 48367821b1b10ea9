-- The last part of a path, by its index.
use Rattle.std.proofs.{Common.{◌≡◌, ℕ, ◌-◌, ◌<◌, suc, [], ◌∷◌, ◌++◌, length, take, get_or, refl, ap, ◌∙◌, ◌≤◌, arith}, lemmas.Grind.common_steps}
use Rattle.model_board.specs.Paths.{Part, Path, last_part, parent, function_zero, IsPath}

last_at : (ps : Path) (p : Part) (d : Part) → get_or (p ∷ ps) (length ps) d ≡ last_part (p ∷ ps)
last_at [] p d = refl
last_at (q ∷ ps) p d = last_at ps q d

pub last_part-is : (ps : Path) (d : Part) → 0 < length ps → get_or ps (length ps - 1) d ≡ last_part ps
last_part-is [] d h = absurd (omega arith)
last_part-is (p ∷ ps) d h = let e : suc (length ps) - 1 ≡ length ps = omega arith in rw e (last_at ps p d)

pub take-parent : (ps : Path) → take (length ps - 1) ps ≡ parent ps
take-parent [] = refl
take-parent (p ∷ ps) = let e : suc (length ps) - 1 ≡ length ps = omega arith in rw e (from p ps)
  where
    from : (p : Part) (ps : Path) → take (length ps) (p ∷ ps) ≡ parent (p ∷ ps)
    from p [] = refl
    from p (q ∷ ps) = ap (λ xs. p ∷ xs) (from q ps)

pub parent-front : (ps : Path) → 0 < length ps → function_zero ps ≡ parent ps ++ record { device = (last_part ps).device; function = 0 } ∷ []
parent-front [] h = absurd (omega arith)
parent-front (p ∷ ps) h = from p ps
  where
    from : (p : Part) (ps : Path) → function_zero (p ∷ ps) ≡ parent (p ∷ ps) ++ record { device = (last_part (p ∷ ps)).device; function = 0 } ∷ []
    from p [] = refl
    from p (q ∷ ps) = ap (λ xs. p ∷ xs) (from q ps)

pub length-parent : (ps : Path) → length (parent ps) ≡ length ps - 1
length-parent [] = refl
length-parent (p ∷ ps) = from p ps ∙ (let e : length ps ≡ suc (length ps) - 1 = omega arith in e)
  where
    from : (p : Part) (ps : Path) → length (parent (p ∷ ps)) ≡ length ps
    from p [] = refl
    from p (q ∷ ps) = ap suc (from q ps)

take_past : (k : ℕ) (xs : Path) → length xs ≤ k → take k xs ≡ xs
take_past k xs h = grind (arith, common_steps)

-- the front of a path that was copied whole, and function 0 at its end
pub zero_copied : (ps zero : Path) (k : ℕ) (p : Part) → IsPath ps → zero ≡ take k (take (length ps - 1) ps) → length (take (length ps - 1) ps) ≤ k
    → p ≡ record { device = (last_part ps).device; function = 0 } → zero ++ p ∷ [] ≡ function_zero ps
zero_copied ps zero k p path copied all last = grind (arith, take_past, take-parent, parent-front)
