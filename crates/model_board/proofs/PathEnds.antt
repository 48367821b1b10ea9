-- The last part of a path, and what leads to a path.
use Rattle.std.proofs.{lemmas.{Grind.common_steps, Bool.Decides.nat_tests}, Common.{◌≡◌, ◌+◌, ◌<◌, ◌⊎◌, true, [], ◌∷◌, ◌++◌, length, refl, ap, arith}}
use Rattle.model_board.{specs.Paths.{Part, Path, part_eq, path_eq, path_before, is_ancestor_of, parent, last_part}, proofs.PathOrder.{one, before_trans, path_same, part_self}}
use Rattle.lists.proofs.Tests.{left_true, right_true}

pub path_self : (p : Path) → path_eq p p ≡ true
path_self [] = refl
path_self (a ∷ p) = rw (part_self a) (path_self p)

-- a path is its parent and its last part
pub snoc : (p : Path) → 0 < length p → p ≡ parent p ++ last_part p ∷ []
snoc [] h = absurd (omega arith)
snoc (a ∷ []) h = refl
snoc (a ∷ b ∷ p) h = ap (λ (q : Path). a ∷ q) (snoc (b ∷ p) (omega arith))

pub parent_snoc : (bus : Path) (p : Part) → parent (bus ++ p ∷ []) ≡ bus
parent_snoc [] p = refl
parent_snoc (a ∷ []) p = refl
parent_snoc (a ∷ b ∷ bus) p = ap (λ (q : Path). a ∷ q) (parent_snoc (b ∷ bus) p)

pub last_snoc : (bus : Path) (p : Part) → last_part (bus ++ p ∷ []) ≡ p
last_snoc [] p = refl
last_snoc (a ∷ []) p = refl
last_snoc (a ∷ b ∷ bus) p = last_snoc (b ∷ bus) p

pub length_snoc : (bus : Path) (p : Part) → length (bus ++ p ∷ []) ≡ length bus + 1
length_snoc [] p = refl
length_snoc (a ∷ bus) p = omega (arith, length_snoc bus p)

-- what leads to a path on a bus leads to the bus, or is it
pub leads_up : (q bus : Path) (p : Part) → is_ancestor_of q (bus ++ p ∷ []) ≡ true → (q ≡ bus) ⊎ (is_ancestor_of q bus ≡ true)
leads_up [] b p h = grind arith
leads_up (a ∷ []) [] p h = let e : is_ancestor_of [] [] ≡ true = right_true (part_eq a p) (is_ancestor_of [] []) h in cc
leads_up (a ∷ c ∷ q) [] p h = let e : is_ancestor_of (c ∷ q) [] ≡ true = right_true (part_eq a p) (is_ancestor_of (c ∷ q) []) h in cc
leads_up (a ∷ q) (b ∷ bus) p h = grind (arith, left_true, leads_up q bus p, right_true, path_self, path_same)

pub leads_self : (q : Path) (p : Part) → is_ancestor_of q (q ++ p ∷ []) ≡ true
leads_self [] p = refl
leads_self (a ∷ q) p = rw (part_self a) (leads_self q p)

-- no path is before itself
pub not_before_itself : (p : Path) → path_before p p ≡ true → ⊥
not_before_itself p h = grind (arith, path_self, before_trans p p p h)

-- paths of one bus are equal where their last parts are
pub path_eq-snoc : (bus : Path) (p q : Part) → path_eq (bus ++ p ∷ []) (bus ++ q ∷ []) ≡ part_eq p q
path_eq-snoc [] p q = grind arith
path_eq-snoc (a ∷ bus) p q = rw (part_self a) (path_eq-snoc bus p q)

pub path_eq-sym : (p q : Path) → path_eq p q ≡ path_eq q p
path_eq-sym [] b = grind arith
path_eq-sym (a ∷ p) [] = refl
path_eq-sym (a ∷ p) (b ∷ q) = grind (arith, path_eq-sym p q, nat_tests)

-- what leads to a path that leads on leads on too
pub leads_trans : (p q r : Path) → is_ancestor_of p q ≡ true → is_ancestor_of q r ≡ true → is_ancestor_of p r ≡ true
leads_trans [] [] r h k = k
leads_trans [] (b ∷ q) c h k = grind arith
leads_trans (a ∷ p) [] r h k = cc
leads_trans (a ∷ p) (b ∷ q) [] h k = cc
leads_trans (a ∷ p) (b ∷ q) (c ∷ r) h k = grind (arith, left_true, leads_trans p q r, right_true, nat_tests)

pub snoc_some : (p : Path) (u : Part) → 0 < length (p ++ u ∷ [])
snoc_some p u = grind (arith, common_steps)

-- a path that leads to another is shorter
pub leads_longer : (q p : Path) → is_ancestor_of q p ≡ true → length q < length p
leads_longer [] y h = grind arith
leads_longer (x ∷ q) [] h = cc
leads_longer (x ∷ q) (y ∷ p) h = omega (arith, leads_longer q p (right_true (part_eq x y) (is_ancestor_of q p) h))

-- of two paths one alone is before the other
pub no_turn : (p q : Path) → path_before p q ≡ true → path_before q p ≡ true → ⊥
no_turn p q h k = grind (arith, before_trans q p q h, one, not_before_itself q)
