-- Path order, seen from a third path.
use Rattle.std.proofs.{lemmas.{Grind.common_steps, Bool.{Decides.nat_tests, eqb-true}}, Common.{◌≡◌, ℕ, ◌+◌, ◌≤◌, Bool, true, false, ◌&&◌, ◌||◌, cond, [], ◌∷◌, refl, ap₂, arith, rules}}
use Rattle.model_board.specs.Paths.{Part, Path, part_eq, part_before, path_eq, path_before, is_ancestor_of}
use Rattle.lists.proofs.Tests.{left_true, right_true}

abbrev pub one : Bool → ℕ
one b = cond b 1 0

-- ---- parts

pub part_same : (a b : Part) → part_eq a b ≡ true → a ≡ b
part_same a b h = grind (arith, eqb-true, nat_tests)

pub part_self : (a : Part) → part_eq a a ≡ true
part_self a = grind (arith, nat_tests)

pub part_eq-sym : (a b : Part) → part_eq a b ≡ part_eq b a
part_eq-sym a b = grind (arith, nat_tests)

-- ---- heads: u that the first part is before, v that it is equal, v' the same the other way round

head_two : (u v B E C : Bool) → (u ≡ true → v ≡ false) → one B + one E ≤ one C → one (u || (v && B)) + one (v && E) ≤ one (u || (v && C))
head_two u v B E C h i = grind arith

head_three : (u v v' B E L C : Bool) → (u ≡ true → v ≡ false) → v ≡ v' → one B + one E + one L ≤ one C
    → one (u || (v && B)) + one (v && E) + one (v' && L) ≤ one (u || (v && C))
head_three u v v' B E L C h e i = grind arith

-- ---- paths

-- a path is before another, equal to it or behind it: one of these at most
pub exclusive : (x r : Path) → one (path_before x r) + one (path_eq x r) + one (is_ancestor_of r x) ≤ 1
exclusive [] c = grind arith
exclusive (a ∷ x) [] = omega arith
exclusive (a ∷ x) (c ∷ r) = grind (arith, exclusive x r, part_eq-sym)

-- what is at or before q is before all that q is before
before_heads : (a b c : Part) (t : Bool) → (part_before a b || part_eq a b) ≡ t → part_before b c ≡ true → (B E L C : Bool)
    → one (part_before a b || (part_eq a b && B)) + one (part_eq a b && E) + one (part_eq b a && L) ≤ 1
    → one (part_before a b || (part_eq a b && B)) + one (part_eq a b && E) + one (part_eq b a && L) ≤ one (part_before a c || (part_eq a c && C))
before_heads a b c t e k B E L C i = grind (arith, nat_tests, common_steps, part_eq-sym)

two_of_three : (m n k l : ℕ) → m + n + k ≤ l → m + n ≤ l
two_of_three m n k l h = omega arith

pub before_trans : (x q r : Path) → path_before q r ≡ true → one (path_before x q) + one (path_eq x q) ≤ one (path_before x r)
before_trans x [] [] h = cc
before_trans [] [] (c ∷ r) h = omega arith
before_trans (a ∷ x) [] (c ∷ r) h = omega arith
before_trans x (b ∷ q) [] h = cc
before_trans [] (b ∷ q) (c ∷ r) h = omega arith
before_trans (a ∷ x) (b ∷ q) (c ∷ r) h = by_head (part_before b c) refl h (before_trans x q r)
  where
    by_head : (t : Bool) → part_before b c ≡ t → (t || (part_eq b c && path_before q r)) ≡ true
        → (path_before q r ≡ true → one (path_before x q) + one (path_eq x q) ≤ one (path_before x r))
        → one (path_before (a ∷ x) (b ∷ q)) + one (path_eq (a ∷ x) (b ∷ q)) ≤ one (path_before (a ∷ x) (c ∷ r))
    by_head true e k more =
        two_of_three (one (path_before (a ∷ x) (b ∷ q))) (one (path_eq (a ∷ x) (b ∷ q))) (one (is_ancestor_of (b ∷ q) (a ∷ x))) (one (path_before (a ∷ x) (c ∷ r)))
        (before_heads a b c (part_before a b || part_eq a b) refl e (path_before x q) (path_eq x q) (is_ancestor_of q x) (path_before x r) (exclusive (a ∷ x) (b ∷ q)))
    by_head false e k more = search (rules, part_same, left_true, head_two, right_true)

-- what is before r, at r or behind it is before all that r is before and doesn't lead to
pub behind_trans : (x r q : Path) → path_before r q ≡ true → is_ancestor_of r q ≡ false → one (path_before x r) + one (path_eq x r) + one (is_ancestor_of r x) ≤ one (path_before x q)
behind_trans x [] c h l = cc
behind_trans x (b ∷ r) [] h l = cc
behind_trans [] (b ∷ r) (c ∷ q) h l = omega arith
behind_trans (a ∷ x) (b ∷ r) (c ∷ q) h l = by_head (part_before b c) refl h (behind_trans x r q)
  where
    by_head : (t : Bool) → part_before b c ≡ t → (t || (part_eq b c && path_before r q)) ≡ true
        → (path_before r q ≡ true → is_ancestor_of r q ≡ false → one (path_before x r) + one (path_eq x r) + one (is_ancestor_of r x) ≤ one (path_before x q))
        → one (path_before (a ∷ x) (b ∷ r)) + one (path_eq (a ∷ x) (b ∷ r)) + one (is_ancestor_of (b ∷ r) (a ∷ x)) ≤ one (path_before (a ∷ x) (c ∷ q))
    by_head true e k more =
        before_heads a b c (part_before a b || part_eq a b) refl e (path_before x r) (path_eq x r) (is_ancestor_of r x) (path_before x q) (exclusive (a ∷ x) (b ∷ r))
    by_head false e k more = search (rules, left_true, part_same, head_three, part_eq-sym, right_true)

-- what is at or before a path behind r is before r, at r or behind it
pub behind_bound : (x r q : Path) → is_ancestor_of r q ≡ true → one (path_before x q) + one (path_eq x q) ≤ one (path_before x r) + one (path_eq x r) + one (is_ancestor_of r x)
behind_bound x [] [] h = cc
behind_bound a [] (c ∷ q) h = grind (arith, exclusive)
behind_bound x (b ∷ r) [] h = cc
behind_bound [] (b ∷ r) (c ∷ q) h = omega arith
behind_bound (a ∷ x) (b ∷ r) (c ∷ q) h = search (rules, part_same, left_true, part_eq-sym, behind_bound x r q, right_true)

pub leads_before : (r q : Path) → is_ancestor_of r q ≡ true → path_before r q ≡ true
leads_before [] c h = grind arith
leads_before (b ∷ r) [] h = cc
leads_before (b ∷ r) (c ∷ q) h = grind (arith, left_true, leads_before r q, right_true)

pub path_same : (p q : Path) → path_eq p q ≡ true → p ≡ q
path_same [] c h = grind arith
path_same (b ∷ p) [] h = cc
path_same (b ∷ p) (c ∷ q) h = ap₂ ◌∷◌ (part_same b c (left_true (part_eq b c) (path_eq p q) h)) (path_same p q (right_true (part_eq b c) (path_eq p q) h))
