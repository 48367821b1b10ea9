-- Bus numbers as counts say where a bridge stands.
use Rattle.std.{proofs.{lemmas.{Grind.common_steps, List.Sums.sum_by-cons}, Common.{◌≡◌, ℕ, ◌+◌, ◌≤◌, Bool, true, false, ◌&&◌, [], ◌∷◌, refl, arith}}, specs.Prelude.{count_by, IsTrue}}
use Rattle.lists.specs.Elements.{Each, EachPair}
use Rattle.model_board.{specs.{Board.{Board, Row, is_bridge, is_bridge_at}, Paths.{Path, path_eq, path_before, is_ancestor_of}, Numbering.Numbering}, proofs.PathOrder.{one, before_trans, behind_trans, behind_bound, leads_before, path_same}}

-- how many bridges of the board pass a test of their paths
abbrev pub bridges : (Path → Bool) → Board → ℕ
bridges p b = count_by (λ r. is_bridge r.decl && p r.path) b

pub bridges-cons : (p : Path → Bool) (r : Row) (b : Board) → bridges p (r ∷ b) ≡ one (is_bridge r.decl && p r.path) + bridges p b
bridges-cons p r b = sum_by-cons (λ (s : Row). one (is_bridge s.decl && p s.path)) r b

pub count_two : (p q s : Path → Bool) → ((x : Path) → one (p x) + one (q x) ≤ one (s x)) → (b : Board) → bridges p b + bridges q b ≤ bridges s b
count_two p q s h [] = omega arith
count_two p q s h (r ∷ b) = grind (arith, common_steps, bridges-cons, count_two p q s h b)

pub count_three : (p q o s : Path → Bool) → ((x : Path) → one (p x) + one (q x) + one (o x) ≤ one (s x)) → (b : Board) → bridges p b + bridges q b + bridges o b ≤ bridges s b
count_three p q o s h [] = omega arith
count_three p q o s h (r ∷ b) = grind (arith, common_steps, count_three p q o s h b, bridges-cons)

count_under : (p q s t o : Path → Bool) → ((x : Path) → one (p x) + one (q x) ≤ one (s x) + one (t x) + one (o x)) → (b : Board) → bridges p b + bridges q b ≤ bridges s b + bridges t b + bridges o b
count_under p q s t o h [] = omega arith
count_under p q s t o h (r ∷ b) = grind (arith, common_steps, count_under p q s t o h b, bridges-cons)

-- ---- a bridge of the board counts once

abbrev pub at : Path → Path → Bool
at q x = path_eq x q

pub counted : (b : Board) (q : Path) → is_bridge_at b q ≡ true → 1 ≤ bridges (at q) b
counted [] q h = cc
counted (r ∷ b) q h = grind (arith, common_steps, counted b q, bridges-cons)

-- no later row stands at a path that an earlier one has
not_at : (t u : Bool) → u ≡ false → one (t && u) ≡ 0
not_at t u h = grind arith

differ : (p q : Path) → path_before p q ≡ true → path_eq q p ≡ false
differ p q h = grind (arith, path_same q p, one, before_trans p p p)

none_later : (q : Path) (b : Board) → Each (λ s. IsTrue (path_before q s.path)) b → bridges (at q) b ≡ 0
none_later q [] h = refl
none_later q (s ∷ b) h = omega (arith, bridges-cons (at q) s b, not_at (is_bridge s.decl) (path_eq s.path q) (differ q s.path h.0), none_later q b h.1)

pub counted_once : (b : Board) (q : Path) → EachPair (λ (r s : Row). IsTrue (path_before r.path s.path)) b → bridges (at q) b ≤ 1
counted_once [] q h = omega arith
counted_once (r ∷ b) q h = by_row (path_eq r.path q) refl (counted_once b q h.1)
  where
    by_row : (t : Bool) → path_eq r.path q ≡ t → bridges (at q) b ≤ 1 → bridges (at q) (r ∷ b) ≤ 1
    by_row true e more = grind (arith, path_same r.path q e, none_later r.path b h.0, bridges-cons (at q) r b)
    by_row false e more = omega (arith, bridges-cons (at q) r b, not_at (is_bridge r.decl) (path_eq r.path q) e, more)

-- ---- numbers

pub bus_range_equals_bridges_below : Numbering
bus_range_equals_bridges_below b lawful r q hr hq =
    let er : 1 ≤ bridges (at r) b = counted b r hr in
    let eq : 1 ≤ bridges (at q) b = counted b q hq in
    let once : bridges (at r) b ≤ 1 = counted_once b r lawful.in_order in
    record {
      inside = λ h. (
        omega (arith, count_two (λ x. path_before x r) (at r) (λ x. path_before x q) (λ x. before_trans x r q (leads_before r q h)) b),
        omega (arith, count_under (λ x. path_before x q) (at q) (λ x. path_before x r) (at r) (λ x. is_ancestor_of r x) (λ x. behind_bound x r q h) b),
      );
      earlier = λ h. omega (arith, count_two (λ x. path_before x q) (at q) (λ x. path_before x r) (λ x. before_trans x q r h) b);
      later = λ h l. omega (arith, count_three (λ x. path_before x r) (at r) (λ x. is_ancestor_of r x) (λ x. path_before x q) (λ x. behind_trans x r q h l) b);
    }
