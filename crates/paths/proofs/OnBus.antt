-- Path order on one bus: one part tells it.
use Rattle.std.proofs.{Common.{◌≡◌, ◌+◌, ◌<◌, ◌≤◌, Bool, true, false, ◌&&◌, ◌||◌, [], ◌∷◌, ◌++◌, length, get_or, ap, sym, ◌∙◌, arith, subst}, lemmas.Bool.Decides.nat_tests}
use Rattle.lists.proofs.Tests.{left_true, right_true, and_true, and_false}
use Rattle.model_board.{specs.Paths.{Part, Path, part_eq, part_before, path_eq, path_before, is_ancestor_of}, proofs.PlacesLaw.part_turn}

or_false : (a b : Bool) → (a || (b && false)) ≡ a
or_false a b = grind arith

-- equal parts are in no order
not_before : (a b : Part) → part_eq a b ≡ true → part_before b a ≡ false
not_before a b h = grind (arith, nat_tests)

pub before_on : (bus p : Path) (t d : Part) → is_ancestor_of bus p ≡ true → path_before p (bus ++ t ∷ []) ≡ part_before (get_or p (length bus) d) t
before_on [] [] t d h = absurd (cc)
before_on [] (x ∷ []) t d h = or_false (part_before x t) (part_eq x t)
before_on [] (x ∷ y ∷ p) t d h = or_false (part_before x t) (part_eq x t)
before_on (a ∷ bus) [] t d h = absurd (cc)
before_on (a ∷ bus) (x ∷ p) t d h = grind (arith, left_true, not_before, part_turn, right_true, before_on bus p t d)

-- a path that goes on behind the part is another
pub other_on : (bus p : Path) (t : Part) → is_ancestor_of bus p ≡ true → length bus + 1 < length p → path_eq p (bus ++ t ∷ []) ≡ false
other_on [] [] t h l = absurd (cc)
other_on [] (x ∷ []) t h l = absurd (omega arith)
other_on [] (x ∷ y ∷ p) t h l = and_false (part_eq x t)
other_on (a ∷ bus) [] t h l = absurd (cc)
other_on (a ∷ bus) (x ∷ p) t h l = grind (arith, left_true, part_turn, right_true, other_on bus p t)

pub same_on : (bus p : Path) (t d : Part) → is_ancestor_of bus p ≡ true → length p ≤ length bus + 1 → path_eq p (bus ++ t ∷ []) ≡ part_eq (get_or p (length bus) d) t
same_on [] [] t d h l = absurd (cc)
same_on [] (x ∷ []) t d h l = and_true (part_eq x t)
same_on [] (x ∷ y ∷ p) t d h l = absurd (omega arith)
same_on (a ∷ bus) [] t d h l = absurd (cc)
same_on (a ∷ bus) (x ∷ p) t d h l = grind (arith, left_true, part_turn, right_true, same_on bus p t d)

-- ---- the part that was read

module _ (bus p ps : Path) (t x : Part) (leads : is_ancestor_of bus p ≡ true) (whole : ps ≡ p) (at : x ≡ get_or ps (length bus) x) where
  here : get_or p (length bus) x ≡ x
  here = sym (at ∙ ap (λ (q : Path). get_or q (length bus) x) whole)

  pub less_on : path_before p (bus ++ t ∷ []) ≡ part_before x t
  less_on = before_on bus p t x leads ∙ ap (λ (z : Part). part_before z t) here

  pub equal_on : length ps ≤ length bus + 1 → path_eq p (bus ++ t ∷ []) ≡ part_eq x t
  equal_on l = same_on bus p t x leads (subst (λ (q : Path). length q ≤ length bus + 1) whole l) ∙ ap (λ (z : Part). part_eq z t) here

  pub longer_on : length bus + 1 < length ps → path_eq p (bus ++ t ∷ []) ≡ false
  longer_on l = other_on bus p t leads (subst (λ (q : Path). length bus + 1 < length q) whole l)

  pub differs_on : part_eq x t ≡ false → path_eq p (bus ++ t ∷ []) ≡ false
  differs_on e = grind (arith, equal_on, longer_on)
