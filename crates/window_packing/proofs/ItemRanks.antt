-- The order of items is one that a sort keeps, and items in order have the alignment of the bus.
use Rattle.std.{proofs.{Common.{◌≡◌, ℕ, max, List, [], ◌∷◌, refl, ap, ◌∙◌, arith}, lemmas.Bool.Decides.nat_tests}, specs.Cmp.IsStrictWeakOrder}
use Rattle.model_set_up.specs.Placement.{PlacementItem, stands_before, inserted, in_order, alignment}

pub weak_order : IsStrictWeakOrder stands_before
weak_order = grind (arith, nat_tests)

max_swap : (m n k : ℕ) → max m (max n k) ≡ max n (max m k)
max_swap m n k = omega arith

alignment_inserted : (unit : ℕ) (i : PlacementItem) (js : List PlacementItem) → alignment unit (inserted i js) ≡ max i.align (alignment unit js)
alignment_inserted unit i [] = refl
alignment_inserted unit i (j ∷ js) = grind (arith, max, max_swap, alignment_inserted unit i js)

pub alignment-in_order : (unit : ℕ) (is : List PlacementItem) → alignment unit (in_order is) ≡ alignment unit is
alignment-in_order unit [] = refl
alignment-in_order unit (i ∷ is) = alignment_inserted unit i (in_order is) ∙ ap (λ n. max i.align n) (alignment-in_order unit is)
