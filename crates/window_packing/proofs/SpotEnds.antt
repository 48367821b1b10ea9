-- Where items that follow one another end.
use Rattle.std.proofs.{Common.{ℕ, ◌+◌, ◌<◌, ◌≤◌, List, [], ◌∷◌, drop, length, get_or, arith}, lemmas.List.{drop_more, Elements.All-drop}}
use Rattle.lists.{specs.Elements.Each, proofs.EachLemmas.{all-each, each-all}}
use Rattle.model_set_up.{specs.Placement.{PlacementItem, round_up, end_from}, proofs.Packing.round_up_not_before}
use Rattle.window_packing.specs.Packs.{HasLawfulAlign}

-- the end is not before the beginning
pub end_from-le : (n : ℕ) (is : List PlacementItem) → Each HasLawfulAlign is → n ≤ end_from n is
end_from-le n [] h = omega arith
end_from-le n (i ∷ is) h = omega (arith, round_up_not_before i.align n h.0.0, end_from-le (round_up i.align n + i.size) is h.1)

-- the end of all is not before the end of the first of those that are left
pub end_from-past : (n k : ℕ) (d : PlacementItem) (is : List PlacementItem) → Each HasLawfulAlign is → k < length is
    → round_up (get_or is k d).align n + (get_or is k d).size ≤ end_from n (drop k is)
end_from-past n k d is h lt =
    let i = get_or is k d in
    rw (drop_more is k d lt) (end_from-le (round_up i.align n + i.size) (drop (k + 1) is) (each-all HasLawfulAlign (drop (k + 1) is) (All-drop HasLawfulAlign (k + 1) is (all-each HasLawfulAlign is h))))
