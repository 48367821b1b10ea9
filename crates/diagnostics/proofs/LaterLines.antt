-- The line of an offset, by that of an offset before it.
use Rattle.std.{proofs.{Common.{◌≡◌, ◌≤◌, ◌<◌, ℕ, ◌+◌, ◌-◌, List, [], ◌∷◌, ◌++◌, length, map, get_or, drop, take, ap, ap₂, sym, ◌∙◌, arith}, lemmas.List.{take_more, map_push, Sums.sum_by-append}, Math.Seq.take-add}, specs.Prelude.count_by}
use Rattle.diagnostics.specs.{declared.scanning.Extent.Extent, LineNumbers.{is_line_feed, line_of, first_line}}

pub later_line : (text : List ℕ) (from to : ℕ) → from ≤ to → line_of from text + count_by is_line_feed (take (to - from) (drop from text)) ≡ line_of to text
later_line text from to before =
    let there : from + (to - from) ≡ to = omega arith in
    grind (arith, take-add, sum_by-append)

-- the lines of one place more
pub one_more_line : (text : List ℕ) (places : List Extent) (lines pushed : List ℕ) (i line : ℕ) (d : Extent) → i < length places
    → lines ≡ map (first_line text) (take i places) → line ≡ first_line text (get_or places i d) → pushed ≡ lines ++ line ∷ []
    → pushed ≡ map (first_line text) (take (i + 1) places)
one_more_line text places lines pushed i line d there so_far here is =
    is ∙ ap₂ (λ (ls : List ℕ) (n : ℕ). ls ++ n ∷ []) so_far here
    ∙ sym (map_push (first_line text) (take i places) (get_or places i d)) ∙ ap (map (first_line text)) (sym (take_more places i d there))
