-- A place that its mark confirms.
use Rattle.std.proofs.{Common.{◌≡◌, ℕ, true, List, Some, option_map, ap, ◌∙◌}, Math.Logic.∥∥₁_elim, Props.props}
use Rattle.toml.specs.{Data.{Members, table}, Parse.parse_document}
use Rattle.diagnostics.specs.{declared.{steps.Step.Step, scanning.Extent.Extent}, Marks.{replace_with_marks, is_mark_of_place_at}, Ways.value_at}

pub is_mark_in : (text : List ℕ) (way : List Step) (start : ℕ) (places : List Extent) (m : Members)
    → ∥ parse_document (replace_with_marks text 0 places) ≡ Some m ∥₁ → is_mark_of_place_at start (value_at way (table m)) ≡ true
    → option_map (λ after. is_mark_of_place_at start (value_at way (table after))) (parse_document (replace_with_marks text 0 places)) ≡ Some true
is_mark_in text way start places m parsed marked =
    ∥∥₁_elim parsed (Prim.hlevel props)
    (λ e. ap (option_map (λ (after : Members). is_mark_of_place_at start (value_at way (table after)))) e ∙ ap Some marked)
