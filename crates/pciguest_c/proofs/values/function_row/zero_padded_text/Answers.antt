use Rattle.std.proofs.{Common.{◌++◌, ℕ, List, length, ap, ◌∙◌}, lemmas.List.drop-replicate}
use Rattle.pciguest_c.proofs.values.function_row.zero_padded_text.Goals as goal

pub returns : goal.returns
returns c =
    let text = c.args.text.now in
    c.copy_whole_to_front.ensures ∙ ap (λ (xs : List ℕ). text ++ xs) (drop-replicate (length text) 80 0)
