use Rattle.std.proofs.Common.{◌++◌, [], ◌∷◌, ap, ◌∙◌, string_bytes, lit<}
use Rattle.json_texts.proofs.problems_object.render_json_line.Goals as goal

pub returns : goal.returns
returns c =
    let pushed = c.in_ok-push.ensures.bytes ∙ ap (λ t. string_bytes c.in_ok-text.text ++ t) (c.in_ok-push.ensures.ascii (lit< tt)) in
    pushed ∙ ap (λ t. t ++ 10 ∷ []) (c.in_ok-text.ensures.text c.requires)
