use Rattle.std.proofs.{Common.{◌≡◌, ◌≤◌, ◌++◌, [], length, map, take, filter, sym, ap, ◌∙◌, arith, append-nil}, lemmas.{Bool.Decides.nat_tests, List.{length-map, take_all, take_at}}}
use Rattle.model_guests.specs.Text.{words}
use Rattle.lines.proofs.Splitting.{is_word}
use Rattle.lines.proofs.words.split_first_words.Goals as goal

pub returns-then-is_full : goal.returns-then-is_full
returns-then-is_full c =
    let items = c.loop-piece.first.items in
    let seven : length items ≡ 7 = grind (arith, nat_tests) in
    let ms = map (λ w. w.now) items in
    sym (take_at ms (words c.loop-piece.rest.now) 7 (length-map items (λ w. w.now) ∙ seven))
    ∙ ap (take 7) c.loop-piece.invariant.order

pub returns : goal.returns
returns c =
    let items = c.loop-piece.first.items in
    let ms = map (λ w. w.now) items in
    let few : length ms ≤ 7 = omega (arith, length-map items (λ w. w.now), c.loop-piece.invariant.few) in
    let nothing : words c.loop-piece.rest.now ≡ [] = ap (filter is_word) c.in_default.ensures.piece in
    sym (take_all 7 ms few) ∙ ap (take 7)
    (sym (append-nil ms) ∙ ap (λ ws. ms ++ ws) (sym nothing) ∙ c.loop-piece.invariant.order)
