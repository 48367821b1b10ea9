use Rattle.std.proofs.Common.{◌≡◌, ◌+◌, ◌-◌, false, length, take, drop, sym, ap, ◌∙◌, arith, length-drop, length-take-le}
use lib.Seq.{paste}
use Rattle.std.proofs.lemmas.List.{drop-take, Edits.take-paste}
use Rattle.model_guests.specs.Text.{Text}
use Rattle.lines.specs.Pieces.{Pending, rest_of}
use Rattle.lines.proofs.pending.Pending.keep_last.Goals as goal

pub returns : goal.returns
returns c =
    let all = c.self.inside.bytes in
    let len = c.self.inside.length in
    let count = c.args.count in
    let from = len - count in
    let pending : c.args.self.now.text ≡ take len all = ap (λ (h : Pending). h.text) (sym c.self.view_is) in
    let size : length c.args.self.now.text ≡ len = ap length pending ∙ length-take-le len all (omega (arith, c.self.invariant, c.self.told)) in
    let same : count ≡ 0 + (len - from) = omega (arith, c.requires) in
    let part : count ≡ len - from = omega (arith, c.requires) in
    let whole : from + count ≡ len = omega (arith, c.requires) in
    let start : from ≡ length c.args.self.now.text - count = omega arith in
    let moved : take count c.copy_within.new.self ≡ rest_of count c.args.self.now.text =
    ap (take count) c.copy_within.ensures.after ∙ ap (λ k. take k (paste all 0 (drop from all) (len - from))) same
    ∙ take-paste all 0 (drop from all) (len - from) (omega arith) (omega (arith, c.self.invariant, c.self.told, length-drop from all))
    ∙ ap (λ k. take k (drop from all)) (sym part) ∙ sym (drop-take from count all) ∙ ap (λ k. drop from (take k all)) whole ∙ ap (drop from) (sym pending)
    ∙ ap (λ k. drop k c.args.self.now.text) start in
    ap (λ (t : Text). let h : Pending = record { text = t; long = false } in h) moved
