use Rattle.std.proofs.Common.{◌∙◌, ◌<◌, ap, subst}
use Rattle.model_registers.specs.Cell.{Cell, written}
use Rattle.images.proofs.Masks.{written_ones}
use Rattle.images.proofs.parts.write_mask.Goals as goal

pub returns : goal.returns
returns c =
    let is = c.written.ensures ∙ ap (written 255) c.with_value.ensures in
    let fits = c.value.ensures.lawful.writable_fits in
    let low = subst (λ (x : Cell). x.writable < 256) is fits in
    c.value.ensures.value ∙ ap (λ (x : Cell). x.value) is ∙ written_ones c.args.cell.now low
