use Rattle.std.{proofs.Common.{◌+◌, drop, ap, sym, ◌∙◌}, specs.Prelude.flat_map}
use Rattle.lists.specs.Elements.{first_of_two}
use Rattle.model_guests.specs.World.{Guest}
use Rattle.monitor.{specs.Handovers.first_closed_at, proofs.ClosedRows.row_step}
use Rattle.monitor.proofs.handover.disabled.first_disabled_bar_to_assign.Goals as goal

pub returns-in-Some : goal.returns-in-Some
returns-in-Some c =
    let ps = flat_map (λ (g : Guest). g.slots) c.args.decls.now in
    let rows = c.args.rows.now in
    let i = c.loop-row.row-index in
    ap (λ o. first_of_two o (first_closed_at ps (drop (i + 1) rows))) c.in-Some.ensures
    ∙ sym (row_step ps rows i c.row-item.result c.loop-row-test.true c.row-item.is) ∙ c.loop-row.invariant

pub loop-row-preserved : goal.loop-row-preserved
loop-row-preserved c =
    let ps = flat_map (λ (g : Guest). g.slots) c.args.decls.now in
    let rows = c.args.rows.now in
    let i = c.loop-row.row-index in
    ap (λ o. first_of_two o (first_closed_at ps (drop (i + 1) rows))) c.in_default.ensures
    ∙ sym (row_step ps rows i c.row-item.result c.loop-row-test.true c.row-item.is) ∙ c.loop-row.invariant
