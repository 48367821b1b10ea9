use Rattle.std.proofs.{Common.{◌≡◌, sym, ap, subst, ◌∙◌, arith}, lemmas.List.take_all}
use Rattle.model_registers.{proofs.Bases.registers_positive, specs.Declarations.{Bar, Region, IsLawfulRegion}}
use Rattle.headers.proofs.BaseRegisters.{each_at, next_register, opened_lawful}
use Rattle.headers.proofs.region.bar_decls_by_index.Goals as goal

pub loop-region-preserved : goal.loop-region-preserved
loop-region-preserved c =
    let rs = c.args.regions.now in
    let i = c.loop-region.region-index in
    let r = c.region-item.result in
    let at : c.from.result ≡ r.index = c.from.ensures ∙ ap (λ (q : Region). q.index) c.region.view_is in
    let lawful : IsLawfulRegion r = subst IsLawfulRegion (sym c.region-item.is) (each_at IsLawfulRegion rs i r c.requires.each (omega arith)) in
    let within = lawful.registers in
    next_register c.loop-region.bars rs i c.from.result r c.region.inside.bar c.requires.in_order (omega arith) c.region-item.is at (omega (arith, registers_positive r.kind))
    (ap (λ (q : Region). let b : Bar = record { kind = q.kind; size = q.size } in b) c.region.view_is) c.loop-region.invariant

pub returns-clause-lawful : goal.returns-clause-lawful
returns-clause-lawful c = grind (arith, take_all, opened_lawful)
