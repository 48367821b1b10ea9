use Rattle.std.{proofs.Common.{◌≡◌, ◌≤◌, ◌+◌, ℕ, Some, None, sym, ap, ◌∙◌, subst}, specs.Prelude.option_map}
use Rattle.model_registers.specs.{Declarations.{Kind, registers_of}, Decoding.base}
use Rattle.bars.specs.{Kinds.kind_of, declared.region.BarWithBase.BarWithBase}
use Rattle.monitor.{specs.OwnTold.standing, proofs.QuerySteps.{a_region, slot_past, slot_read}}
use Rattle.monitor.proofs.queries.own_registers.bar_with_guest_base.Goals as goal

pub returns-in-Some-Some-clause-told : goal.returns-in-Some-Some-clause-told
returns-in-Some-Some-clause-told c = λ s p f held lawful.
    let n = c.args.bar in
    let x = c.in-Some-Some.region in
    let here : c.in-Some-Some.field-0.now ≡ Some x = let i = c.in-Some-Some.is in let j = c.in-Some-Some.field-0-is in cc in
    let at = slot_read c.args.held.now.placed n c.in-Some-Some.ensures.lookup.0 c.in-Some-Some.ensures.lookup.1 here in
    let its = a_region s p f c.args.held.now n x held lawful at in
    let room : n + registers_of (kind_of c.kind-kind.result) ≤ 6 = subst (λ (k : Kind). n + registers_of k ≤ 6) (its.kind ∙ sym c.kind-kind.ensures) its.room in
    ap (λ (b : ℕ). let r : BarWithBase = record x { base = b } in Some r) (c.guest_bar_base.ensures f.file held.own room ∙ ap (base f.file n) c.kind-kind.ensures)
    ∙ ap (option_map (standing f.file n)) (sym at)

pub returns-in-Some-None-clause-told : goal.returns-in-Some-None-clause-told
returns-in-Some-None-clause-told c = λ s p f held lawful.
    let here : c.in-Some-None.field-0.now ≡ None = let i = c.in-Some-None.is in let j = c.in-Some-None.field-0-is in cc in
    ap (option_map (standing f.file c.args.bar))
    (sym (slot_read c.args.held.now.placed c.args.bar c.in-Some-None.ensures.lookup.0 c.in-Some-None.ensures.lookup.1 here))

pub returns-in-None-clause-told : goal.returns-in-None-clause-told
returns-in-None-clause-told c = λ s p f held lawful.
    ap (option_map (standing f.file c.args.bar)) (sym (slot_past c.args.held.now.placed c.args.bar c.in-None.ensures.lookup.0))
