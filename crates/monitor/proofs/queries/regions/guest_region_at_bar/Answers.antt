use Rattle.std.{proofs.Common.{◌≡◌, Some, None, sym, ap, ◌∙◌}, specs.Prelude.option_map}
use Rattle.model_registers.specs.Decoding.{is_open}
use Rattle.model_handoff.specs.GuestRegions.{LiveBar, region_now}
use Rattle.bars.specs.Kinds.{kind_of}
use Rattle.monitor.{specs.Queries.region_named, proofs.QuerySteps.{no_region, a_region, region_told, slot_past, slot_read}}
use Rattle.monitor.proofs.queries.regions.guest_region_at_bar.Goals as goal

pub returns-in-Some-Some : goal.returns-in-Some-Some
returns-in-Some-Some c = λ s p f held lawful.
    let here : c.in-Some-Some.field-0.now ≡ Some c.in-Some-Some.region = let i = c.in-Some-Some.is in let j = c.in-Some-Some.field-0-is in cc in
    let at = slot_read c.args.held.now.placed c.args.bar c.in-Some-Some.ensures.lookup.0 c.in-Some-Some.ensures.lookup.1 here in
    let its = a_region s p f c.args.held.now c.args.bar c.in-Some-Some.region held lawful at in
    let v : LiveBar = region_named (record { space = c.space-space.result; first = c.guest_bar_base.result; size = c.size.result; prefetchable = c.is_prefetchable.result; is_open = c.guest_enables_space.result }) in
    region_told f c.args.bar c.in-Some-Some.region its (kind_of c.kind-kind.result) c.kind-kind.ensures v c.space-space.ensures (c.guest_bar_base.ensures f.file held.own)
    c.size.ensures.value c.is_prefetchable.ensures (c.guest_enables_space.ensures f.file held.own ∙ ap (is_open f.file) c.space-space.ensures)

pub returns-in-Some-None : goal.returns-in-Some-None
returns-in-Some-None c = λ s p f held lawful.
    let here : c.in-Some-None.field-0.now ≡ None = let i = c.in-Some-None.is in let j = c.in-Some-None.field-0-is in cc in
    let at = slot_read c.args.held.now.placed c.args.bar c.in-Some-None.ensures.lookup.0 c.in-Some-None.ensures.lookup.1 here in
    ap (option_map (region_now f.file)) (sym (no_region s p f c.args.held.now c.args.bar held at))

pub returns-in-None : goal.returns-in-None
returns-in-None c = λ s p f held lawful.
    let past = slot_past c.args.held.now.placed c.args.bar c.in-None.ensures.lookup.0 in
    ap (option_map (region_now f.file)) (sym (no_region s p f c.args.held.now c.args.bar held past))
