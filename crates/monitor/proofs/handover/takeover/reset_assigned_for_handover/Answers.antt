use Rattle.std.{proofs.{Common.{◌≡◌, List, ap, ◌∙◌}, lemmas.List.take_all}, specs.Prelude.flat_map}
use Rattle.lists.proofs.Indices.{read_at}
use Rattle.model_guests.specs.World.{Guest}
use Rattle.host_bridge.specs.HostState.{with_latch}
use Rattle.monitor.proofs.TakenOver.{reset_on, none_reset, guest_reset}
use Rattle.monitor.proofs.handover.takeover.reset_assigned_for_handover.Goals as goal

pub loop-decl-init : goal.loop-decl-init
loop-decl-init c = none_reset c.args.host.now

pub loop-decl-preserved : goal.loop-decl-preserved
loop-decl-preserved c =
    let ds = c.args.decls.now in
    let i = c.loop-decl.decl-index in
    let d : Guest = c.decl-item.result in
    let slots : c.as_slice.result.now ≡ d.slots = c.as_slice.ensures.value ∙ ap (λ (g : Guest). g.slots) c.decl.view_is in
    guest_reset c.args.host.now c.loop-decl.host c.reset_uncopied_at_paths.new.host ds i d (read_at ds i d c.loop-decl-test.true c.decl-item.is) c.loop-decl.invariant
    (c.reset_uncopied_at_paths.ensures ∙ ap (reset_on c.loop-decl.host) slots)

pub returns : goal.returns
returns c =
    let ds = c.args.decls.now in
    c.clear_latch.ensures
    ∙ ap (with_latch 0) (c.loop-decl.invariant ∙ ap (λ (gs : List Guest). reset_on c.args.host.now (flat_map (λ (g : Guest). g.slots) gs)) (take_all c.loop-decl.decl-index ds c.loop-decl-test.false))
