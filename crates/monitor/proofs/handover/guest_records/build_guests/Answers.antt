use Rattle.std.{proofs.Common.{◌≡◌, ◌+◌, List, take, ap, refl, sym, ◌∙◌, subst}, specs.Prelude.IsSome}
use Rattle.lists.{specs.Elements.Each, proofs.Indices.read_at}
use Rattle.model_board.specs.Paths.{Path}
use Rattle.model_guests.specs.World.{Guest as Declared, World, declared}
use Rattle.monitor.{specs.{declared.guest.Guest.Guest, Beginnings.{world_on, AreSlotsAtFirst}}, proofs.FirstGuests.{slots_declared, AreFirst, guest_pushed}}
use Rattle.monitor.proofs.handover.guest_records.build_guests.Goals as goal

pub build_slots-requires-clause-there : goal.build_slots-requires-clause-there
build_slots-requires-clause-there c =
    let w : World = world_on c.args.host.now c.args.decls.now in
    let ds = c.args.decls.now in
    let i = c.loop-decl.decl-index in
    let d : Declared = c.decl-item.result in
    let slots : c.as_slice.result.now ≡ d.slots = c.as_slice.ensures.value ∙ ap (λ (g : Declared). g.slots) c.decl.view_is in
    subst (Each (λ p. IsSome (declared w.board p))) (sym slots) (slots_declared w c.requires.lawful i d (read_at ds i d c.loop-decl-test.true c.decl-item.is))

pub loop-decl-preserved : goal.loop-decl-preserved
loop-decl-preserved c =
    let w : World = world_on c.args.host.now c.args.decls.now in
    let ds = c.args.decls.now in
    let i = c.loop-decl.decl-index in
    let d : Declared = c.decl-item.result in
    let slots : c.as_slice.result.now ≡ d.slots = c.as_slice.ensures.value ∙ ap (λ (g : Declared). g.slots) c.decl.view_is in
    subst (λ (gs : List Guest). AreFirst c.args.host.now.state w (take (i + 1) ds) gs) (sym c.in_ok-push.ensures.items)
    (guest_pushed c.args.host.now.state w ds i d (record { latch = c.new.result; slots = c.in_ok-build_slots.field-0; changed = 0 }) c.loop-decl.guests.items (read_at ds i d c.loop-decl-test.true c.decl-item.is) c.loop-decl.invariant
    c.new.ensures refl (subst (λ (ps : List Path). AreSlotsAtFirst c.args.host.now ps c.in_ok-build_slots.field-0.items) slots c.in_ok-build_slots.ensures))
