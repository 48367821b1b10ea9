use Rattle.std.{proofs.{Common.{[], ◌∷◌, Some, None, ap, ap₂, sym, refl, ◌∙◌, arith}, lemmas.List.append-nil}, specs.Prelude.map}
use Rattle.bridge_forward.{specs.RoutingRows.base_of, proofs.{RoutingRows.{slot_there, register_push, HasRoom, has_room}, routing.collect_regions.Goals.{in-Some+in_ok-push, in_default}}}
use Rattle.bridge_forward.proofs.routing.collect_regions.Goals as goal

pub invariant_of-push : goal.invariant_of-push
invariant_of-push c =
    let slots = c.args.slots.now in
    let at = slot_there slots c.loop-index.index c.from.result c.index-slots-from.result c.index-slots-from.result c.index-slots-from.is c.from.ensures (omega (arith, c.type_inv.slots)) in
    let room : HasRoom c.in-Some.region.decl.size c.in-Some.region.base = has_room slots c.loop-index.index c.in-Some.region c.requires.each (at ∙ ap (λ o. Some o) (c.index-slots-from.is ∙ c.in-Some.is)) in
    record { some = omega (arith, room.some, c.size.ensures.value); fits = omega (arith, room.fits, c.size.ensures.value) }

pub loop-index-preserved : goal.loop-index-preserved
loop-index-preserved c =
    let slots = c.args.slots.now in
    let at = slot_there slots c.loop-index.index c.from.result c.index-slots-from.result c.index-slots-from.result c.index-slots-from.is c.from.ensures (omega (arith, c.type_inv.slots)) in
    elim c.match-slot.branch [
      | in-Some+in_ok-push w ↦
          ap (λ v. map base_of v.items) w.regions-is ∙ ap (map base_of) w.in_ok-push.ensures.items
          ∙ register_push slots c.loop-index.index (Some w.in-Some.region) c.loop-index.regions.items (Some _) (at ∙ ap (λ o. Some o) (c.index-slots-from.is ∙ w.in-Some.is)) c.loop-index.invariant
          (ap₂ (λ k s. record { index = c.loop-index.index; kind = k; size = s; base = w.in-Some.region.base } ∷ []) w.kind.ensures w.size.ensures.value)
      | in_default w ↦
          ap (λ v. map base_of v.items) w.regions-is ∙ ap (map base_of) (sym (append-nil c.loop-index.regions.items))
          ∙ register_push slots c.loop-index.index None c.loop-index.regions.items None (at ∙ ap (λ o. Some o) (c.index-slots-from.is ∙ w.in_default.is)) c.loop-index.invariant refl
    ]
