use Rattle.std.proofs.Common.{List, Option, length, ap, sym, subst, arith}
use Rattle.monitor.{specs.{declared.guest.AssignedFunction.AssignedFunction, ShownImages.{HavePlaces, slots_image}}, proofs.{Calls.{guest_in, inside_guests}, SavedImages.{few_slots, places_kept, size_now}}}
use Rattle.monitor.proofs.engine.Engine.image_size.Goals as goal

pub index-requires : goal.index-requires
index-requires g c = omega (arith, inside_guests c.self.invariant.1 c.self.view_is c.args.guest c.requires)

pub saved_slots_size-requires-clause-places : goal.saved_slots_size-requires-clause-places
saved_slots_size-requires-clause-places g c =
    let at = guest_in c.self.invariant.1 c.self.view_is c.args.guest c.requires c.index.ensures in
    subst (HavePlaces c.self.inside.host.state.functions) (sym c.deref.ensures.value) (places_kept at)

pub saved_slots_size-requires-clause-few : goal.saved_slots_size-requires-clause-few
saved_slots_size-requires-clause-few g c =
    let at = guest_in c.self.invariant.1 c.self.view_is c.args.guest c.requires c.index.ensures in
    let many = few_slots at in
    let same = ap (λ (os : List (Option AssignedFunction)). length os) c.deref.ensures.value in
    omega arith

pub returns-clause-size : goal.returns-clause-size
returns-clause-size g c =
    let at = guest_in c.self.invariant.1 c.self.view_is c.args.guest c.requires c.index.ensures in
    let same = ap (λ (os : List (Option AssignedFunction)). length (slots_image c.self.inside.host.state.functions os)) c.deref.ensures.value in
    let whole = size_now at in
    omega (arith, c.saved_slots_size.ensures.size)
