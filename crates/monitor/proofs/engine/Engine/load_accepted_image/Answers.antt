use Rattle.std.proofs.Common.{◌∙◌, List, true, subst, sym, arith}
use Rattle.model_images.specs.{ByteLaws.AreBytes, Images.Image, TakenBytes.taken_image}
use Rattle.monitor.{specs.{declared.guest.Guest.Guest, ByIndex.{lone_nth, name_nth}, Counts.counted_nth, Loads.IsLoaded, Moves.HasSlot}, proofs.{Calls.{guest_at}, Exchanges.has_nth, LoadedWorlds.{are_bytes, image_fits, is_loaded, keeps_lent, load_left, takes_named}, Savable.{after_load_sound, savable_nth}}}
use Rattle.monitor.proofs.Ended.{Ends, ends}
use Rattle.monitor.proofs.engine.Engine.load_accepted_image.Goals as goal

pub reset_and_load_image-requires-clause-has : goal.reset_and_load_image-requires-clause-has
reset_and_load_image-requires-clause-has g c =
    let at = (guest_at c.self.invariant.1 c.self.view_is c.args.guest c.requires.there).1 in
    subst (λ (gs : List Guest). HasSlot gs c.args.guest 31) (sym c.deref_mut.ensures.value) (has_nth at (omega arith))

pub reset_and_load_image-requires-clause-takes : goal.reset_and_load_image-requires-clause-takes
reset_and_load_image-requires-clause-takes g c =
    let at = (guest_at c.self.invariant.1 c.self.view_is c.args.guest c.requires.there).1 in
    let takes = takes_named at c.args.bytes.now c.requires.accepted (are_bytes c.args.bytes.now c.type_inv.bytes) in
    (keeps_lent at c.deref_mut.ensures.value, takes)

loaded : (g : _) (c : goal.After-self-2-1 g) → AreBytes c.args.bytes.now
    → Ends c.self.inside c.reset_and_load_image.new.host c.reset_and_load_image.new.guests (IsLoaded c.args.self.now (name_nth c.args.self.now.world c.args.guest) c.args.bytes.now)
loaded g c are =
    let at = (guest_at c.self.invariant.1 c.self.view_is c.args.guest c.requires.there).1 in
    let takes = takes_named at c.args.bytes.now c.requires.accepted are in
    let image : Image = taken_image (lone_nth c.args.self.now.world c.args.guest) c.args.bytes.now in
    let fits = image_fits at c.args.bytes.now takes (savable_nth c.self.invariant.1 c.self.view_is c.args.guest c.requires.there) in
    ends c.self.inside c.deref_mut.ensures.value (c.reset_and_load_image.auto.guests ∙ c.deref_mut.ensures.len)
    (load_left at image (c.reset_and_load_image.ensures.kept (keeps_lent at c.deref_mut.ensures.value) takes))
    (after_load_sound c.self.invariant.1 c.self.view_is c.args.guest c.requires.there c.args.bytes.now image fits)
    (counted_nth c.args.guest true) c.reset_and_load_image.ensures.counts (is_loaded c.self.invariant.1 c.self.view_is c.args.guest c.requires.there c.args.bytes.now image fits)

pub invariant_of-self : goal.invariant_of-self
invariant_of-self g c =
    let after = loaded g c (are_bytes c.args.bytes.now c.type_inv.bytes) in
    (g.met.R.Route.by_routing c.self.inside.route c.self.inside.host c.reset_and_load_image.new.host after.routes c.self.invariant.0, after.sound)

pub returns : goal.returns
returns g c = (loaded g c (are_bytes c.args.bytes.now c.type_inv.bytes)).shown
