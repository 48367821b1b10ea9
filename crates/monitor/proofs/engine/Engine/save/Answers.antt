use Rattle.std.proofs.Common.{◌≤◌, ◌∙◌, length, ap, sym, subst, arith}
use Rattle.model_images.{specs.{Images.Image, ImageBytes.image_bytes}, proofs.SavedWorlds.takes_saved_guest}
use Rattle.images.specs.Puts.{put}
use Rattle.monitor.{specs.ByIndex.name_nth, proofs.{Calls.{guest_in, inside_guests, kept_in, savable_in}, SavedImages.{image_is, places_kept}, Named.there_nth}}
use Rattle.monitor.proofs.engine.Engine.save.Goals as goal

pub index-requires : goal.index-requires
index-requires g c = omega (arith, inside_guests c.self.invariant.1 c.self.view_is c.args.guest c.requires.there)

pub put_image-requires-clause-places : goal.put_image-requires-clause-places
put_image-requires-clause-places g c = places_kept (guest_in c.self.invariant.1 c.self.view_is c.args.guest c.requires.there c.index.ensures)

pub put_image-requires-clause-room : goal.put_image-requires-clause-room
put_image-requires-clause-room g c =
    let at = guest_in c.self.invariant.1 c.self.view_is c.args.guest c.requires.there c.index.ensures in
    subst (λ (i : Image). length (image_bytes i) ≤ length c.args.out.now) (image_is at) c.requires.room

pub returns-clause-bytes : goal.returns-clause-bytes
returns-clause-bytes g c =
    let at = guest_in c.self.invariant.1 c.self.view_is c.args.guest c.requires.there c.index.ensures in
    c.put_image.ensures ∙ ap (λ (i : Image). put 0 (image_bytes i) c.args.out.now) (sym (image_is at))

pub returns-clause-taken : goal.returns-clause-taken
returns-clause-taken g c =
    let kept = kept_in c.self.invariant.1 c.self.view_is in
    takes_saved_guest c.args.self.now.world (name_nth c.args.self.now.world c.args.guest) kept.lawful (savable_in c.self.invariant.1 c.self.view_is) (there_nth kept c.args.guest c.requires.there)
