use Rattle.std.{proofs.Common.{◌≡◌, sym, subst, arith}, specs.Prelude.{IfSome, is_some}}
use Rattle.model_guests.specs.Lone.{LoneGuest}
use Rattle.model_images.specs.{LoadedBytes.load_fault, Stops.{StopsAt, is_told, stop_slot}}
use Rattle.monitor.proofs.{Calls.{guest_in, inside_guests}, SavedImages.{few_slots, lone_by_name_is}}
use Rattle.monitor.proofs.engine.Engine.image_stop.Goals as goal

pub index-requires : goal.index-requires
index-requires g c = omega (arith, inside_guests c.self.invariant.1 c.self.view_is c.args.guest c.requires)

pub find_first_mismatch-requires : goal.find_first_mismatch-requires
find_first_mismatch-requires g c = let many = few_slots (guest_in c.self.invariant.1 c.self.view_is c.args.guest c.requires c.index.ensures) in omega arith

pub returns-clause-at : goal.returns-clause-at
returns-clause-at g c =
    let at = guest_in c.self.invariant.1 c.self.view_is c.args.guest c.requires c.index.ensures in
    subst (λ (l : LoneGuest). IfSome c.find_first_mismatch.result (λ s. StopsAt l c.args.bytes.now s.offset)) (sym (lone_by_name_is at)) c.find_first_mismatch.ensures.at

pub returns-clause-slot : goal.returns-clause-slot
returns-clause-slot g c =
    let at = guest_in c.self.invariant.1 c.self.view_is c.args.guest c.requires c.index.ensures in
    subst (λ (l : LoneGuest). IfSome c.find_first_mismatch.result (λ s. s.slot ≡ stop_slot l c.args.bytes.now)) (sym (lone_by_name_is at)) c.find_first_mismatch.ensures.slot

pub returns-clause-told : goal.returns-clause-told
returns-clause-told g c =
    let at = guest_in c.self.invariant.1 c.self.view_is c.args.guest c.requires c.index.ensures in
    subst (λ (l : LoneGuest). is_some c.find_first_mismatch.result ≡ is_told (load_fault l c.args.bytes.now)) (sym (lone_by_name_is at)) c.find_first_mismatch.ensures.told
