use Rattle.std.{proofs.Common.{◌∙◌, Some, Ok, Err, ap, sym, arith}, specs.Prelude.Result}
use Rattle.images.specs.declared.fault.ImageFault.{ImageFault}
use Rattle.monitor.proofs.{Calls.{guest_in, inside_guests}, SavedImages.fault_now, Savable.savable_nth}
use Rattle.monitor.proofs.engine.Engine.load.Goals as goal

pub index-requires : goal.index-requires
index-requires g c = omega (arith, inside_guests c.self.invariant.1 c.self.view_is c.args.guest c.requires)

pub returns-in-Err-clause-fault : goal.returns-in-Err-clause-fault
returns-in-Err-clause-fault g c =
    let at = guest_in c.self.invariant.1 c.self.view_is c.args.guest c.requires c.index.ensures in
    let r : Result (Unit {0}) ImageFault = Err c.in-Err.why in
    fault_now at r c.args.bytes.now tt c.in-Err.ensures.refused

pub returns-in-Err-clause-no_image : goal.returns-in-Err-clause-no_image
returns-in-Err-clause-no_image g c = λ is.
    c.saved_bytes_are_accepted.ensures.refused _ (savable_nth c.self.invariant.1 c.self.view_is c.args.guest c.requires) c.args.bytes.now
    (sym (returns-in-Err-clause-fault g c) ∙ ap Some is)

pub load_accepted_image-requires-clause-accepted : goal.load_accepted_image-requires-clause-accepted
load_accepted_image-requires-clause-accepted g c =
    let at = guest_in c.self.invariant.1 c.self.view_is c.args.guest c.requires c.index.ensures in
    let r : Result (Unit {0}) ImageFault = Ok tt in
    sym (fault_now at r c.args.bytes.now c.in_default.ensures.all tt)

pub returns-clause-fault : goal.returns-clause-fault
returns-clause-fault g c =
    let at = guest_in c.self.invariant.1 c.self.view_is c.args.guest c.requires c.index.ensures in
    let r : Result (Unit {0}) ImageFault = Ok tt in
    fault_now at r c.args.bytes.now c.in_default.ensures.all tt
