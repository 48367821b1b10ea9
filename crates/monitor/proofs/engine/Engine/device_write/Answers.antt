use Rattle.std.proofs.Common.{refl, arith}
use Rattle.monitor.{specs.DeviceBytes.device_byte, proofs.{Machines.{happens, refused_all, stood}, ResetSteps.{device_refused, nothing_changed}, DeviceSteps.{device_written, endpoint_reached, refused_there, write_left}, Calls.{guest_in, inside_guests}, Savable.after_action_sound}}
use Rattle.model_guests.specs.DeviceEvents.{device_writes}
use Rattle.monitor.proofs.engine.Engine.device_write.Goals as goal

pub index-requires : goal.index-requires
index-requires g c = omega (arith, inside_guests c.self.invariant.1 c.self.view_is c.args.guest c.requires)

pub set_device_byte_nth-requires-clause-there : goal.set_device_byte_nth-requires-clause-there
set_device_byte_nth-requires-clause-there g c =
    let at = guest_in c.self.invariant.1 c.self.view_is c.args.guest c.requires c.index.ensures in
    endpoint_reached at c.deref.ensures.value c.in-Ok.ensures.index

pub invariant_of-self : goal.invariant_of-self
invariant_of-self g c =
    let at = guest_in c.self.invariant.1 c.self.view_is c.args.guest c.requires c.index.ensures in
    let left = write_left at c.deref.ensures.value c.in-Ok.ensures.index c.args.value c.set_device_byte_nth.ensures in
    (g.met.R.Route.by_routing c.self.inside.route c.self.inside.host c.set_device_byte_nth.new.self left.routes c.self.invariant.0, after_action_sound c.self.invariant.1 c.self.view_is (happens c.args.self.now c.args.guest (device_writes (device_byte c.args.slot c.args.place c.args.off) c.args.value)) left)

pub returns-in-Ok-clause-reply : goal.returns-in-Ok-clause-reply
returns-in-Ok-clause-reply g c =
    let at = guest_in c.self.invariant.1 c.self.view_is c.args.guest c.requires c.index.ensures in
    device_written at c.deref.ensures.value c.in-Ok.ensures.index c.args.value

pub returns-in-Ok-clause-after : goal.returns-in-Ok-clause-after
returns-in-Ok-clause-after g c =
    let at = guest_in c.self.invariant.1 c.self.view_is c.args.guest c.requires c.index.ensures in
    stood c.self.invariant.1 c.self.view_is (happens c.args.self.now c.args.guest (device_writes (device_byte c.args.slot c.args.place c.args.off) c.args.value))
    (write_left at c.deref.ensures.value c.in-Ok.ensures.index c.args.value c.set_device_byte_nth.ensures) (λ x. refl)

pub returns-in-Err-clause-reply : goal.returns-in-Err-clause-reply
returns-in-Err-clause-reply g c =
    let at = guest_in c.self.invariant.1 c.self.view_is c.args.guest c.requires c.index.ensures in
    device_refused at (device_writes (device_byte c.args.slot c.args.place c.args.off) c.args.value) (refused_there at c.deref.ensures.value c.args.slot c.args.place c.args.off c.in-Err.ensures.refused)

pub returns-in-Err-clause-after : goal.returns-in-Err-clause-after
returns-in-Err-clause-after g c =
    let at = guest_in c.self.invariant.1 c.self.view_is c.args.guest c.requires c.index.ensures in
    let e = device_writes (device_byte c.args.slot c.args.place c.args.off) c.args.value in
    refused_all c.args.self.now (happens c.args.self.now c.args.guest e) (nothing_changed at e (refused_there at c.deref.ensures.value c.args.slot c.args.place c.args.off c.in-Err.ensures.refused)) (λ x. refl)
