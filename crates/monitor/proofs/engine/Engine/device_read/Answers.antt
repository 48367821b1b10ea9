use Rattle.std.proofs.Common.{◌∙◌, arith}
use Rattle.monitor.{specs.DeviceBytes.device_byte, proofs.{DeviceSteps.{device_read, endpoint_reached, refused_there}, Machines.{read_after, still_shown}, ResetSteps.device_refused, Calls.{guest_in, inside_guests}}}
use Rattle.model_guests.specs.DeviceEvents.{device_reads}
use Rattle.monitor.proofs.engine.Engine.device_read.Goals as goal

pub index-requires : goal.index-requires
index-requires g c = omega (arith, inside_guests c.self.invariant.1 c.self.view_is c.args.guest c.requires)

pub device_byte_or_zero_nth-value-requires-clause-there : goal.device_byte_or_zero_nth-value-requires-clause-there
device_byte_or_zero_nth-value-requires-clause-there g c =
    let at = guest_in c.self.invariant.1 c.self.view_is c.args.guest c.requires c.index.ensures in
    endpoint_reached at c.deref.ensures.value c.in-Ok.ensures.index

pub returns-in-Ok-clause-reply : goal.returns-in-Ok-clause-reply
returns-in-Ok-clause-reply g c =
    let at = guest_in c.self.invariant.1 c.self.view_is c.args.guest c.requires c.index.ensures in
    device_read at c.deref.ensures.value c.in-Ok.ensures.index (c.from.ensures ∙ c.device_byte_or_zero_nth-value.ensures.value)

pub returns-in-Ok-clause-after : goal.returns-in-Ok-clause-after
returns-in-Ok-clause-after g c =
    still_shown c.self.invariant.1 c.self.view_is c.device_byte_or_zero_nth-value.ensures.after
    ∙ read_after c.args.self.now c.args.guest (device_byte c.args.slot c.args.place c.args.off)

pub returns-in-Err-clause-reply : goal.returns-in-Err-clause-reply
returns-in-Err-clause-reply g c =
    let at = guest_in c.self.invariant.1 c.self.view_is c.args.guest c.requires c.index.ensures in
    device_refused at (device_reads (device_byte c.args.slot c.args.place c.args.off)) (refused_there at c.deref.ensures.value c.args.slot c.args.place c.args.off c.in-Err.ensures.refused)

pub returns-in-Err-clause-after : goal.returns-in-Err-clause-after
returns-in-Err-clause-after g c = read_after c.args.self.now c.args.guest (device_byte c.args.slot c.args.place c.args.off)
