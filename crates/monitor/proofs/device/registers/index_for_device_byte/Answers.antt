use Rattle.std.proofs.Common.{◌∙◌, sym, rules}
use Rattle.monitor.proofs.DeviceSteps.{out_of_reach, byte_refused}
use Rattle.monitor.proofs.device.registers.index_for_device_byte.Goals as goal

pub returns-in-Err-clause-refused : goal.returns-in-Err-clause-refused
returns-in-Err-clause-refused c = byte_refused c.args.slots.now c.args.slot c.args.place c.args.off c.in-Err.ensures.refused

pub returns-then-not-has_device_byte_at-clause-refused : goal.returns-then-not-has_device_byte_at-clause-refused
returns-then-not-has_device_byte_at-clause-refused c =
    out_of_reach c.args.place c.args.off c.in-Ok.ensures.there (λ s p f held. sym (c.has_device_byte_at.ensures.place s p f held) ∙ c.if-not-has_device_byte_at.true)

pub returns-clause-index : goal.returns-clause-index
returns-clause-index c = search rules
