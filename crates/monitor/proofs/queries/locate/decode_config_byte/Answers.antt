use Rattle.std.{proofs.Common.{Option, Some, None, cond, ap, sym, arith}, specs.Prelude.is_some}
use Rattle.model_registers.specs.{Registers.config, Decoding.Function}
use Rattle.model_guests.specs.Slots.{Landing}
use Rattle.monitor.proofs.Steps.{slot_there, slot_empty}
use Rattle.monitor.proofs.queries.locate.decode_config_byte.Goals as goal

pub returns-in-Some : goal.returns-in-Some
returns-in-Some c = λ s qs fs are.
    let slot = slot_there s qs fs c.args.slots.now c.args.slot c.in-Some.field-0.now are c.in-Some.ensures.there in
    sym (ap (λ (o : Option Function). cond (is_some o) (Some (let l : Landing = record { slot = c.args.slot; place = config c.args.offset } in l)) None) slot.function)

pub returns-in-None : goal.returns-in-None
returns-in-None c = grind (arith, slot_empty)
