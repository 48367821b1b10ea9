use Rattle.monitor.proofs.OwnStanding.{own_there, own_empty}
use Rattle.monitor.proofs.queries.own_registers.own_registers_in_slot.Goals as goal

pub returns-in-Some : goal.returns-in-Some
returns-in-Some c = λ w i is. own_there is c.deref.ensures.value c.args.slot c.in-Some.ensures.there c.own_registers_of_function.result c.own_registers_of_function.ensures

pub returns-in-None : goal.returns-in-None
returns-in-None c = λ w i is. own_empty is c.deref.ensures.value c.args.slot c.in-None.ensures.empty
