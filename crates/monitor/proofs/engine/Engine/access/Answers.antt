use Rattle.std.{proofs.Common.{◌∙◌, sym, ap}, specs.Prelude.option_map}
use Rattle.model_guests.specs.Lone.{destination}
use Rattle.accesses.specs.{Accesses.{access_of, op_of, target_of}, Refusals.number_of, declared.access.At.At}
use Rattle.monitor.{specs.{ByIndex.lone_nth, Counts.after_access_nth}, proofs.{Lands.access_done, Machines.access_refused}}
use Rattle.monitor.proofs.engine.Engine.access.Goals as goal

pub returns-in-Some-clause-after : goal.returns-in-Some-clause-after
returns-in-Some-clause-after g c =
    access_refused c.args.self.now c.args.guest c.requires (access_of c.args.access) (sym c.fault.ensures ∙ ap (option_map number_of) c.in-Some.is)

pub returns-in-Io-clause-after : goal.returns-in-Io-clause-after
returns-in-Io-clause-after g c =
    let a = c.args.access in
    let now = c.args.self.now in
    c.port_access.ensures.after
    ∙ ap (λ (at : At). after_access_nth c.args.guest (op_of a.op) a.width (destination (lone_nth now.world c.args.guest).latch a.width (target_of at)) now) (sym c.in-Io.is)
    ∙ access_done c.args.guest now (target_of a.at) a.width (op_of a.op) (sym c.fault.ensures ∙ ap (option_map number_of) c.in_default.is)
