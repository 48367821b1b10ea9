use Rattle.std.proofs.Common.{◌∙◌, ap, sym}
use Rattle.model_guests.specs.{Accesses.configuration, Lone.at_target}
use Rattle.accesses.specs.Accesses.{op_of}
use Rattle.config_bytes.specs.declared.op.Op.{Op}
use Rattle.monitor.{specs.Counts.after_access_nth, proofs.Machines.same_machine}
use Rattle.monitor.proofs.engine.Engine.config_access.Goals as goal

pub returns-in-Read-clause-after : goal.returns-in-Read-clause-after
returns-in-Read-clause-after g c =
    let d = at_target (configuration c.args.slot c.args.off) in
    c.config_read.ensures.after ∙ same_machine c.args.self.now c.args.guest c.requires.there c.args.width d
    ∙ ap (λ (op : Op). after_access_nth c.args.guest (op_of op) c.args.width d c.args.self.now) (sym c.in-Read.is)
