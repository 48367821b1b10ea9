use Rattle.std.proofs.Common.{◌∙◌, ap}
use Rattle.model_guests.specs.Lone.{LoneGuest, answer}
use Rattle.monitor.proofs.{Machines.by_name, Named.lone_by_name, RaiseSteps.raise_of, Calls.kept_in}
use Rattle.model_guests.specs.Accesses as guests
use Rattle.monitor.proofs.engine.Engine.raise.Goals as goal

pub returns-clause-reply : goal.returns-clause-reply
returns-clause-reply g c =
    c.raise_in_slot.ensures.reply ∙ ap (λ (l : LoneGuest). answer l (guests.raises (raise_of c.args.slot c.args.place c.args.off c.args.mask))) (lone_by_name (kept_in c.self.invariant.1 c.self.view_is) c.args.guest c.requires)

pub returns-clause-after : goal.returns-clause-after
returns-clause-after g c =
    c.raise_in_slot.ensures.after ∙ by_name c.self.invariant.1 c.self.view_is c.args.guest c.requires (guests.raises (raise_of c.args.slot c.args.place c.args.off c.args.mask))
