use Rattle.std.proofs.Common.{◌∙◌, ap}
use Rattle.model_guests.specs.Lone.{LoneGuest, answer}
use Rattle.accesses.specs.Accesses.{access_of}
use Rattle.monitor.proofs.{Machines.by_name, Named.lone_by_name, Calls.kept_in}
use Rattle.model_guests.specs.Accesses as guests
use Rattle.monitor.proofs.engine.Engine.step.Goals as goal

pub returns-clause-reply : goal.returns-clause-reply
returns-clause-reply g c =
    c.access.ensures.reply ∙ ap (λ (l : LoneGuest). answer l (guests.access (access_of c.args.access))) (lone_by_name (kept_in c.self.invariant.1 c.self.view_is) c.args.guest c.requires)

pub returns-clause-after : goal.returns-clause-after
returns-clause-after g c =
    c.access.ensures.after ∙ by_name c.self.invariant.1 c.self.view_is c.args.guest c.requires (guests.access (access_of c.args.access))
