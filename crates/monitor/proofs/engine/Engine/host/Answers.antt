use Rattle.std.proofs.Common.{subst, sym}
use Rattle.model_handoff.{specs.Handoffs.IsHandoff, proofs.Alike.alike_over}
use Rattle.monitor.proofs.Calls.{kept_in}
use Rattle.monitor.proofs.engine.Engine.host.Goals as goal

pub returns-clause-state : goal.returns-clause-state
returns-clause-state g c = (kept_in c.self.invariant.1 c.self.view_is).agrees

pub returns-clause-handoff : goal.returns-clause-handoff
returns-clause-handoff g c =
    let kept = kept_in c.self.invariant.1 c.self.view_is in
    subst IsHandoff (sym kept.agrees) (alike_over c.args.self.now.world.handoff kept.lawful.handoff c.args.self.now.world.guests kept.lawful.seated).handoff
