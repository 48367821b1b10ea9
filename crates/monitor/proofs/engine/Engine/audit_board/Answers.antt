use Rattle.std.proofs.Common.{◌≡◌, [], ◌∙◌, subst}
use Rattle.model_findings.{proofs.Witnesses.problems_are_real_and_complete, specs.Problems.problems}
use Rattle.model_guests.specs.WorldNow.{board_state}
use Rattle.model_handoff.{proofs.Keeping.keeps_problems, specs.Changes.MachineNow}
use Rattle.monitor.specs.Views.{texts, machine_shown}
use Rattle.monitor.proofs.engine.Engine.audit_board.Goals as goal

pub returns-clause-in_order : goal.returns-clause-in_order
returns-clause-in_order g c =
    let m : MachineNow = machine_shown c.self.inside.host (texts c.self.inside.names) c.self.inside.guests.items in
    let lawful = c.self.invariant.1.kept.lawful in
    subst (λ (x : MachineNow). problems (board_state x.world).functions ≡ []) c.self.view_is
    (keeps_problems m.world.handoff lawful.handoff.board m.world.guests lawful.seated ∙ (problems_are_real_and_complete m.world.handoff.functions).1 lawful.order)
