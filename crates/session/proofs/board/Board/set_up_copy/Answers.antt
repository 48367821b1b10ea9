use Rattle.std.{proofs.Common.{◌≡◌, sym, ap, ◌∙◌, subst, arith}, specs.Prelude.{◌≢◌, IfErr}}
use Rattle.bus_scan.specs.{declared.fault.Fault.TheVariants.Memory, Faults.number_of}
use Rattle.model_guests.specs.World.{World, IsLawfulWorld}
use Rattle.model_lines.specs.Sessions.{DrivenNow}
use Rattle.monitor.specs.Beginnings.{world_on}
use Rattle.session.{specs.Files.BreaksRule, proofs.Declared.same_world}
use Rattle.session.proofs.board.Board.set_up_copy.Goals as goal
use Rattle.session.proofs.board.Board.set_up_copy.Goals.{After-set_up_and_assign, After-deref}

pub copy_at_reset-requires : goal.copy_at_reset-requires
copy_at_reset-requires c = c.self.invariant.lawful.board

same : (c : After-deref) → world_on c.in_ok-host.host c.self.inside.guests.items ≡ world_on c.self.inside.host c.self.inside.guests.items
same c = same_world c.self.inside.host c.in_ok-host.host c.self.inside.guests.items c.in_ok-host.ensures.board c.in_ok-host.ensures.apertures

pub set_up_and_assign-requires-clause-lawful : goal.set_up_and_assign-requires-clause-lawful
set_up_and_assign-requires-clause-lawful c = rw c.deref.ensures.value (subst IsLawfulWorld (sym (same c)) c.self.invariant.lawful)

same_shown : (c : After-set_up_and_assign) → world_on c.in_ok-host.host c.self.inside.guests.items ≡ c.args.self.now.world
same_shown c = same (goal.at.returns-clause-made c).After-deref ∙ ap (λ (x : DrivenNow). x.world) c.self.view_is

pub returns-clause-made : goal.returns-clause-made
returns-clause-made c = grind (arith, same_shown)

pub returns-clause-placement : goal.returns-clause-placement
returns-clause-placement c =
    let broken = subst (λ gs. IfErr c.set_up_and_assign.result (λ f. f ≢ Memory → BreaksRule (world_on c.in_ok-host.host gs) (number_of f))) c.deref.ensures.value c.set_up_and_assign.ensures.placement in
    subst (λ (w : World). IfErr c.set_up_and_assign.result (λ f. f ≢ Memory → BreaksRule w (number_of f))) (same_shown c) broken
