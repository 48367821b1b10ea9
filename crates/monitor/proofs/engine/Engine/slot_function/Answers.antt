use Rattle.std.proofs.Common.{ap, ◌∙◌, arith, Err, ℕ}
use Rattle.monitor.{specs.FunctionsTold.seat_kept, proofs.{FunctionsTold.{seats_told, slot_told, slot_assign_error}, Given.board_kept, Calls.{guest_in, inside_guests, kept_in}}}
use Rattle.monitor.proofs.engine.Engine.slot_function.Goals as goal

pub index-requires : goal.index-requires
index-requires g c = omega (arith, inside_guests c.self.invariant.1 c.self.view_is c.args.guest c.requires)

pub returns-in-Err : goal.returns-in-Err
returns-in-Err g c =
    let at = guest_in c.self.invariant.1 c.self.view_is c.args.guest c.requires c.index.ensures in
    ap (λ (n : ℕ). Err n) c.number.ensures ∙ slot_assign_error at c.deref.ensures.value c.args.slot c.in-Err.ensures.refused

pub describe_function_nth-requires-clause-board : goal.describe_function_nth-requires-clause-board
describe_function_nth-requires-clause-board g c = board_kept (kept_in c.self.invariant.1 c.self.view_is)

pub returns-in-Some : goal.returns-in-Some
returns-in-Some g c =
    let at = guest_in c.self.invariant.1 c.self.view_is c.args.guest c.requires c.index.ensures in
    slot_told at c.deref.ensures.value c.args.slot c.in-Ok.ensures.there (c.in-Some.ensures c.args.self.now.world.guests (λ p is. ap (seat_kept c.in-Ok.held.now.index 0) c.deref-2.ensures.value ∙ seats_told at.kept c.in-Ok.held.now.index p is))

pub returns-in-None : goal.returns-in-None
returns-in-None g c =
    let at = guest_in c.self.invariant.1 c.self.view_is c.args.guest c.requires c.index.ensures in
    slot_told at c.deref.ensures.value c.args.slot c.in-Ok.ensures.there (c.in-None.ensures c.args.self.now.world.guests (λ p is. ap (seat_kept c.in-Ok.held.now.index 0) c.deref-2.ensures.value ∙ seats_told at.kept c.in-Ok.held.now.index p is))
