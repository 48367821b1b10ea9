use Rattle.std.proofs.Common.{arith}
use Rattle.std.proofs.lemmas.Result.{err_from_is_err_and}
use Rattle.window_packing.proofs.SetUps.{refused_left, kept_left, placeable_left, plan_left, host_left, board_left, ready_left, own_claims}
use Rattle.window_packing.proofs.ready.set_up.Goals as goal

pub returns-in_err-plan-clause-refused : goal.returns-in_err-plan-clause-refused
returns-in_err-plan-clause-refused c =
    let p = err_from_is_err_and c.from_residual-in_err-plan.result c.from_residual-in_err-plan.ensures.1 in
    rw (p.1, p.2) (refused_left c.in_ok-table.ensures.found c.apertures-apertures.ensures _ c.in_err-plan.ensures.refused)

pub program-requires-clause-placeable : goal.program-requires-clause-placeable
program-requires-clause-placeable c = grind (arith, placeable_left)

pub program-requires-clause-planned : goal.program-requires-clause-planned
program-requires-clause-planned c = plan_left c.in_ok-table.ensures.found c.apertures-apertures.ensures c.in_ok-plan.ensures.planned c.in_ok-plan.ensures.placeable

pub invariant_of-result : goal.invariant_of-result
invariant_of-result c =
    ready_left c.in_ok-table.ensures.found c.apertures-apertures.ensures c.in_ok-plan.ensures.planned c.in_ok-plan.ensures.placeable c.program.ensures

pub returns-clause-ready : goal.returns-clause-ready
returns-clause-ready c = grind (arith, host_left)

pub returns-clause-board : goal.returns-clause-board
returns-clause-board c =
    board_left c.in_ok-table.ensures.found c.apertures-apertures.ensures c.in_ok-plan.ensures.planned c.in_ok-plan.ensures.placeable c.program.ensures

pub returns-clause-kept : goal.returns-clause-kept
returns-clause-kept c = kept_left c.in_ok-table.ensures.found c.apertures-apertures.ensures c.in_ok-plan.ensures.planned c.in_ok-plan.ensures.placeable

pub returns-clause-claims : goal.returns-clause-claims
returns-clause-claims c =
    own_claims _ (ready_left c.in_ok-table.ensures.found c.apertures-apertures.ensures c.in_ok-plan.ensures.planned c.in_ok-plan.ensures.placeable c.program.ensures)
