use Rattle.std.{proofs.{Common.{◌++◌, map, ap, sym, ◌∙◌}, lemmas.List.{append-nil, at_drop_all}}, specs.Prelude.flat_map}
use Rattle.model_board.specs.Routing.{RoutingRow}
use Rattle.findings.{specs.{Bridges.lost_function, Findings.problem_of}, proofs.Numbers.numbers_of_rows}
use Rattle.findings.proofs.numbering.add_numbering_problems.Goals as goal

pub returns-clause-told : goal.returns-clause-told
returns-clause-told c =
    let fs = c.args.host.now.state.functions in
    let now = map problem_of c.loop-row.told.items in
    let rest = at_drop_all (flat_map (λ (r : RoutingRow). lost_function c.loop-row.host.state.functions r.path)) c.args.rows.now c.loop-row.row-index c.loop-row-test.false in
    sym (append-nil now) ∙ ap (λ xs. now ++ xs) (sym rest) ∙ c.loop-row.invariant.told
    ∙ ap (λ xs. map problem_of c.args.told.now.items ++ xs) (ap (flat_map (λ (r : RoutingRow). lost_function fs r.path)) c.requires ∙ numbers_of_rows fs)
