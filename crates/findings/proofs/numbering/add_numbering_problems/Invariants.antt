use Rattle.std.{proofs.Common.{◌≡◌, ◌++◌, map, drop}, specs.Prelude.flat_map}
use Rattle.model_board.specs.Routing.{RoutingRow}
use Rattle.findings.specs.{Bridges.lost_function, Findings.problem_of}
use Rattle.findings.proofs.numbering.add_numbering_problems.Given as goal

abbrev pub invariant-loop-row : goal.invariant-loop-row
invariant-loop-row l = record {
  same : l.host ≡ l.initial.host;
  told : map problem_of l.told.items ++ flat_map (λ (r : RoutingRow). lost_function l.host.state.functions r.path) (drop l.row-index l.rows)
      ≡ map problem_of l.initial.told.items ++ flat_map (λ (r : RoutingRow). lost_function l.initial.host.state.functions r.path) l.rows;
}
