use Rattle.std.{proofs.Common.{◌≡◌, ◌++◌, map, drop}, specs.Prelude.filter}
use Rattle.model_board.specs.Paths.{is_ancestor_of}
use Rattle.findings.proofs.bridge_violation.bridge_rows_above.Given as goal

abbrev pub invariant-loop-row : goal.invariant-loop-row
invariant-loop-row l = map (λ r. r.now) l.above.items ++ filter (λ r. is_ancestor_of r.path l.path) (drop l.row-index l.rows) ≡ filter (λ r. is_ancestor_of r.path l.path) l.rows
