use Rattle.std.{proofs.Common.{◌≡◌, ◌++◌, drop}, specs.Prelude.flat_map}
use Rattle.model_findings.specs.Agents.{agents_of}
use Rattle.findings.proofs.agents.agents.Given as goal

abbrev pub invariant-loop-row : goal.invariant-loop-row
invariant-loop-row l = l.told.items ++ flat_map agents_of (drop l.row-index l.rows) ≡ flat_map agents_of l.rows
