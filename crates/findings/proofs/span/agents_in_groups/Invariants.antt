use Rattle.std.{proofs.Common.{◌≡◌, ◌++◌, drop}, specs.Prelude.filter}
use Rattle.findings.specs.Spans.{is_crowded}
use Rattle.findings.proofs.span.agents_in_groups.Given as goal

abbrev pub invariant-loop-agent : goal.invariant-loop-agent
invariant-loop-agent l = l.crowded.items ++ filter (is_crowded l.groups) (drop l.agent-index l.agents) ≡ filter (is_crowded l.groups) l.agents
