use Rattle.std.proofs.Common.{◌≡◌, take}
use Rattle.findings.specs.Spans.{spans_from}
use Rattle.findings.proofs.span.spans_of.Given as goal

abbrev pub invariant-loop-index : goal.invariant-loop-index
invariant-loop-index l = l.spans.items ≡ spans_from 0 (take l.index l.agents)
