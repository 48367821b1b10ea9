use Rattle.std.proofs.Common.{◌≡◌, ℕ, ◌+◌, ◌<◌, false, get_or}
use Rattle.findings.specs.{declared.span.Span.Span, Spans.{EndsBefore, contains_group}}
use Rattle.findings.proofs.span.overlapping_group_hashes.Given as goal

abbrev pub invariant-loop-index : goal.invariant-loop-index
invariant-loop-index l = (i : ℕ) (d : Span) → i + 1 < l.index → contains_group l.groups.items (get_or l.spans (i + 1) d).group ≡ false
    → EndsBefore (get_or l.spans i d) (get_or l.spans (i + 1) d)
