use Rattle.std.proofs.Common.{append_assoc}
use Rattle.findings_render.proofs.why_address_lines.ShownCauseDisplay.fmt.Goals as goal

pub returns-in-StoppedAt-clause-writes : goal.returns-in-StoppedAt-clause-writes
returns-in-StoppedAt-clause-writes g c = rw c.in-StoppedAt.is (simp append_assoc c.write-in-StoppedAt.ensures.writes)
