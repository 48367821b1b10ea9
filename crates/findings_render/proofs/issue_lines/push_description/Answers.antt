use Rattle.std.proofs.Common.{append_assoc}
use Rattle.findings_render.proofs.issue_lines.push_description.Goals as goal

pub returns-in-OtherPrimary : goal.returns-in-OtherPrimary
returns-in-OtherPrimary c = rw c.in-OtherPrimary.is (simp append_assoc c.write-in-OtherPrimary.ensures.bytes)
