-- What is written where a board isn't handed over.
--     cause_text f      the line of what stands in the way
use Rattle.model_guests.specs.Text.{Text}
use Rattle.model_findings.specs.AuditText.{audit_line, problem_text}
use Rattle.model_handoff.specs.Regions.{HandoffFault, in_disorder, closed_region}
use Rattle.model_lines.specs.Sessions.{closed_text}

abbrev pub cause_text : HandoffFault → Text
cause_text (in_disorder p) = audit_line (problem_text p)
cause_text (closed_region q) = closed_text q
