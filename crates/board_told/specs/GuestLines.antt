-- Lines of what an access of a guest finds, in the program's words.
--     head_text t f      a place, and what is found there
--     place_line c      the beginning of the line of a closed region
--     closed_line c, told_lines cs      the line of a closed region, and those of some
--     lines_of_closed f      the lines of the closed regions of a finding
--     text_told latch t f      the whole text
use Rattle.std.specs.Prelude.{ℕ, ◌++◌, ◌∷◌, List, map, codes}
use Rattle.model_guests.specs.{Accesses.Target, Text.{Text, ended, text_of_lines}, PathTexts.hexadecimal}
use Rattle.model_findings.specs.AuditText.{register_text}
use Rattle.model_lines.specs.{WhyText.why_line, WhyGuests.{Finding, slot_text, target_text, finding_text, closed_text, closed_lines, target_lines}}
use Rattle.board_told.specs.{declared.closed.ClosedInSlot.ClosedInSlot, GuestFindings.closed_told}

abbrev pub head_text : Target → Finding → Text
head_text t f = target_text t ++ codes ": " ++ finding_text f

abbrev pub place_line : ClosedInSlot → Text
place_line c =
    why_line (slot_text c.slot ++ register_text c.register ++ codes " at " ++ hexadecimal c.first ++ codes " size "
    ++ hexadecimal c.size ++ codes ": ")

abbrev pub closed_line : ClosedInSlot → Text
closed_line c = ended (why_line (closed_text (closed_told c)))

abbrev pub told_lines : List ClosedInSlot → Text
told_lines cs = text_of_lines (map why_line (map closed_text (map closed_told cs)))

abbrev pub lines_of_closed : Finding → Text
lines_of_closed f = text_of_lines (map why_line (closed_lines f))

abbrev pub text_told : ℕ → Target → Finding → Text
text_told latch t f = text_of_lines (map why_line (target_lines latch t ++ head_text t f ∷ closed_lines f))
