-- Laws of the effect of lines on a world.
--     NamesStay, NamesAlong      no guest's name changes
--     HandoffStays      the handoff doesn't change
--     LongLinesAlike      a line of more than 200 bytes has the same output whatever its words are, and changes nothing
use Rattle.std.specs.Prelude.{◌≡◌, List, IsTrue}
use Rattle.model_board.specs.State.{State}
use Rattle.model_guests.specs.{Text.Text, Grammar.is_long, World.{World, names}, WorldNow.{WorldNow, world_over, names_now, line_output, after_line, after_lines}}

abbrev pub NamesStay : Type 0
NamesStay = (w : WorldNow) (line : Text) → names_now (after_line w line) ≡ names_now w

abbrev pub NamesAlong : Type 0
NamesAlong = (w : World) (s : State) (ls : List Text) → names_now (after_lines (world_over w s) ls) ≡ names w

abbrev pub HandoffStays : Type 0
HandoffStays = (w : WorldNow) (ls : List Text) → (after_lines w ls).handoff ≡ w.handoff

abbrev pub LongLinesAlike : Type 0
LongLinesAlike = (w : WorldNow) (l m : Text) → IsTrue (is_long l) → IsTrue (is_long m)
    → (line_output w l ≡ line_output w m) × (after_line w l ≡ w)
