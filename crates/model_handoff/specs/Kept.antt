-- Properties of a world over a handoff that hold throughout any script: a monitor needs to keep no more of the board than
-- these.
--     IsLawfulOver w      a consistent handoff, with guests seated on its board and served
--     LawfulAtFirst      it holds at first, if the functions may be assigned
--     LawfulAfter, LawfulAlong      it holds after a line, and along lines
use Rattle.std.specs.Prelude.{List, ◌≡◌}
use Rattle.model_board.specs.{AtReset.board_at, State.State}
use Rattle.model_findings.specs.Witnesses.{IsInOrder}
use Rattle.model_guests.specs.{Text.Text, World.{World, HasLawfulGuests}, WorldNow.{WorldNow, world_over, after_line, after_lines}, Seated.AreSeated}
use Rattle.model_handoff.specs.{Handoffs.IsHandoff, Regions.{CanBeGiven, AreServed}}

pub record IsLawfulOver (w : WorldNow) : Type 0 where
  pub handoff : IsHandoff w.handoff
  pub order : IsInOrder w.handoff.functions
  pub seated : AreSeated (board_at w.handoff.functions) w.guests
  pub served : AreServed w.handoff w.guests

abbrev pub LawfulAtFirst : Type 0
LawfulAtFirst = (w : World) (s : State) → IsHandoff s → board_at s.functions ≡ w.board → HasLawfulGuests w
    → CanBeGiven w s → IsLawfulOver (world_over w s)

abbrev pub LawfulAfter : Type 0
LawfulAfter = (w : WorldNow) (line : Text) → IsLawfulOver w → IsLawfulOver (after_line w line)

abbrev pub LawfulAlong : Type 0
LawfulAlong = (w : WorldNow) (ls : List Text) → IsLawfulOver w → IsLawfulOver (after_lines w ls)
