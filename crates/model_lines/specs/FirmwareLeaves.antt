-- Firmware accesses turn a handoff into a handoff.
--     IsHandoffAlike s now      now is a handoff of the same board as s
--     AccessLeaves, LinesLeave      a firmware access leaves such a handoff, and so do lines
use Rattle.std.specs.Prelude.{List, ◌≡◌}
use Rattle.model_board.specs.{AtReset.board_at, State.State}
use Rattle.model_guests.specs.{LineRuns.after_lines, Text.Text}
use Rattle.model_lines.specs.{FirmwareLines.board_protocol, HostAccesses.{HostAccess, after_access}}
use Rattle.model_handoff.specs.Handoffs.{IsHandoff}

pub record IsHandoffAlike (s now : State) : Type 0 where
  pub handoff : IsHandoff now
  pub board : board_at now.functions ≡ board_at s.functions

abbrev pub AccessLeaves : Type 0
AccessLeaves = (s : State) → IsHandoff s → (a : HostAccess) → IsHandoffAlike s (after_access s a)

abbrev pub LinesLeave : Type 0
LinesLeave = (s : State) → IsHandoff s → (ls : List Text) → IsHandoffAlike s (after_lines board_protocol s ls)
