-- The contents of C's handles.
--     session_of h      a session, or nothing
--     machine_of h      the machine of a session whose board is given to its guests
--     board_of h      the board of a session that firmware drives
use Rattle.std.specs.Prelude.{Option, option_and_then}
use Rattle.model_handoff.specs.Changes.{MachineNow}
use Rattle.model_lines.specs.Sessions.{DrivenNow, SessionNow}
use Rattle.session.specs.Stages.{board_in, machine_in}
use Rattle.pciguest_c.specs.declared.handle.Handle.{Handle}

abbrev pub session_of : Handle → Option SessionNow
session_of h = h.owner.value

abbrev pub machine_of : Handle → Option MachineNow
machine_of h = option_and_then machine_in (session_of h)

abbrev pub board_of : Handle → Option DrivenNow
board_of h = option_and_then board_in (session_of h)
