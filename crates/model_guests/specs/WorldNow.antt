-- The current state of a world, and the effect of a script on it, line by line.
--     WorldNow      the handoff of the board, and the current guests
--     world_over w s      a world before any line, over a handoff
--     names_now, board_state      the guests' names; the state of the board
--     host_reply, move_reply      the reply to the host
--     line_output, after_line      the output of a line, and the world after it
--     world_protocol      both as a protocol
--     output, after_lines      the same along lines
use Rattle.std.specs.{Prelude.{List, [], ◌∷◌, map}, Option.option_map_or}
use Rattle.model_board.specs.State.{State}
use Rattle.model_guests.specs.{Accesses.{Reply, done, refused}, Text.{Text, text_of_lines}, Grammar.{HostRead, guest, host}, World.World, HostReads.host_answer, Replies.line_text, Lone.answer, Guests.{GuestNow, GuestsNow, guests_at_first, lone_of, after_guest_event, Move, move_fault, after_move}, AgreedBoard.state_over, Lines.{Meaning, nothing, guest_event, host_read, host_move, bad, meaning}, LineRuns.Protocol}
use Rattle.model_guests.specs.LineRuns as runs

-- the board's registers aren't stored here: the guests and the handoff determine them
pub record WorldNow : Type 0 where
  pub handoff : State
  pub guests : GuestsNow

abbrev pub world_over : World → State → WorldNow
world_over w s = record { handoff = s; guests = guests_at_first w }

abbrev pub names_of : GuestsNow → List Text
names_of gs = map (λ (g : GuestNow). g.name) gs

abbrev pub names_now : WorldNow → List Text
names_now w = names_of w.guests

abbrev pub board_state : WorldNow → State
board_state w = state_over w.handoff w.guests

abbrev pub host_reply : WorldNow → HostRead → Reply
host_reply w r = host_answer (board_state w) r

abbrev pub move_reply : GuestsNow → Move → Reply
move_reply gs m = option_map_or refused (move_fault gs m) done

-- one line or none
abbrev pub written_by : WorldNow → Meaning → List Text
written_by w nothing = []
written_by w (guest_event name e) = line_text (guest name) (answer (lone_of w.guests name) e) ∷ []
written_by w (host_read r) = line_text host (host_reply w r) ∷ []
written_by w (host_move m) = line_text host (move_reply w.guests m) ∷ []
written_by w (bad who n) = line_text who (refused n) ∷ []

abbrev pub guests_after : GuestsNow → Meaning → GuestsNow
guests_after gs nothing = gs
guests_after gs (guest_event name e) = after_guest_event name e gs
guests_after gs (host_read r) = gs
guests_after gs (host_move m) = after_move gs m
guests_after gs (bad who n) = gs

-- no line changes the handoff
abbrev pub after_meaning : WorldNow → Meaning → WorldNow
after_meaning w m = record w { guests = guests_after w.guests m }

abbrev pub line_output : WorldNow → Text → Text
line_output w line = text_of_lines (written_by w (meaning (names_now w) line))

abbrev pub after_line : WorldNow → Text → WorldNow
after_line w line = after_meaning w (meaning (names_now w) line)

abbrev pub world_protocol : Protocol WorldNow
world_protocol = record { writes = line_output; next = after_line }

abbrev pub output : WorldNow → List Text → Text
output w ls = runs.output world_protocol w ls

abbrev pub after_lines : WorldNow → List Text → WorldNow
after_lines w ls = runs.after_lines world_protocol w ls
