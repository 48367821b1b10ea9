-- A session over a board: firmware lines from reset on, and among them `host audit` and `host ready`, which print a
-- report, `host why ..`, which prints an explanation, and `host guests`, which hands the board over to its guests. After
-- that each line is a line of a script.
--     DrivenNow      the board of a world that firmware programs, and whether a write succeeded since reset
--     at_reset w      the board of a world at reset
--     after_board_access, after_board_line      the board after a firmware access, and after a firmware line
--     driven_protocol      the output of a firmware line, and the board after it, as a protocol
--     SessionNow      a board that firmware programs, or the guests over it
--     session_functions x      the functions of the board in their current state
--     machine_over w s      the guests of a world before any line, over a handoff
--     handed_over b      the board that guests get
--     handover_lines f      the output for the first fault, if there is one
--     session_output, after_session_line      the output of a line, and the session after it
--     session_protocol      both as a protocol, to run several lines
use Rattle.std.specs.{Prelude.{List, [], ◌∷◌, ℕ, ◌++◌, ◌||◌, Bool, true, false, Option, None, Some, map, codes, decimal}, Option.option_map_or}
use Rattle.model_board.specs.{AtReset.reset_state, State.{BoardFunction, State}}
use Rattle.model_set_up.specs.PlacedRegions.{PlacedRegion}
use Rattle.model_guests.specs.{Text.{Text, text_of_lines}, Grammar.host, Guests.GuestNow, Accesses.{Reply, answered, done, refused}, Replies.line_text, PathTexts.path_text, World.World, WorldNow.{WorldNow, world_over, board_state}, LineRuns.Protocol}
use Rattle.model_lines.specs.{HostAccesses.{HostAccess, answer, after_access}, FirmwareLines.{Meaning, nothing, asked, bad, meaning, line_output}, Reports.report_text, Requests.{HostRequest, for_report, for_guests, for_why, request, why_written}}
use Rattle.model_findings.specs.{AuditText.{audit_line, problem_text, register_text}}
use Rattle.model_handoff.specs.{Handoffs.taken_over, Regions.{HandoffFault, in_disorder, closed_region, first_fault}, Changes.{MachineNow, after_line_on_machine}}
use Rattle.model_guests.specs.WorldNow as script

-- ---- a board that firmware drives

pub record DrivenNow : Type 0 where
  pub world : World
  pub state : State
  pub written : Bool

abbrev pub at_reset : World → DrivenNow
at_reset w = record { world = w; state = reset_state w.board; written = false }

-- after a write that isn't refused
abbrev pub is_done : Reply → Bool
is_done (answered v w) = false
is_done done = true
is_done (refused n) = false

abbrev pub after_board_access : DrivenNow → HostAccess → DrivenNow
after_board_access b a = record b {
  state = after_access b.state a;
  written = b.written || is_done (answer b.state a);
}

abbrev pub after_meant : DrivenNow → Meaning → DrivenNow
after_meant b nothing = b
after_meant b (asked a) = after_board_access b a
after_meant b (bad who n) = b

abbrev pub after_board_line : DrivenNow → Text → DrivenNow
after_board_line b line = after_meant b (meaning line)

abbrev pub driven_protocol : Protocol DrivenNow
driven_protocol = record { writes = λ b line. line_output b.state line; next = after_board_line }

-- ---- sessions

pub data SessionNow : Type 0 where
  driven : DrivenNow → SessionNow
  given : MachineNow → SessionNow

abbrev pub session_functions : SessionNow → List BoardFunction
session_functions (driven b) = b.state.functions
session_functions (given m) = (board_state m.world).functions

-- ---- the handover

-- no region of a guest has moved yet
abbrev pub machine_over : World → State → MachineNow
machine_over w s =
    let m : WorldNow = world_over w s in
    record { world = m; counts = map (λ (g : GuestNow). 0) m.guests }

abbrev pub handed_over : DrivenNow → MachineNow
handed_over b = machine_over b.world (taken_over b.world b.state)

abbrev pub closed_text : PlacedRegion → Text
closed_text q = codes "closed: " ++ path_text q.path ++ register_text q.index

abbrev pub refused_line : ℕ → Text → Text
refused_line n words = codes "host: refused " ++ decimal n ++ codes " " ++ words

-- the fault and its number, or success
abbrev pub handover_lines : Option HandoffFault → List Text
handover_lines None = line_text host done ∷ []
handover_lines (Some (in_disorder p)) = audit_line (problem_text p) ∷ refused_line 207 (codes "not in order") ∷ []
handover_lines (Some (closed_region q)) = closed_text q ∷ refused_line 206 (codes "closed region") ∷ []

abbrev pub handover_output : Option HandoffFault → Text
handover_output f = text_of_lines (handover_lines f)

abbrev pub after_handover : DrivenNow → Option HandoffFault → SessionNow
after_handover b None = given (handed_over b)
after_handover b (Some f) = driven b

-- ---- a line

-- the output of a request, and the session after it: all requests except the one for guests are questions, and change nothing
abbrev pub told_output : DrivenNow → HostRequest → Text
told_output b (for_report r) = report_text r b.world.apertures b.state.functions
told_output b for_guests = handover_output (first_fault b.world b.state)
told_output b (for_why at) = why_written b.state at

abbrev pub after_request : DrivenNow → HostRequest → SessionNow
after_request b for_guests = after_handover b (first_fault b.world b.state)
after_request b other = driven b

abbrev pub driven_output : DrivenNow → Text → Text
driven_output b line = option_map_or (told_output b) (request line) (line_output b.state line)

abbrev pub after_driven : DrivenNow → Text → SessionNow
after_driven b line = option_map_or (after_request b) (request line) (driven (after_board_line b line))

abbrev pub session_output : SessionNow → Text → Text
session_output (driven b) line = driven_output b line
session_output (given m) line = script.line_output m.world line

abbrev pub after_session_line : SessionNow → Text → SessionNow
after_session_line (driven b) line = after_driven b line
after_session_line (given m) line = given (after_line_on_machine m line)

abbrev pub session_protocol : Protocol SessionNow
session_protocol = record { writes = session_output; next = after_session_line }
