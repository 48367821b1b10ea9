-- How far a session came, in the program's words.
--     session_now stage      the session
--     IsAtLine stage      what holds of it between lines: it is not within a handover
--     board_in x, machine_in x      the board, where firmware drives it, and the guests, where they have it
--     IsDriven x      firmware drives the board
--     asks_for_more x line      it asks something beside an access, while firmware drives the board
use Rattle.std.specs.Prelude.{Bool, false, [], Option, None, Some, is_some, IsSome, ⊤}
use Rattle.model_handoff.specs.Changes.{MachineNow}
use Rattle.model_guests.specs.Text.{Text}
use Rattle.model_lines.specs.{Requests.request, Sessions.{DrivenNow, SessionNow, driven, given}}
use Rattle.session.specs.declared.stage.Stage.{Stage, TheVariants.{Driven, Given, Between}}

-- within a handover there is no session
abbrev pub session_now : Stage → SessionNow
session_now (Driven b) = driven b
session_now (Given m) = given m
session_now Between =
    given (record { world = record { handoff = record { functions = []; latch = 0 }; guests = [] }; counts = [] })

abbrev pub IsAtLine : Stage → Type 0
IsAtLine (Driven b) = ⊤
IsAtLine (Given m) = ⊤
IsAtLine Between = ⊥

abbrev pub board_in : SessionNow → Option DrivenNow
board_in (driven b) = Some b
board_in (given m) = None

abbrev pub machine_in : SessionNow → Option MachineNow
machine_in (driven b) = None
machine_in (given m) = Some m

abbrev pub IsDriven : SessionNow → Type 0
IsDriven x = IsSome (board_in x)

-- all other lines take no memory
abbrev pub asks_for_more : SessionNow → Text → Bool
asks_for_more (driven b) line = is_some (request line)
asks_for_more (given m) line = false
