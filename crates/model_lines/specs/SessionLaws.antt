-- Laws of sessions.
--     HostWordsAreNoForm      `host` and one word isn't a valid line of firmware or of a script
--     RequestsAreNoForm      neither is any other line that requests something
--     QuestionsChangeNothing      a question changes nothing, and among guests' lines it is a bad line
--     RefusedStays      a refused handover changes nothing
--     PlainSessions      lines without requests have the output and effect of firmware lines
--     DrivenIsFirmware      such lines keep the world, and change the board as they would without a session
--     GivenIsScript      after the handover, lines have the output and effect of a script's lines
--     AccessesTellWritten, LinesTellWritten      until a write succeeds, a board whose CONFIG_ADDRESS is 0 is unchanged
--     GivenBy      whenever guests have the board, some line handed it over, and the later lines are a script over it
--     IsolatedSessions      from then on a guest's own functions and inputs decide its replies and state
use Rattle.std.specs.Prelude.{◌≡◌, ◌≢◌, List, [], ◌∷◌, ◌++◌, Some, None, false, codes, IsTrue, IsFalse}
use Rattle.lists.specs.Elements.{Each}
use Rattle.model_guests.specs.{Text.{Text, lines, words}, Grammar.{has_name, host, is_long}, Guests.{guests_at_first, lone_of}, Inputs.{inputs, lone_output, after_inputs}, LineRuns.{output, after_lines}, Lone.reset_guest, Replies.reply_lines, World.{World, names, declarations, HasLawfulNames}}
use Rattle.model_lines.specs.{FirmwareLines.board_protocol, HostAccesses.HostAccess, Requests.{HostRequest, for_guests, request}, Sessions.{DrivenNow, SessionNow, driven, given, after_board_access, after_board_line, driven_protocol, handed_over, after_session_line, session_protocol}}
use Rattle.model_handoff.specs.{Regions.{HandoffFault, first_fault}, Changes.{MachineNow, machine_protocol}}
use Rattle.model_guests.specs.Lines as script
use Rattle.model_guests.specs.WorldNow as now
use Rattle.model_lines.specs.FirmwareLines as firmware

pub record IsNoForm (line : Text) : Type 0 where
  pub firmware : firmware.meaning line ≡ firmware.bad host 401
  pub script : (guests : List Text) → script.meaning guests line ≡ script.bad host 401

abbrev pub HostWordsAreNoForm : Type 0
HostWordsAreNoForm = (line word : Text) → IsFalse (is_long line) → words line ≡ codes "host" ∷ word ∷ [] → IsNoForm line

abbrev pub RequestsAreNoForm : Type 0
RequestsAreNoForm = (line : Text) (r : HostRequest) → request line ≡ Some r → IsNoForm line

abbrev pub QuestionsChangeNothing : Type 0
QuestionsChangeNothing = (x : SessionNow) (line : Text) (r : HostRequest) → request line ≡ Some r → r ≢ for_guests
    → after_session_line x line ≡ x

abbrev pub RefusedStays : Type 0
RefusedStays = (b : DrivenNow) (f : HandoffFault) (line : Text) → request line ≡ Some for_guests
    → first_fault b.world b.state ≡ Some f → after_session_line (driven b) line ≡ driven b

abbrev pub PlainSessions : Type 0
PlainSessions = (b : DrivenNow) (ls : List Text) → Each (λ (line : Text). request line ≡ None) ls
    → (output session_protocol (driven b) ls ≡ output board_protocol b.state ls)
    × (after_lines session_protocol (driven b) ls ≡ driven (after_lines driven_protocol b ls))

abbrev pub DrivenIsFirmware : Type 0
DrivenIsFirmware = (b : DrivenNow) (ls : List Text)
    → ((after_lines driven_protocol b ls).world ≡ b.world)
    × ((after_lines driven_protocol b ls).state ≡ after_lines board_protocol b.state ls)

pub record IsScript (m : MachineNow) (ls : List Text) : Type 0 where
  pub output : output session_protocol (given m) ls ≡ now.output m.world ls
  pub after : after_lines session_protocol (given m) ls ≡ given (after_lines machine_protocol m ls)
  pub world : (after_lines machine_protocol m ls).world ≡ now.after_lines m.world ls

abbrev pub GivenIsScript : Type 0
GivenIsScript = (m : MachineNow) (ls : List Text) → IsScript m ls

-- ---- successful writes

abbrev pub AccessesTellWritten : Type 0
AccessesTellWritten = (b : DrivenNow) → b.state.latch ≡ 0 → (a : HostAccess)
    → (after_board_access b a).written ≡ false → after_board_access b a ≡ b

abbrev pub LinesTellWritten : Type 0
LinesTellWritten = (b : DrivenNow) → b.state.latch ≡ 0 → (line : Text)
    → (after_board_line b line).written ≡ false → after_board_line b line ≡ b

-- ---- isolation

-- a line of the session that handed this board over
pub record IsHandedOver (b : DrivenNow) (line : Text) : Type 0 where
  pub asks : request line ≡ Some for_guests
  pub can : first_fault b.world b.state ≡ None

pub record IsGivenBy (b : DrivenNow) (ls : List Text) (m : MachineNow) : Type 0 where
  pub before : List Text
  pub line : Text
  pub later : List Text
  pub board : DrivenNow
  pub in_order : ls ≡ before ++ line ∷ later
  pub left : after_lines session_protocol (driven b) before ≡ driven board
  pub handed : IsHandedOver board line
  pub now : m ≡ after_lines machine_protocol (handed_over board) later

abbrev pub GivenBy : Type 0
GivenBy = (b : DrivenNow) (ls : List Text) (m : MachineNow)
    → after_lines session_protocol (driven b) ls ≡ given m → IsGivenBy b ls m

-- its own lines and the moves that involve it decide; neither the board nor firmware's accesses are inputs
pub record IsToldAlone (w : World) (x : SessionNow) (name script : Text) : Type 0 where
  pub replies : reply_lines name (output session_protocol x (lines script))
      ≡ lone_output name (reset_guest (declarations w name)) (inputs (guests_at_first w) name (lines script))
  pub holds : (m : MachineNow) → after_lines session_protocol x (lines script) ≡ given m
      → lone_of m.world.guests name
      ≡ after_inputs (reset_guest (declarations w name)) (inputs (guests_at_first w) name (lines script))

-- whichever board of the world is handed over
abbrev pub IsolatedFrom : World → Type 0
IsolatedFrom w = (b : DrivenNow) → b.world ≡ w → (line name script : Text) → IsHandedOver b line
    → IsTrue (has_name (names w) name) → IsToldAlone w (after_session_line (driven b) line) name script

abbrev pub IsolatedSessions : Type 0
IsolatedSessions = (w : World) → HasLawfulNames w → IsolatedFrom w
