-- Guests on a board that firmware handed over, whoever set it up.
--     IsGiven w s m      the guests of a world before any line, over the handed-over board
--     AreAlike name m n one other      a guest gets the same replies on two boards, each with its own script, and has
--         the same state
--     GivenIsolated      each guest's own inputs and functions decide its replies and its state
--     GivenAlike      a guest gets the same replies and has the same state on two boards with scripts that agree on it
--     GivenAsSetUp      each script gives each guest the same replies and state as after our own set-up
--     GivenStays      along any lines the board stays consistent, with each region of an assigned function enabled
--     OrderlyStays      an audit of such a board finds no problem
use Rattle.std.specs.Prelude.{◌≡◌, List, [], IsTrue}
use Rattle.model_board.specs.{AtReset.board_at, State.State}
use Rattle.model_guests.specs.{Text.{Text, lines}, Grammar.has_name, World.{World, names, IsLawfulWorld}, Replies.reply_lines, Guests.{guests_at_first, lone_of}, WorldNow.{WorldNow, world_over, board_state, output, after_lines}, Inputs.inputs, Isolation.{IsDecidedBy, AgreeOn}}
use Rattle.model_handoff.specs.{AfterSetUp.world_at_first, Handoffs.{IsHandoff, taken_over}, Kept.IsLawfulOver, Regions.CanBeGiven}
use Rattle.model_findings.specs.Problems.{problems}

-- each assigned function is at reset, except for the bytes that guests have copies of, and CONFIG_ADDRESS is 0
pub record IsGiven (w : World) (s : State) (m : WorldNow) : Type 0 where
  pub lawful : IsLawfulWorld w
  pub board : board_at s.functions ≡ w.board
  pub handoff : IsHandoff s
  pub can : CanBeGiven w s
  pub begins : m ≡ world_over w (taken_over w s)

-- for every handed-over board
abbrev pub OfGiven : (WorldNow → World → Type 0) → Type 0
OfGiven P = (w : World) (s : State) (m : WorldNow) → IsGiven w s m → P m w

abbrev pub GivenIsolated : Type 0
GivenIsolated = OfGiven (λ m w. (name script : Text) → IsTrue (has_name (names w) name)
    → IsDecidedBy (inputs (guests_at_first w) name (lines script)) w m name script)

pub record AreAlike (name : Text) (m n : WorldNow) (one other : Text) : Type 0 where
  pub replies : reply_lines name (output m (lines one)) ≡ reply_lines name (output n (lines other))
  pub holds : lone_of (after_lines m (lines one)).guests name ≡ lone_of (after_lines n (lines other)).guests name

abbrev pub GivenAlike : Type 0
GivenAlike = OfGiven (λ m v. OfGiven (λ n w. (name one other : Text) → AgreeOn name v w one other
    → AreAlike name m n one other))

abbrev pub GivenAsSetUp : Type 0
GivenAsSetUp = OfGiven (λ m w. (name script : Text) → IsTrue (has_name (names w) name)
    → AreAlike name m (world_at_first w) script script)

abbrev pub GivenStays : Type 0
GivenStays = OfGiven (λ m w. (ls : List Text) → IsLawfulOver (after_lines m ls))

abbrev pub OrderlyStays : Type 0
OrderlyStays = (m : WorldNow) → IsLawfulOver m → problems (board_state m).functions ≡ []
