-- Isolation: a guest's replies and state depend only on its own functions, its own lines and the moves that
-- involve it.
--     IsDecidedBy      a guest's replies and state are those that its inputs give on its own functions
--     Isolated      over any handoff, each guest's own inputs decide its replies and state
--     AgreeOn, TwoWorlds      worlds and scripts that agree on a guest's functions and inputs give it the same reply lines
--     HasNoMove, OwnLinesAlone      in a script without moves the inputs are the own lines
--     IsolatedByOwnLines, TwoWorldsByOwnLines      so there the guest's own lines alone decide
use Rattle.std.specs.Prelude.{List, ◌≡◌, Bool, true, false, map, IsTrue, IsFalse}
use Rattle.lists.specs.Elements.{Each}
use Rattle.model_board.specs.State.{State}
use Rattle.model_guests.specs.{Text.{Text, lines}, Grammar.{has_name, own_lines}, World.{World, names, declarations, HasLawfulNames}, Replies.reply_lines, Lone.reset_guest, Guests.{guests_at_first, lone_of}, Lines.{Meaning, nothing, guest_event, host_read, host_move, bad, meaning}, WorldNow.{WorldNow, world_over, output, after_lines}, Inputs.{Input, own_line, inputs, lone_output, after_inputs}}

-- over its own functions in a world of no one else; the board isn't among them
pub record IsDecidedBy (is : List Input) (w : World) (m : WorldNow) (name script : Text) : Type 0 where
  pub replies : reply_lines name (output m (lines script)) ≡ lone_output name (reset_guest (declarations w name)) is
  pub holds : lone_of (after_lines m (lines script)).guests name ≡ after_inputs (reset_guest (declarations w name)) is

abbrev pub Isolated : Type 0
Isolated = (w : World) → HasLawfulNames w → (s : State) (name script : Text) → IsTrue (has_name (names w) name)
    → IsDecidedBy (inputs (guests_at_first w) name (lines script)) w (world_over w s) name script

-- two worlds and two scripts agree on a guest: it is in both, with equal declarations slot by slot and equal inputs
pub record AgreeOn (name : Text) (v w : World) (s t : Text) : Type 0 where
  pub in_first : IsTrue (has_name (names v) name)
  pub in_second : IsTrue (has_name (names w) name)
  pub declarations : declarations v name ≡ declarations w name
  pub inputs : inputs (guests_at_first v) name (lines s) ≡ inputs (guests_at_first w) name (lines t)

-- whatever firmware handed over
abbrev pub TwoWorlds : Type 0
TwoWorlds = (name : Text) (v w : World) (one other : Text) → HasLawfulNames v → HasLawfulNames w
    → AgreeOn name v w one other → (s t : State)
    → reply_lines name (output (world_over v s) (lines one)) ≡ reply_lines name (output (world_over w t) (lines other))

-- ---- scripts without moves

abbrev pub is_move : Meaning → Bool
is_move nothing = false
is_move (guest_event name e) = false
is_move (host_read r) = false
is_move (host_move m) = true
is_move (bad who n) = false

abbrev pub HasNoMove : World → Text → Type 0
HasNoMove w script = Each (λ line. IsFalse (is_move (meaning (names w) line))) (lines script)

abbrev pub OwnLinesAlone : Type 0
OwnLinesAlone = (w : World) (name script : Text) → HasNoMove w script
    → inputs (guests_at_first w) name (lines script) ≡ map own_line (own_lines name (lines script))

abbrev pub IsolatedByOwnLines : Type 0
IsolatedByOwnLines = (w : World) → HasLawfulNames w → (s : State) (name script : Text)
    → IsTrue (has_name (names w) name) → HasNoMove w script
    → IsDecidedBy (map own_line (own_lines name (lines script))) w (world_over w s) name script

-- the same for two scripts in which the guest's own lines are equal
pub record AgreeOnOwnLines (name : Text) (v w : World) (s t : Text) : Type 0 where
  pub in_first : IsTrue (has_name (names v) name)
  pub in_second : IsTrue (has_name (names w) name)
  pub declarations : declarations v name ≡ declarations w name
  pub lines : own_lines name (lines s) ≡ own_lines name (lines t)

abbrev pub TwoWorldsByOwnLines : Type 0
TwoWorldsByOwnLines = (name : Text) (v w : World) (one other : Text) → HasLawfulNames v → HasLawfulNames w
    → HasNoMove v one → HasNoMove w other → AgreeOnOwnLines name v w one other → (s t : State)
    → reply_lines name (output (world_over v s) (lines one)) ≡ reply_lines name (output (world_over w t) (lines other))
