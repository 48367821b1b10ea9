-- Isolation along any sequence of calls, assignments and unassignments. A guest's replies and state depend only on its own
-- functions, its own events, the events at its devices, and the moves, assignments and unassignments that involve it.
--     Action      a call, or assigning or unassigning a function
--     after_action, after_actions      the world after one action, and after several
--     told_by, all_told_by      the replies to a guest
--     inputs_of_action, action_inputs      the parts of an action that concern a guest, as inputs of calls
--     IsolatedByActions      these inputs decide the guest's replies and state
use Rattle.std.specs.{Prelude.{ℕ, ◌≡◌, List, [], ◌∷◌, ◌++◌, if◌then◌else◌, is_some, Option, Some, None, IsSome}, Str.bytes_eq}
use Rattle.model_registers.specs.Declarations.{Endpoint}
use Rattle.model_board.specs.AtReset.{board_at}
use Rattle.model_guests.specs.{Accesses.Reply, Text.Text, World.declared, Guests.{guest_named, lone_of}, WorldNow.WorldNow, Inputs.{loses, gets}, Calls.{Call, after_call, told, CallInput, moved, inputs_of_call, all_alone_told, after_own_calls}}
use Rattle.model_handoff.specs.Giving.{Gift, give_fault, take_fault, after_give, after_take}

pub data Action : Type 0 where
  calls : Call → Action
  gives : Gift → Action
  takes : Text → ℕ → Action

abbrev pub after_action : WorldNow → Action → WorldNow
after_action w (calls c) = after_call w c
after_action w (gives g) = after_give w g
after_action w (takes n k) = after_take w n k

abbrev pub after_actions : WorldNow → List Action → WorldNow
after_actions w [] = w
after_actions w (a ∷ more) = after_actions (after_action w a) more

-- the host gets the reply to assigning and unassigning, as to a move
abbrev pub told_by : Text → WorldNow → Action → List Reply
told_by name w (calls c) = told name w c
told_by name w (gives g) = []
told_by name w (takes n k) = []

abbrev pub all_told_by : Text → WorldNow → List Action → List Reply
all_told_by name w [] = []
all_told_by name w (a ∷ more) = told_by name w a ++ all_told_by name (after_action w a) more

-- ---- the guest's inputs

abbrev pub inputs_of_gift : Text → Gift → Option Endpoint → List CallInput
inputs_of_gift name g None = []
inputs_of_gift name g (Some d) = if bytes_eq g.to name then moved (gets g.slot d) ∷ [] else []

-- a refused assignment or unassignment involves no guest
abbrev pub inputs_of_action : Text → WorldNow → Action → List CallInput
inputs_of_action name w (calls c) = inputs_of_call name w.guests c
inputs_of_action name w (gives g) =
    if is_some (give_fault w g) then [] else inputs_of_gift name g (declared (board_at w.handoff.functions) g.path)
inputs_of_action name w (takes n k) =
    if is_some (take_fault w n k) then [] else (if bytes_eq n name then moved (loses k) ∷ [] else [])

abbrev pub action_inputs : Text → WorldNow → List Action → List CallInput
action_inputs name w [] = []
action_inputs name w (a ∷ more) = inputs_of_action name w a ++ action_inputs name (after_action w a) more

pub record AreDecidedBy (is : List CallInput) (w : WorldNow) (name : Text) (actions : List Action) : Type 0 where
  pub replies : all_told_by name w actions ≡ all_alone_told (lone_of w.guests name) is
  pub holds : lone_of (after_actions w actions).guests name ≡ after_own_calls (lone_of w.guests name) is

-- in any state of a world
abbrev pub IsolatedByActions : Type 0
IsolatedByActions = (w : WorldNow) (name : Text) → IsSome (guest_named w.guests name) → (actions : List Action)
    → AreDecidedBy (action_inputs name w actions) w name actions
