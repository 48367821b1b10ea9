-- What a guest is told by actions, and holds after them, is that of its own.
use Rattle.std.{proofs.Common.{◌≡◌, Bool, true, false, cond, List, [], ◌∷◌, Some, None, Option, refl, sym, ap, ◌∙◌, append_assoc, append-nil, arith}, specs.{Prelude.{is_some, IsSome}, Str.bytes_eq}}
use Rattle.model_registers.specs.Declarations.{Endpoint}
use Rattle.model_board.specs.AtReset.{board_at}
use Rattle.model_guests.{specs.{Text.Text, World.declared, WorldNow.WorldNow, Lone.{emptied, filled}, Inputs.{loses, gets}, Guests.{guest_named, lone_of, with_slot_emptied, with_slot_filled}, Calls.{told, moved, inputs_of_call, all_alone_told, after_own_calls}}, proofs.OneGuest.{lone_by, still}}
use Rattle.model_handoff.specs.{Giving.{give_fault, take_fault, given, taken}, Actions.{Action, calls, gives, takes, after_action, after_actions, told_by, all_told_by, inputs_of_gift, inputs_of_action, action_inputs, IsolatedByActions}}
use Rattle.model_guests.proofs.Calls as device_calls

-- ---- a guest that is there stays there

pub there_after : (w : WorldNow) (name : Text) → IsSome (guest_named w.guests name) → (a : Action) → IsSome (guest_named (after_action w a).guests name)
there_after w name there (calls c) = device_calls.there_after w name there c
there_after w name there n = grind (arith, still)

-- ---- one action

holds_after : (w : WorldNow) (name : Text) → IsSome (guest_named w.guests name) → (a : Action)
    → lone_of (after_action w a).guests name ≡ after_own_calls (lone_of w.guests name) (inputs_of_action name w a)
holds_after w name there (calls c) = device_calls.holds_after w name there c
holds_after w name there (gives g) = cases (is_some (give_fault w g)) (declared (board_at w.handoff.functions) g.path)
  where
    by : (d : Endpoint) (t : Bool) → cond t (filled g.slot d (lone_of w.guests name)) (lone_of w.guests name) ≡ after_own_calls (lone_of w.guests name) (cond t (moved (gets g.slot d) ∷ []) [])
    by d t = grind arith

    cases : (t : Bool) (o : Option Endpoint) → lone_of (cond t w (given g o w)).guests name ≡ after_own_calls (lone_of w.guests name) (cond t [] (inputs_of_gift name g o))
    cases true o = refl
    cases false None = refl
    cases false (Some d) = lone_by (with_slot_filled g.slot (Some g.path) d) (λ t. refl) (filled g.slot d) (λ t. refl) g.to name w.guests there ∙ by d (bytes_eq g.to name)
holds_after w name there (takes n k) = cases (is_some (take_fault w n k))
  where
    by : (t : Bool) → cond t (emptied k (lone_of w.guests name)) (lone_of w.guests name) ≡ after_own_calls (lone_of w.guests name) (cond t (moved (loses k) ∷ []) [])
    by t = grind arith

    cases : (t : Bool) → lone_of (cond t w (taken n k w)).guests name ≡ after_own_calls (lone_of w.guests name) (cond t [] (cond (bytes_eq n name) (moved (loses k) ∷ []) []))
    cases true = refl
    cases false = lone_by (with_slot_emptied k) (λ t. refl) (emptied k) (λ t. refl) n name w.guests there ∙ by (bytes_eq n name)

told_alone : (w : WorldNow) (name : Text) → IsSome (guest_named w.guests name) → (a : Action) → told_by name w a ≡ all_alone_told (lone_of w.guests name) (inputs_of_action name w a)
told_alone w name there (calls c) =
    sym (append-nil (told name w c)) ∙ sym (device_calls.tells w name c []) ∙ ap (all_alone_told (lone_of w.guests name)) (append-nil (inputs_of_call name w.guests c))
told_alone w name there n = grind arith

-- ---- actions

all_hold : (rest : List Action) (w : WorldNow) (name : Text) → IsSome (guest_named w.guests name) → lone_of (after_actions w rest).guests name ≡ after_own_calls (lone_of w.guests name) (action_inputs name w rest)
all_hold [] w name there = refl
all_hold (a ∷ rest) w name there = grind (arith, all_hold rest (after_action w a) name, there_after, holds_after)

all_tell : (rest : List Action) (w : WorldNow) (name : Text) → IsSome (guest_named w.guests name) → all_told_by name w rest ≡ all_alone_told (lone_of w.guests name) (action_inputs name w rest)
all_tell [] w name there = refl
all_tell (a ∷ rest) w name there = grind (arith, all_tell rest (after_action w a) name, told_alone, there_after, holds_after, append_assoc)

pub isolated_by_actions : IsolatedByActions
isolated_by_actions w name there rest = record { replies = all_tell rest w name there; holds = all_hold rest w name there }
