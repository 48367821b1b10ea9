-- The inputs that decide a guest's replies: its own lines, and the moves that involve it.
--     Input, inputs gs name lines      an own line, or a successful move out of or into a slot; the inputs among some lines, in order
--     lone_event, lone_reply      the event of an own line, and the reply to it
--     after_input, lone_output, after_inputs      the output of inputs and the state after them, for the guest alone
use Rattle.std.specs.{Prelude.{List, [], ◌∷◌, ℕ, if◌then◌else◌, ◌++◌, Option, Some, None, is_some, drop}, Str.bytes_eq}
use Rattle.model_registers.specs.{Declarations.Endpoint, Decoding.Function}
use Rattle.model_guests.specs.{Accesses.{Event, Reply, refused}, Text.{Text, words}, Grammar.{event_of, guest, is_own_line}, Replies.line_text, Lone.{LoneGuest, answer, after_event, filled, emptied}, Guests.{GuestsNow, Move, move_fault, function_in}, Lines.{Meaning, nothing, guest_event, host_read, host_move, bad, meaning}, WorldNow.{names_of, guests_after}}

-- a slot loses its function, or gets one
pub data Input : Type 0 where
  own_line : Text → Input
  loses : ℕ → Input
  gets : ℕ → Endpoint → Input

abbrev pub inputs_of_move : Text → Move → Option Function → List Input
inputs_of_move name m None = []
inputs_of_move name m (Some f) =
    (if bytes_eq m.from name then loses m.slot ∷ [] else [])
    ++ (if bytes_eq m.to name then gets m.target f.decl ∷ [] else [])

-- a refused move involves no guest
abbrev pub inputs_of_meaning : Text → GuestsNow → Meaning → List Input
inputs_of_meaning name gs nothing = []
inputs_of_meaning name gs (guest_event n e) = []
inputs_of_meaning name gs (host_read r) = []
inputs_of_meaning name gs (host_move m) =
    if is_some (move_fault gs m) then [] else inputs_of_move name m (function_in gs m.from m.slot)
inputs_of_meaning name gs (bad who n) = []

abbrev pub inputs_of_line : GuestsNow → Text → Text → List Input
inputs_of_line gs name line =
    if is_own_line name line then own_line line ∷ [] else inputs_of_meaning name gs (meaning (names_of gs) line)

-- neither the handoff nor the host's reads are inputs
abbrev pub inputs : GuestsNow → Text → List Text → List Input
inputs gs name [] = []
inputs gs name (line ∷ more) =
    inputs_of_line gs name line ++ inputs (guests_after gs (meaning (names_of gs) line)) name more

-- ---- for the guest alone

abbrev pub lone_event : Text → Option Event
lone_event line = event_of (drop 1 (words line))

-- an own line that isn't an event is a bad line
abbrev pub lone_reply : LoneGuest → Option Event → Reply
lone_reply g None = refused 401
lone_reply g (Some e) = answer g e

abbrev pub after_own : LoneGuest → Option Event → LoneGuest
after_own g None = g
after_own g (Some e) = after_event g e

abbrev pub after_input : LoneGuest → Input → LoneGuest
after_input g (own_line line) = after_own g (lone_event line)
after_input g (loses n) = emptied n g
after_input g (gets n d) = filled n d g

abbrev pub written_alone : Text → LoneGuest → Input → List Text
written_alone name g (own_line line) = line_text (guest name) (lone_reply g (lone_event line)) ∷ []
written_alone name g (loses n) = []
written_alone name g (gets n d) = []

abbrev pub lone_output : Text → LoneGuest → List Input → List Text
lone_output name g [] = []
lone_output name g (i ∷ is) = written_alone name g i ++ lone_output name (after_input g i) is

abbrev pub after_inputs : LoneGuest → List Input → LoneGuest
after_inputs g [] = g
after_inputs g (i ∷ is) = after_inputs (after_input g i) is
