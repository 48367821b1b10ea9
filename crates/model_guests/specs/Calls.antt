-- Calls: lines and events at devices. A guest's inputs from a call decide its reply to the call and its state afterwards:
-- the guest's own events, the events at its devices and the moves that involve it.
--     Call      the meaning of a line, or an event at the device of a guest's function
--     after_call      the world after the call
--     told      the reply to a guest
--     CallInput, inputs_of_call      the parts of a call that concern a guest
--     alone_told, after_own_call      the effect of such an input on the guest alone
--     all_alone_told, after_own_calls      the effects of several such inputs, one after the other
use Rattle.std.specs.{Prelude.{List, [], ◌∷◌, ◌++◌, ℕ, if◌then◌else◌, map}, Str.bytes_eq}
use Rattle.model_guests.specs.{Accesses.{Event, Reply, refused}, Text.Text, Grammar.{guest, host, nobody}, Lone.{LoneGuest, answer, after_event}, Guests.{GuestsNow, lone_of}, Lines.{Meaning, nothing, guest_event, host_read, host_move, bad}, WorldNow.{WorldNow, after_meaning}, Inputs.{Input, inputs_of_meaning, after_input}, DeviceEvents.{DeviceEvent, device_answer, after_device_event, after_device}}

pub data Call : Type 0 where
  asks : Meaning → Call
  at_device : Text → DeviceEvent → Call

abbrev pub after_call : WorldNow → Call → WorldNow
after_call w (asks m) = after_meaning w m
after_call w (at_device n e) = after_device w n e

-- a reply goes to the guest whose event it answers
abbrev pub told : Text → WorldNow → Call → List Reply
told name w (asks nothing) = []
told name w (asks (guest_event n e)) = if bytes_eq n name then answer (lone_of w.guests n) e ∷ [] else []
told name w (asks (host_read r)) = []
told name w (asks (host_move m)) = []
told name w (asks (bad (guest n) k)) = if bytes_eq n name then refused k ∷ [] else []
told name w (asks (bad host k)) = []
told name w (asks (bad nobody k)) = []
told name w (at_device n e) = if bytes_eq n name then device_answer (lone_of w.guests n) e ∷ [] else []

-- ---- the guest's inputs

pub data CallInput : Type 0 where
  own_event : Event → CallInput
  own_bad : ℕ → CallInput
  own_device : DeviceEvent → CallInput
  moved : Input → CallInput

abbrev pub inputs_of_call : Text → GuestsNow → Call → List CallInput
inputs_of_call name gs (asks nothing) = []
inputs_of_call name gs (asks (guest_event n e)) = if bytes_eq n name then own_event e ∷ [] else []
inputs_of_call name gs (asks (host_read r)) = []
inputs_of_call name gs (asks (host_move m)) = map moved (inputs_of_meaning name gs (host_move m))
inputs_of_call name gs (asks (bad (guest n) k)) = if bytes_eq n name then own_bad k ∷ [] else []
inputs_of_call name gs (asks (bad host k)) = []
inputs_of_call name gs (asks (bad nobody k)) = []
inputs_of_call name gs (at_device n e) = if bytes_eq n name then own_device e ∷ [] else []

-- ---- for the guest alone

abbrev pub alone_told : LoneGuest → CallInput → List Reply
alone_told g (own_event e) = answer g e ∷ []
alone_told g (own_bad k) = refused k ∷ []
alone_told g (own_device e) = device_answer g e ∷ []
alone_told g (moved i) = []

abbrev pub after_own_call : LoneGuest → CallInput → LoneGuest
after_own_call g (own_event e) = after_event g e
after_own_call g (own_bad k) = g
after_own_call g (own_device e) = after_device_event g e
after_own_call g (moved i) = after_input g i

abbrev pub all_alone_told : LoneGuest → List CallInput → List Reply
all_alone_told g [] = []
all_alone_told g (i ∷ is) = alone_told g i ++ all_alone_told (after_own_call g i) is

abbrev pub after_own_calls : LoneGuest → List CallInput → LoneGuest
after_own_calls g [] = g
after_own_calls g (i ∷ is) = after_own_calls (after_own_call g i) is
