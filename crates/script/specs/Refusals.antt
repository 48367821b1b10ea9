-- The number with which a line of a script is refused, if it is refused.
--     refusal_of r      that of a reply
--     reply_to w m      what a line of this meaning is replied, if it makes output
--     refusal_in w line, refusal_on_machine m line      that of a line
use Rattle.std.specs.Prelude.{ℕ, Option, None, Some, option_and_then}
use Rattle.model_guests.specs.{Accesses.{Reply, answered, done, refused}, Text.Text, Lone.answer, Guests.lone_of, Lines.{Meaning, nothing, guest_event, host_read, host_move, bad, meaning}, WorldNow.{WorldNow, names_now, host_reply, move_reply}}
use Rattle.model_handoff.specs.Changes.{MachineNow}

abbrev pub refusal_of : Reply → Option ℕ
refusal_of (answered v w) = None
refusal_of done = None
refusal_of (refused n) = Some n

abbrev pub reply_to : WorldNow → Meaning → Option Reply
reply_to w nothing = None
reply_to w (guest_event name e) = Some (answer (lone_of w.guests name) e)
reply_to w (host_read r) = Some (host_reply w r)
reply_to w (host_move m) = Some (move_reply w.guests m)
reply_to w (bad who n) = Some (refused n)

abbrev pub refusal_in : WorldNow → Text → Option ℕ
refusal_in w line = option_and_then refusal_of (reply_to w (meaning (names_now w) line))

abbrev pub refusal_on_machine : MachineNow → Text → Option ℕ
refusal_on_machine m line = refusal_in m.world line
