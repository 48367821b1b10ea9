-- By which number a line of a session is refused, if it is.
--     refusal_by s m      that of a line of firmware of this meaning
--     handover_refusal f      that of a handover, by what stands in its way
--     refusal_in x line      that of a line
use Rattle.std.specs.{Prelude.{ℕ, Option, None, Some}, Option.option_map_or}
use Rattle.model_board.specs.State.{State}
use Rattle.model_guests.specs.Text.{Text}
use Rattle.model_handoff.specs.Regions.{HandoffFault, in_disorder, closed_region, first_fault}
use Rattle.model_lines.specs.{HostAccesses.answer, FirmwareLines.{Meaning, nothing, asked, bad, meaning}, Requests.{HostRequest, for_guests, request}, Sessions.{DrivenNow, SessionNow, driven, given}}
use Rattle.script.specs.Refusals.{refusal_of}
use Rattle.script.specs.Refusals as script

abbrev pub refusal_by : State → Meaning → Option ℕ
refusal_by s nothing = None
refusal_by s (asked a) = refusal_of (answer s a)
refusal_by s (bad who n) = Some n

abbrev pub handover_refusal : Option HandoffFault → Option ℕ
handover_refusal None = None
handover_refusal (Some (in_disorder p)) = Some 207
handover_refusal (Some (closed_region q)) = Some 206

-- no question is refused
abbrev pub request_refusal : DrivenNow → HostRequest → Option ℕ
request_refusal b for_guests = handover_refusal (first_fault b.world b.state)
request_refusal b other = None

abbrev pub driven_refusal : DrivenNow → Text → Option ℕ
driven_refusal b line = option_map_or (request_refusal b) (request line) (refusal_by b.state (meaning line))

abbrev pub refusal_in : SessionNow → Text → Option ℕ
refusal_in (driven b) line = driven_refusal b line
refusal_in (given m) line = script.refusal_in m.world line
