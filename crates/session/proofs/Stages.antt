-- Where a session hands its board over, and where it doesn't.
--     handed_over_as      the session that a machine makes, which guests have
--     IsAnswered, answered      what the line of a handover that is done writes and leaves
--     told_refusal      the number by which one is refused
use Rattle.std.{proofs.Common.{◌≡◌, false, true, None, sym, ap, ◌∙◌, map, arith}, specs.{Prelude.{IfSome, IsSome, Some}, Option.option_map_or}}
use Rattle.model_guests.specs.{Text.Text, Guests.GuestNow, WorldNow.WorldNow}
use Rattle.model_handoff.{specs.{Changes.{MachineNow, BeginsIn}, Regions.first_fault}, proofs.Served.fault_decides}
use Rattle.model_lines.{specs.{GivenLaws.IsGiven, Requests.{for_guests, request}, Sessions.{DrivenNow, SessionNow, driven, given, handover_output, told_output, after_session_line, session_output}, FirmwareLines.{line_output, meaning}}, proofs.SessionLines.handover_leaves}
use Rattle.monitor.specs.{declared.handover.fault.HandoverFault.{HandoverFault, TheVariants.{NotInOrder, Closed, Memory}}, Handovers.{number_of, handoff_fault}}
use Rattle.session.specs.{Boards.{IsHandedOverAs, IsRefusalOf}, Refusals.{handover_refusal, refusal_by, refusal_in, request_refusal}, Stages.{board_in, IsDriven}}

machine_is : (m : MachineNow) (w : WorldNow) → m.world ≡ w → m.counts ≡ map (λ (g : GuestNow). 0) m.world.guests
    → m ≡ record { world = w; counts = map (λ (g : GuestNow). 0) w.guests }
machine_is m w is counts = grind arith

pub handed_over_as : (b : DrivenNow) (m : MachineNow) → BeginsIn (IsGiven b.world b.state) m → IsHandedOverAs b (given m)
handed_over_as b m begins = grind (arith, machine_is)

-- ---- the line

pub record IsAnswered (x new : SessionNow) (line : Text) : Type 0 where
  pub writes : handover_output None ≡ session_output x line
  pub leaves : new ≡ after_session_line x line
  pub refused : None ≡ refusal_in x line

handover_writes : (b : DrivenNow) (line : Text) → request line ≡ Some for_guests → session_output (driven b) line ≡ handover_output (first_fault b.world b.state)
handover_writes b line same = ap (λ o. option_map_or (told_output b) o (line_output b.state line)) same

handover_refuses : (b : DrivenNow) (line : Text) → request line ≡ Some for_guests → refusal_in (driven b) line ≡ handover_refusal (first_fault b.world b.state)
handover_refuses b line same = ap (λ o. option_map_or (request_refusal b) o (refusal_by b.state (meaning line))) same

pub answered : (x new : SessionNow) → IsDriven x → IfSome (board_in x) (λ b. IsHandedOverAs b new) → (line : Text) → request line ≡ Some for_guests → IsAnswered x new line
answered (driven b) new is handed line asks = grind (arith, fault_decides, handover_writes, handover_leaves, handover_refuses)
answered (given m) new is handed line asks = absurd (let wrong : false ≡ true = is in cc)

pub told_refusal : (x : SessionNow) (f : HandoverFault) → IsDriven x → IsSome (handoff_fault f) → IfSome (board_in x) (λ b. IsRefusalOf b f) → (line : Text) → request line ≡ Some for_guests
    → Some (number_of f) ≡ refusal_in x line
told_refusal (driven b) (NotInOrder p) is told first line asks = sym (handover_refuses b line asks ∙ ap handover_refusal first)
told_refusal (driven b) (Closed r) is told first line asks = sym (handover_refuses b line asks ∙ ap handover_refusal first)
told_refusal (driven b) Memory is told first line asks = absurd (let wrong : false ≡ true = told in cc)
told_refusal (given m) f is told first line asks = absurd (let wrong : false ≡ true = is in cc)
