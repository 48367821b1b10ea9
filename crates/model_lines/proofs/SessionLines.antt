-- What sessions write and leave.
use Rattle.std.{proofs.Common.{◌≡◌, ℕ, ◌++◌, false, List, [], ◌∷◌, None, Some, refl, ap, ◌∙◌, arith}, specs.Option.option_map_or}
use Rattle.model_guests.specs.{Text.Text, LineRuns.{output, after_lines}, WorldNow.names_now}
use Rattle.model_lines.{specs.{FirmwareLines.{Meaning, meaning, after_meaning}, Requests.{HostRequest, for_guests, request}, Sessions.{DrivenNow, driven, given, after_handover, after_request, after_meant, after_board_line, after_session_line, session_protocol}, SessionLaws.{IsNoForm, QuestionsChangeNothing, RefusedStays, PlainSessions, DrivenIsFirmware, GivenIsScript}}, proofs.Requests.requests_are_no_form}
use Rattle.model_handoff.{specs.{Regions.first_fault, Changes.{MachineNow, after_line_on_machine, counts_where, machine_protocol}}, proofs.Aside.{output_aside, after_aside}}
use Rattle.model_lines.specs.FirmwareLines as firmware

-- ---- what changes nothing

unchanged : (names : List Text) (ns : List ℕ) → counts_where (λ n. false) names ns ≡ ns
unchanged [] ns = refl
unchanged (t ∷ ts) ns = grind (arith, unchanged ts)

bad_stays : (m : MachineNow) (line : Text) → IsNoForm line → after_line_on_machine m line ≡ m
bad_stays m line none = grind (arith, unchanged (names_now m.world) m.counts)

asked_after : (b : DrivenNow) (line : Text) (r : HostRequest) → request line ≡ Some r → after_session_line (driven b) line ≡ after_request b r
asked_after b line r same = ap (λ o. option_map_or (after_request b) o (driven (after_board_line b line))) same

pub questions_change_nothing : QuestionsChangeNothing
questions_change_nothing (driven b) line r same is = grind (arith, asked_after b line r same)
questions_change_nothing (given m) line r same is = ap given (bad_stays m line (requests_are_no_form line r same))

pub handover_leaves : (b : DrivenNow) (line : Text) → request line ≡ Some for_guests → after_session_line (driven b) line ≡ after_handover b (first_fault b.world b.state)
handover_leaves b line same = asked_after b line for_guests same

pub refused_stays : RefusedStays
refused_stays b f line is fault = handover_leaves b line is ∙ ap (after_handover b) fault

-- ---- firmware's lines, and guests' lines

pub unasked_after : (b : DrivenNow) (line : Text) → request line ≡ None → after_session_line (driven b) line ≡ driven (after_board_line b line)
unasked_after b line none = ap (λ o. option_map_or (after_request b) o (driven (after_board_line b line))) none

meant_state : (b : DrivenNow) (m : Meaning) → (after_meant b m).state ≡ after_meaning b.state m
meant_state b m = grind arith

meant_world : (b : DrivenNow) (m : Meaning) → (after_meant b m).world ≡ b.world
meant_world b m = grind arith

pub line_state : (b : DrivenNow) (line : Text) → (after_board_line b line).state ≡ firmware.after_line b.state line
line_state b line = meant_state b (meaning line)

pub plain_session_acts_as_firmware : PlainSessions
plain_session_acts_as_firmware b [] none = (refl, refl)
plain_session_acts_as_firmware b (l ∷ ls) none = grind (arith, plain_session_acts_as_firmware (after_board_line b l) ls none.1, unasked_after b l none.0, line_state b l)

pub driven_is_firmware : DrivenIsFirmware
driven_is_firmware b [] = (refl, refl)
driven_is_firmware b (l ∷ ls) = grind (arith, driven_is_firmware (after_board_line b l) ls, meant_world, line_state b l)

given_after : (m : MachineNow) (ls : List Text) → after_lines session_protocol (given m) ls ≡ given (after_lines machine_protocol m ls)
given_after m [] = refl
given_after m (l ∷ ls) = given_after (after_line_on_machine m l) ls

given_output : (m : MachineNow) (ls : List Text) → output session_protocol (given m) ls ≡ output machine_protocol m ls
given_output m [] = refl
given_output m (l ∷ ls) = ap (λ (t : Text). machine_protocol.writes m l ++ t) (given_output (after_line_on_machine m l) ls)

pub given_is_script : GivenIsScript
given_is_script m ls = grind (arith, given_output m ls, output_aside m ls, given_after m ls, after_aside m ls)
