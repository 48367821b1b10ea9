-- Where a session hands its board over, and what guests are told then.
use Rattle.std.proofs.Common.{◌≡◌, List, [], ◌∷◌, Option, None, Some, refl, sym, ap, ◌∙◌, arith}
use Rattle.model_guests.{specs.{Text.{Text, lines}, LineRuns.after_lines}, proofs.Isolation.isolated_over}
use Rattle.model_handoff.specs.{Handoffs.taken_over, Regions.{HandoffFault, first_fault}, Changes.{MachineNow, machine_protocol}}
use Rattle.model_lines.{specs.{Requests.{HostRequest, for_guests, request}, Sessions.{DrivenNow, SessionNow, driven, given, after_handover, handed_over, after_board_line, after_session_line, session_protocol}, SessionLaws.{IsHandedOver, IsGivenBy, GivenBy, IsolatedSessions}}, proofs.SessionLines.{questions_change_nothing, handover_leaves, unasked_after, given_is_script}}

same_given : (m n : MachineNow) → given m ≡ given n → m ≡ n
same_given m n is = cc

-- what one line leaves of a board that firmware drives
pub data Left (b : DrivenNow) (line : Text) : Type 0 where
  goes_on : (next : DrivenNow) → after_session_line (driven b) line ≡ driven next → Left b line
  hands_over : IsHandedOver b line → after_session_line (driven b) line ≡ given (handed_over b) → Left b line

left_by_fault : (b : DrivenNow) (line : Text) → request line ≡ Some for_guests → (f : Option HandoffFault) → first_fault b.world b.state ≡ f → Left b line
left_by_fault b line asks None can = grind (arith, handover_leaves b line asks)
left_by_fault b line asks (Some f) fault = goes_on b (handover_leaves b line asks ∙ ap (after_handover b) fault)

left_by : (b : DrivenNow) (line : Text) (o : Option HostRequest) → request line ≡ o → Left b line
left_by b line None none = goes_on (after_board_line b line) (unasked_after b line none)
left_by b line (Some for_guests) is = left_by_fault b line is (first_fault b.world b.state) refl
left_by b line (Some r) is = goes_on b (questions_change_nothing (driven b) line r is (λ same. cc))

left : (b : DrivenNow) (line : Text) → Left b line
left b line = left_by b line (request line) refl

given_by_left : (b : DrivenNow) (l : Text) (ls : List Text) (m : MachineNow) → Left b l
    → ((next : DrivenNow) → after_lines session_protocol (driven next) ls ≡ given m → IsGivenBy next ls m)
    → after_lines session_protocol (driven b) (l ∷ ls) ≡ given m → IsGivenBy b (l ∷ ls) m
given_by_left b l ls m (goes_on next same) more is =
    let rest = more next (sym (ap (λ (x : SessionNow). after_lines session_protocol x ls) same) ∙ is) in
    record {
      before = l ∷ rest.before;
      line = rest.line;
      later = rest.later;
      board = rest.board;
      in_order = ap (λ (ms : List Text). l ∷ ms) rest.in_order;
      left = ap (λ (x : SessionNow). after_lines session_protocol x rest.before) same ∙ rest.left;
      handed = rest.handed;
      now = rest.now;
    }
given_by_left b l ls m (hands_over handed same) more is = record {
  before = [];
  line = l;
  later = ls;
  board = b;
  in_order = refl;
  left = refl;
  handed = handed;
  now = same_given m (after_lines machine_protocol (handed_over b) ls)
      (sym is ∙ ap (λ (x : SessionNow). after_lines session_protocol x ls) same ∙ (given_is_script (handed_over b) ls).after);
}

pub given_by : GivenBy
given_by b [] m is = absurd (let wrong : driven b ≡ given m = is in cc)
given_by b (l ∷ ls) m is = given_by_left b l ls m (left b l) (λ next. given_by next ls m) is

pub isolated_sessions : IsolatedSessions
isolated_sessions w lawful b same_world line name script handed there =
    grind (arith, same_given, handover_leaves b line handed.asks, isolated_over w lawful (taken_over w b.state) name script there, given_is_script (handed_over b) (lines script))
