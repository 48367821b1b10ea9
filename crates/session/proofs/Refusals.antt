-- What is written of a board that isn't handed over: what stands in the way, and the refusal.
--     refusal      the line of a refusal, with its LF
--     refusal_written      the two lines are those of the definitions
use Rattle.std.{proofs.Common.{◌≡◌, true, false, [], ◌++◌, append-nil, arith}, specs.Prelude.{IfSome, IsSome}}
use Rattle.model_guests.specs.Text.{Text, ended}
use Rattle.model_lines.specs.Sessions.{refused_line, handover_output}
use Rattle.monitor.specs.{declared.handover.fault.HandoverFault.{HandoverFault, TheVariants.{NotInOrder, Closed, Memory}}, Handovers.{number_of, words_of, handoff_fault}}
use Rattle.session.specs.Tellings.{cause_text}

abbrev refusal : HandoverFault → Text
refusal f = ended (refused_line (number_of f) (words_of f))

after_cause : (cause start first text : Text) (f : HandoverFault) → start ≡ [] → first ≡ start ++ cause → text ≡ first ++ refusal f
    → text ≡ cause ++ (refusal f ++ [])
after_cause cause start first text f none begins ends = grind (arith, append-nil)

pub refusal_written : (f : HandoverFault) (start first text : Text) → start ≡ [] → IsSome (handoff_fault f)
    → IfSome (handoff_fault f) (λ told. first ≡ start ++ ended (cause_text told)) → text ≡ first ++ refusal f
    → text ≡ handover_output (handoff_fault f)
refusal_written (NotInOrder p) start first text none told begins ends = after_cause _ start first text (NotInOrder p) none begins ends
refusal_written (Closed r) start first text none told begins ends = after_cause _ start first text (Closed r) none begins ends
refusal_written Memory start first text none told begins ends = absurd (let wrong : false ≡ true = told in cc)
