use Rattle.session.proofs.Refusals.{refusal_written}
use Rattle.session.proofs.telling.handover_refusal_text.Goals as goal

pub returns-clause-text : goal.returns-clause-text
returns-clause-text c =
    refusal_written c.args.fault.now _ _ _ c.new-text.ensures.bytes c.in_ok-push_refusal_cause.ensures.told c.in_ok-push_refusal_cause.ensures.line c.in_ok-push_refusal_line.ensures
