use Rattle.std.proofs.Common.{◌∙◌, arith}
use Rattle.session.{specs.Stages.session_now, proofs.Stages.{answered, told_refusal}}
use Rattle.session.proofs.stage.answer_handover.Goals as goal

pub returns-in-Ok-clause-text : goal.returns-in-Ok-clause-text
returns-in-Ok-clause-text c = λ line asks.
    rw c.one_line_at_most.ensures (c.write_named_reply_line.ensures
    ∙ (answered (session_now c.args.stage.now) (session_now c.hand_over.new.stage) c.requires.driven c.in-Ok.ensures.given line asks).writes)

pub returns-in-Ok-clause-after : goal.returns-in-Ok-clause-after
returns-in-Ok-clause-after c = λ line asks.
    (answered (session_now c.args.stage.now) (session_now c.hand_over.new.stage) c.requires.driven c.in-Ok.ensures.given line asks).leaves

pub returns-in-Ok-clause-refused : goal.returns-in-Ok-clause-refused
returns-in-Ok-clause-refused c = λ line asks.
    rw c.one_line_at_most.ensures (answered (session_now c.args.stage.now) (session_now c.hand_over.new.stage) c.requires.driven c.in-Ok.ensures.given line asks).refused

pub returns-in_ok-told-in-Err-clause-refused : goal.returns-in_ok-told-in-Err-clause-refused
returns-in_ok-told-in-Err-clause-refused c = grind (arith, told_refusal)
