use Rattle.std.proofs.Common.{◌≡◌, ◌||◌, Bool, ap, ◌∙◌, arith}
use Rattle.model_guests.specs.Accesses.{Reply, writes}
use Rattle.model_lines.specs.Sessions.{is_done}
use Rattle.accesses.specs.Accesses.{reply_of}
use Rattle.lines.specs.FirmwareLines.{host_asked}
use Rattle.session.proofs.Handed.{IsAsked, asked_at, none_more, one_more}
use Rattle.session.proofs.board.Board.write.Goals as goal
use Rattle.session.proofs.board.Board.write.Goals.{After-write-reply}

asked : (c : After-write-reply) (written : Bool) → written ≡ (c.self.inside.written || is_done (reply_of c.write-reply.result))
    → IsAsked c.self.inside.host c.write-reply.new.host c.self.inside.guests.items c.self.inside.written written (host_asked c.args.to (writes c.args.value))
asked c written is =
    let b = c.self.inside in
    asked_at b.host c.write-reply.new.host b.guests.items b.written written (host_asked c.args.to (writes c.args.value)) c.self.invariant c.write-reply.ensures.after
    (is ∙ ap (λ (r : Reply). b.written || is_done r) c.write-reply.ensures.reply)

pub invariant_of-self : goal.invariant_of-self
invariant_of-self c = grind (arith, asked, one_more)

pub invariant_of-self-else-matches : goal.invariant_of-self-else-matches
invariant_of-self-else-matches c = grind (arith, asked, none_more)

pub returns-then-matches-clause-after : goal.returns-then-matches-clause-after
returns-then-matches-clause-after c = grind (arith, asked, one_more)

pub returns-else-matches-clause-after : goal.returns-else-matches-clause-after
returns-else-matches-clause-after c = grind (arith, asked, none_more)
