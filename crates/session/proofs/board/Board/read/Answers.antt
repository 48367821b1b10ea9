use Rattle.std.proofs.Common.{arith}
use Rattle.model_guests.specs.Accesses.{reads}
use Rattle.accesses.specs.Accesses.{host_target_of}
use Rattle.lines.specs.FirmwareLines.{host_asked}
use Rattle.session.proofs.Handed.{asked_at, read_writes_none}
use Rattle.session.proofs.board.Board.read.Goals as goal

pub invariant_of-self : goal.invariant_of-self
invariant_of-self c =
    let b = c.self.inside in
    (asked_at b.host c.read.new.host b.guests.items b.written b.written (host_asked c.args.from reads) c.self.invariant c.read.ensures.after
    (read_writes_none b.written b.host.state c.args.from.width (host_target_of c.args.from.at))).board

pub returns-clause-after : goal.returns-clause-after
returns-clause-after c = grind (arith, asked_at, read_writes_none)
