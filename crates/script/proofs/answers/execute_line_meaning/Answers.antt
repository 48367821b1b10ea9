use Rattle.std.proofs.Common.{refl, arith}
use Rattle.model_guests.specs.{Accesses.{access, raises}, Grammar.{guest, host}, Lines.nothing, WorldNow.names_now}
use Rattle.accesses.specs.Accesses.{access_of, part_of, reply_of}
use Rattle.lines.specs.Lines.{name_of, meaning_of}
use Rattle.script.proofs.LineAnswers.{IsAnswered, answered, moved, nothing_done}
use Rattle.script.proofs.answers.execute_line_meaning.Goals as goal
use Rattle.script.proofs.answers.execute_line_meaning.Goals.{After-move_function-reply, After-raise-reply, After-step-reply}

pub returns-in-Nothing-clause-after : goal.returns-in-Nothing-clause-after
returns-in-Nothing-clause-after c = rw c.in-Nothing.is (nothing_done c.args.monitor.now nothing refl (λ n. refl))

pub returns-in-Host-clause-after : goal.returns-in-Host-clause-after
returns-in-Host-clause-after c = grind (arith, nothing_done)

pub returns-in-Bad-clause-after : goal.returns-in-Bad-clause-after
returns-in-Bad-clause-after c = grind (arith, nothing_done)

-- ---- an access

stepped : (c : After-step-reply) → IsAnswered c.args.monitor.now c.step-reply.new.self (meaning_of (names_now c.args.monitor.now.world) c.args.what)
    (guest (name_of (names_now c.step-reply.new.self.world) c.in-Guest.guest)) (reply_of c.step-reply.result)
stepped c =
    rw c.in-Guest.is (answered c.args.monitor.now c.step-reply.new.self c.in-Guest.guest (access (access_of c.in-Guest.access)) (reply_of c.step-reply.result) c.step-reply.ensures.after c.step-reply.ensures.reply)

pub returns-in-Guest-clause-written : goal.returns-in-Guest-clause-written
returns-in-Guest-clause-written c = (stepped c).written

pub returns-in-Guest-clause-after : goal.returns-in-Guest-clause-after
returns-in-Guest-clause-after c = (stepped c).after

pub returns-in-Guest-clause-reply : goal.returns-in-Guest-clause-reply
returns-in-Guest-clause-reply c = (stepped c).reply

-- ---- bits that a device raises

raised : (c : After-raise-reply) → IsAnswered c.args.monitor.now c.raise-reply.new.self (meaning_of (names_now c.args.monitor.now.world) c.args.what)
    (guest (name_of (names_now c.raise-reply.new.self.world) c.in-Raise.guest)) (reply_of c.raise-reply.result)
raised c =
    let e = raises (record { slot = c.in-Raise.slot; part = part_of c.in-Raise.place; offset = c.in-Raise.off; mask = c.in-Raise.mask }) in
    rw c.in-Raise.is (answered c.args.monitor.now c.raise-reply.new.self c.in-Raise.guest e (reply_of c.raise-reply.result) c.raise-reply.ensures.after c.raise-reply.ensures.reply)

pub returns-in-Raise-clause-written : goal.returns-in-Raise-clause-written
returns-in-Raise-clause-written c = (raised c).written

pub returns-in-Raise-clause-after : goal.returns-in-Raise-clause-after
returns-in-Raise-clause-after c = (raised c).after

pub returns-in-Raise-clause-reply : goal.returns-in-Raise-clause-reply
returns-in-Raise-clause-reply c = (raised c).reply

-- ---- a move

was_moved : (c : After-move_function-reply) → IsAnswered c.args.monitor.now c.move_function-reply.new.self (meaning_of (names_now c.args.monitor.now.world) c.args.what) host (reply_of c.move_function-reply.result)
was_moved c =
    rw c.in-Move.is (moved c.args.monitor.now c.move_function-reply.new.self c.in-Move.from c.in-Move.slot c.in-Move.to c.in-Move.target (reply_of c.move_function-reply.result)
    c.move_function-reply.ensures.after c.move_function-reply.ensures.reply)

pub returns-in-Move-clause-written : goal.returns-in-Move-clause-written
returns-in-Move-clause-written c = (was_moved c).written

pub returns-in-Move-clause-after : goal.returns-in-Move-clause-after
returns-in-Move-clause-after c = (was_moved c).after

pub returns-in-Move-clause-reply : goal.returns-in-Move-clause-reply
returns-in-Move-clause-reply c = (was_moved c).reply
