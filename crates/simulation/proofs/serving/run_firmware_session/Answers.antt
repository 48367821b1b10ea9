use Rattle.std.proofs.Common.{Err, ap, ◌∙◌, subst, sym, arith}
use Rattle.model_lines.specs.Sessions.{driven}
use Rattle.lines.specs.Runs.{ends}
use Rattle.session.specs.Files.{Refuses}
use Rattle.simulation.{specs.{Faults.IsToldLast, Serving.{IsServed, Serves}}, proofs.{Ran.{on_error, read_again, written_again}, Served.{is_served, left_by, IsBegun, no_file, of_serving, served_fault, stopped, told_last, unanswered}}}
use Rattle.simulation.proofs.serving.run_firmware_session.Goals as goal
use Rattle.simulation.proofs.serving.run_firmware_session.Goals.{After-from_board-session, In-Some}

pub returns-in_err-driven-clause-file : goal.returns-in_err-driven-clause-file
returns-in_err-driven-clause-file g c = grind (arith, on_error)

pub returns-in_err-driven-clause-serves : goal.returns-in_err-driven-clause-serves
returns-in_err-driven-clause-serves g c = grind (arith, on_error)

pub returns-in_err-session-clause-reads : goal.returns-in_err-session-clause-reads
returns-in_err-session-clause-reads g c = read_again c.from_residual-in_err-session.result _ _ _ c.from_residual-in_err-session.ensures.1 c.in_err-session.ensures.reads

pub returns-in_err-session-clause-writes : goal.returns-in_err-session-clause-writes
returns-in_err-session-clause-writes g c = written_again c.from_residual-in_err-session.result _ _ _ c.from_residual-in_err-session.ensures.1 c.in_err-session.ensures.writes

abbrev begun : (g : _) (c : After-from_board-session g) → IsBegun c.args.board.now c.from_board-session.result
begun g c = (c.in_ok-driven.driven.world, c.in_ok-driven.ensures.declared, c.in_ok-driven.ensures.lawful, c.from_board-session.ensures ∙ ap driven c.in_ok-driven.ensures.reset)

pub returns-in_err-session-clause-serves : goal.returns-in_err-session-clause-serves
returns-in_err-session-clause-serves g c =
    on_error (Serves c.args.question c.args.strict _ c.args.board.now _) c.from_residual-in_err-session.result _ c.from_residual-in_err-session.ensures.1
    (stopped c.args.question c.args.strict _ c.args.board.now _ _ _ (begun g (goal.at.returns-in_err-session-clause-serves g c).After-from_board-session) c.in_err-session.ensures.runs)

pub returns-in_err-count-clause-serves : goal.returns-in_err-count-clause-serves
returns-in_err-count-clause-serves g c =
    on_error (Serves c.args.question c.args.strict _ c.args.board.now _) c.from_residual-in_err-count.result _ c.from_residual-in_err-count.ensures.1
    (unanswered c.args.question c.args.strict _ c.args.board.now c.apertures-apertures.result _ _ _ _ _ _ _ _ _
    (left_by c.args.board.now _ _ c.apertures-apertures.result _ (begun g (goal.at.returns-in_err-count-clause-serves g c).After-from_board-session) c.apertures-apertures.ensures c.in_ok-session.ensures.runs)
    c.in_err-count.ensures.faults c.in_err-count.ensures.asked
    (λ is. c.in_err-count.ensures.stopped (ap Err is))
    (λ is. let same = c.in_err-count.ensures.lacking (ap Err is) in (ap (λ w. g.W.Writer.written w) same, ap (λ w. g.W.Writer.flushed w) same)))

pub returns-in-Some-clause-serves : goal.returns-in-Some-clause-serves
returns-in-Some-clause-serves g c =
    served_fault c.args.question c.args.strict _ _ _ c.args.board.now _ c.in-Some.fault (sym c.in-Some.ensures)
    (is_served c.args.question c.args.strict c.args.board.now c.apertures-apertures.result c.in_ok-count.count _ _ _ _ _ _ _ _
    (left_by c.args.board.now _ _ c.apertures-apertures.result _ (begun g (goal.at.returns-in-Some-clause-serves g c).After-from_board-session) c.apertures-apertures.ensures c.in_ok-session.ensures.runs)
    c.in_ok-count.ensures.text c.in_ok-count.ensures.count c.in_ok-count.ensures.flushed)

last : (g : _) (c : In-Some g) → IsToldLast c.in-Some.fault
last g c = told_last c.args.question c.args.strict _ _ c.in-Some.fault (sym c.in-Some.ensures)

pub returns-in-Some-clause-file : goal.returns-in-Some-clause-file
returns-in-Some-clause-file g c = (no_file (Refuses c.args.board.now) c.in-Some.fault (last g (goal.at.returns-in-Some-clause-file g c).In-Some)).0

pub returns-in-Some-clause-nothing : goal.returns-in-Some-clause-nothing
returns-in-Some-clause-nothing g c of = absurd ((no_file (λ n. Unit {0}) c.in-Some.fault (last g (goal.at.returns-in-Some-clause-nothing g c).In-Some)).1 of)

pub returns-in-Some-clause-unseen : goal.returns-in-Some-clause-unseen
returns-in-Some-clause-unseen g c unless = absurd (unless (last g (goal.at.returns-in-Some-clause-unseen g c).In-Some))

pub returns-in-Some-clause-faults : goal.returns-in-Some-clause-faults
returns-in-Some-clause-faults g c = grind (arith, of_serving)

pub returns-clause-serves : goal.returns-clause-serves
returns-clause-serves g c =
    let at = ends (g.R.Reader.rest c.args.reader.now) (g.R.Reader.rest c.run_watched.new.reader) (g.W.Writer.written c.args.writer.now) (g.W.Writer.written c.print_and_count_findings.new.writer) (g.W.Writer.flushed c.print_and_count_findings.new.writer) in
    subst (λ z. IsServed c.args.question c.args.strict z c.in_ok-session.lines_seen c.args.board.now at) (sym c.in-None.ensures)
    (is_served c.args.question c.args.strict c.args.board.now c.apertures-apertures.result c.in_ok-count.count _ _ _ _ _ _ _ _
    (left_by c.args.board.now _ _ c.apertures-apertures.result _ (begun g (goal.at.returns-clause-serves g c).After-from_board-session) c.apertures-apertures.ensures c.in_ok-session.ensures.runs)
    c.in_ok-count.ensures.text c.in_ok-count.ensures.count c.in_ok-count.ensures.flushed)
