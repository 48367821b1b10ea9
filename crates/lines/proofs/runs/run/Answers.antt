use Rattle.std.proofs.Common.{Err, ap, arith}
use Rattle.lines.{specs.Runs.Runs, proofs.{Endings.{output_on, after_on, stopped_last, lacking_last}, Results.{by_stop, by_fault}}}
use Rattle.lines.proofs.runs.run.Goals as goal

pub returns-in_err-run_complete_until_end-clause-runs : goal.returns-in_err-run_complete_until_end-clause-runs
returns-in_err-run_complete_until_end-clause-runs g c = grind (arith, by_fault)

pub returns-in_err-run_last_and_flush-clause-runs : goal.returns-in_err-run_last_and_flush-clause-runs
returns-in_err-run_last_and_flush-clause-runs g c =
    let before = c.in_ok-run_complete_until_end.ensures in
    let runs = before.runs in
    let last = c.in_err-run_last_and_flush.ensures in
    by_stop (Runs g.S.Answers.protocol c.args.server.now c.run_last_and_flush.new.server _)
    c.from_residual-in_err-run_last_and_flush.result _ c.from_residual-in_err-run_last_and_flush.ensures.1
    (λ is script known. stopped_last _ _ runs.1 before.end runs.2 before.rest known (last.stopped (ap Err is)))
    (λ is script known. let lacking = last.lacking (ap Err is) in rw (lacking.0, lacking.1) (lacking_last _ _ runs.1 before.end runs.2 before.rest known (last.some (ap Err is))))

pub returns-clause-runs : goal.returns-clause-runs
returns-clause-runs g c =
    let before = c.in_ok-run_complete_until_end.ensures in
    let runs = before.runs in
    record {
      read = before.end;
      output = λ script known. output_on (g.R.Reader.rest c.args.reader.now) (g.R.Reader.rest c.run_complete_until_end.new.reader)
          runs.1 before.end runs.2 before.rest known (g.W.Writer.written c.run_last_and_flush.new.writer) c.in_ok-run_last_and_flush.ensures.output;
      events = λ script known. after_on (g.R.Reader.rest c.args.reader.now) (g.R.Reader.rest c.run_complete_until_end.new.reader)
          runs.1 before.end runs.2 before.rest known c.in_ok-run_last_and_flush.ensures.after;
      flushed = c.in_ok-run_last_and_flush.ensures.flushed;
    }
