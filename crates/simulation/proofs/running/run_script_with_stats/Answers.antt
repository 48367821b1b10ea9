use Rattle.std.proofs.Common.{sym, ◌∙◌, arith}
use Rattle.simulation.{specs.Running.RunsAs, proofs.{Ran.{on_error, opened_file, opened_set_up, read_again, written_again}, Scripts.{has_run, none_ran, stopped}}}
use Rattle.simulation.proofs.running.run_script_with_stats.Goals as goal

pub returns-in_err-monitor-clause-file : goal.returns-in_err-monitor-clause-file
returns-in_err-monitor-clause-file g c = grind (arith, on_error, opened_file)

pub returns-in_err-monitor-clause-placement : goal.returns-in_err-monitor-clause-placement
returns-in_err-monitor-clause-placement g c = grind (arith, on_error, opened_set_up)

pub returns-in_err-monitor-clause-runs : goal.returns-in_err-monitor-clause-runs
returns-in_err-monitor-clause-runs g c = grind (arith, on_error, none_ran)

pub returns-in_err-lines_seen-clause-reads : goal.returns-in_err-lines_seen-clause-reads
returns-in_err-lines_seen-clause-reads g c = read_again c.from_residual-in_err-lines_seen.result _ _ _ c.from_residual-in_err-lines_seen.ensures.1 c.in_err-lines_seen.ensures.reads

pub returns-in_err-lines_seen-clause-writes : goal.returns-in_err-lines_seen-clause-writes
returns-in_err-lines_seen-clause-writes g c = written_again c.from_residual-in_err-lines_seen.result _ _ _ c.from_residual-in_err-lines_seen.ensures.1 c.in_err-lines_seen.ensures.writes

pub returns-in_err-lines_seen-clause-runs : goal.returns-in_err-lines_seen-clause-runs
returns-in_err-lines_seen-clause-runs g c =
    on_error (RunsAs c.args.strict _ c.args.board.now _) c.from_residual-in_err-lines_seen.result _ c.from_residual-in_err-lines_seen.ensures.1
    (stopped c.args.strict _ c.args.board.now _ _ _ c.in_ok-monitor.ensures.opened c.in_err-lines_seen.ensures.runs)

pub returns-then-refused-clause-runs : goal.returns-then-refused-clause-runs
returns-then-refused-clause-runs g c =
    has_run c.args.strict _ c.args.board.now _ _ _ c.in_ok-monitor.ensures.opened c.in_ok-lines_seen.ensures.runs (sym c.has_refusal_fault-refused.ensures ∙ c.if-refused.true)

pub returns-clause-runs : goal.returns-clause-runs
returns-clause-runs g c =
    has_run c.args.strict _ c.args.board.now _ _ _ c.in_ok-monitor.ensures.opened c.in_ok-lines_seen.ensures.runs (sym c.has_refusal_fault-refused.ensures ∙ c.if-refused.false)
