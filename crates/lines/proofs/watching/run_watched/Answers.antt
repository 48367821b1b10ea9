use Rattle.lines.proofs.Watched.{watched_early, watched_end}
use Rattle.lines.proofs.watching.run_watched.Goals as goal

pub returns-in_err-run-clause-runs : goal.returns-in_err-run-clause-runs
returns-in_err-run-clause-runs g c =
    watched_early g.S.Answers.protocol g.S.Answers.refusal c.args.server _ c.run.new.server _ c.from_residual.result _ c.from_residual.ensures.1 c.in_err-run.ensures.runs

pub returns-clause-runs : goal.returns-clause-runs
returns-clause-runs g c =
    watched_end g.S.Answers.protocol g.S.Answers.refusal c.args.server _ c.run.new.server _ c.new.ensures c.in_ok-run.ensures.runs
