use Rattle.simulation.proofs.Scripts.{plain_faults, plainly}
use Rattle.simulation.proofs.running.whole.Goals as goal

pub returns-clause-runs : goal.returns-clause-runs
returns-clause-runs g c = plainly _ c.args.board.now _ c.run_script_with_stats.result c.run_script_with_stats.ensures.runs

pub returns-clause-faults : goal.returns-clause-faults
returns-clause-faults g c = plain_faults c.run_script_with_stats.result c.run_script_with_stats.ensures.faults
