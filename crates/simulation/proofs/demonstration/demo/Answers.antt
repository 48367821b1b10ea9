use Rattle.std.proofs.Common.{rules, ◌≡◌}
use Rattle.simulation.specs.Demo.{demo_board}
use Rattle.simulation.proofs.demonstration.demo.Goals as goal
use Rattle.simulation.proofs.demonstration.demo.Goals.{After-whole}

text : (g : _) (c : After-whole g) → c.as_bytes.result.now ≡ demo_board
text g c = search rules

pub returns-clause-runs : goal.returns-clause-runs
returns-clause-runs g c = rw (text g c) at c.whole.ensures.runs

pub returns-clause-file : goal.returns-clause-file
returns-clause-file g c = rw (text g c) at c.whole.ensures.file

pub returns-clause-placement : goal.returns-clause-placement
returns-clause-placement g c = rw (text g c) at c.whole.ensures.placement
