use Rattle.std.proofs.Common.{◌≡◌, ◌++◌, drop}
use Rattle.findings.specs.Regions.{all_selected_bars}
use Rattle.findings.proofs.regions.all_selected_bars.Given as goal

abbrev pub invariant-loop-row : goal.invariant-loop-row
invariant-loop-row l = l.told.items ++ all_selected_bars l.sort (drop l.row-index l.rows) ≡ all_selected_bars l.sort l.rows
