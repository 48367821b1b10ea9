use Rattle.std.proofs.Common.{◌≡◌, ◌++◌, drop, map}
use Rattle.model_set_up.specs.FunctionTable.{TableRow}
use Rattle.window_packing.proofs.rows.row_paths.Given as goal

abbrev pub invariant-rows : goal.invariant-rows
invariant-rows l = l.paths.items ++ map (λ (r : TableRow). r.path) (drop l.row-index l.rows) ≡ map (λ (r : TableRow). r.path) l.rows
