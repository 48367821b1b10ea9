use Rattle.std.proofs.Common.{◌≡◌, List, ◌++◌, length, take, drop, arith, rules}
use Rattle.model_registers.specs.Cell.{Cell}
use Rattle.config_bytes.{specs.CellFile.placed_outside, proofs.{Tables.{IsConfigFile-from, KeepsPlaces-from}, Outside.{IsTable-outside, file_from-outside, refilled_outside}}}
use Rattle.config_bytes.proofs.cells.Cells.reset_outside.Goals as goal

abbrev filled : goal.After-self-1 → List Cell
filled c = placed_outside c.args.first c.args.last c.self.inside.initial.items c.self.inside.table.items

put : (c : goal.After-self-1) → take c.self.inside.table.len (c.store_at_offsets_outside.new.table ++ drop (length c.store_at_offsets_outside.new.table) c.self.inside.table.items) ≡ filled c
put c = grind (arith, refilled_outside)

pub invariant_of-self : goal.invariant_of-self
invariant_of-self c = search (rules, put, IsTable-outside)

pub returns-clause-cells : goal.returns-clause-cells
returns-clause-cells c = grind (arith, put, file_from-outside)

pub returns-clause-places : goal.returns-clause-places
returns-clause-places c = grind (arith, IsConfigFile-from)

pub returns-clause-kept : goal.returns-clause-kept
returns-clause-kept c = grind (arith, KeepsPlaces-from)
