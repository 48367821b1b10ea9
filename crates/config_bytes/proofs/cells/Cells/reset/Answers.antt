use Rattle.std.proofs.Common.{◌≡◌, ◌∙◌, ap₂, arith, rules}
use Rattle.config_bytes.{specs.CellFile.placed, proofs.Tables.{HasGaps-table, IsConfigFile-from, KeepsPlaces-from, IsTable-refilled, view_refilled}}
use Rattle.config_bytes.proofs.cells.Cells.reset.Goals as goal

put : (c : goal.After-self-1) → c.store_at_offsets.new.table ≡ placed c.self.inside.initial.items c.self.inside.table.items
put c = c.store_at_offsets.ensures ∙ ap₂ placed c.as_slice.ensures.value c.as_mut_slice.ensures.value

pub invariant_of-self : goal.invariant_of-self
invariant_of-self c = search (rules, IsTable-refilled, put, HasGaps-table)

pub returns-clause-cells : goal.returns-clause-cells
returns-clause-cells c = grind (arith, view_refilled, put)

pub returns-clause-places : goal.returns-clause-places
returns-clause-places c = grind (arith, IsConfigFile-from)

pub returns-clause-kept : goal.returns-clause-kept
returns-clause-kept c = grind (arith, KeepsPlaces-from)
