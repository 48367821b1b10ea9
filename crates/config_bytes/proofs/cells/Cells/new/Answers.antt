use Rattle.std.proofs.Common.{◌≡◌, ◌<◌, ℕ, List, length, ◌∙◌, sym, subst, ap, ap₂, arith, rules}
use Rattle.lists.specs.Elements.{Each}
use Rattle.model_registers.specs.Cell.{Cell}
use Rattle.config_bytes.{specs.CellFile.{CellFile, HasDistinctOffsets, file_of, placed}, proofs.Tables.{HasGaps, HasGaps-empty, IsConfigFile-from, KeepsPlaces-from, each_from, IsTable-refilled, view_refilled}}
use Rattle.config_bytes.proofs.cells.Cells.new.Goals as goal

stored : (c : goal.After-table-3-1) → c.args.cells.now ≡ c.in_ok-initial.initial.items
stored c = sym c.in_ok-initial.ensures.items

put : (c : goal.After-table-3-1) → c.store_at_offsets.new.table ≡ placed c.in_ok-initial.initial.items c.in_ok-table.table.items
put c = c.store_at_offsets.ensures ∙ ap₂ placed (stored c) c.as_mut_slice.ensures.value

distinct : (c : goal.After-table-3-1) → HasDistinctOffsets c.in_ok-initial.initial.items
distinct c = subst HasDistinctOffsets (stored c) c.requires

room : (c : goal.After-table-3-1) → Each (λ e. e.0 < length c.in_ok-table.table.items) c.in_ok-initial.initial.items
room c = grind (arith, each_from, stored)

gaps : (c : goal.After-table-3-1) → HasGaps c.in_ok-table.table.items c.in_ok-initial.initial.items
gaps c = grind (arith, HasGaps-empty)

pub invariant_of-result : goal.invariant_of-result
invariant_of-result c = search (rules, IsTable-refilled, put, distinct, room, gaps)

pub returns-clause-cells : goal.returns-clause-cells
returns-clause-cells c =
    view_refilled c.in_ok-table.table.len c.in_ok-table.table.items c.store_at_offsets.new.table c.in_ok-initial.initial.items (put c) c.in_ok-table.table.ok.0 (distinct c) (room c)
    ∙ ap (λ (cs : List (ℕ × Cell)). let v : CellFile = record { now = file_of cs; initial = file_of cs } in v) (sym (stored c))

pub returns-clause-places : goal.returns-clause-places
returns-clause-places c = grind (arith, IsConfigFile-from)

pub returns-clause-kept : goal.returns-clause-kept
returns-clause-kept c = grind (arith, KeepsPlaces-from)
