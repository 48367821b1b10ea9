use Rattle.std.proofs.{Common.{◌∙◌, arith}, Math.ListN.set, lemmas.List.length-set}
use Rattle.model_registers.{proofs.ConstantCells.raised_none, specs.Cell.raised}
use Rattle.config_bytes.proofs.Tables.{ChangesAt, put_changes, IsTable-changed, IsConfigFile-from, KeepsPlaces-from, IsConfigFile-view, KeepsPlaces-view, view_changes, view_past}
use Rattle.config_bytes.proofs.cells.Cells.raise.Goals as goal

changes : (c : goal.After-self-1) → ChangesAt (raised c.args.mask) c.args.off c.self.inside.table.items (set c.self.inside.table.items c.from-at.result c.raised.result)
changes c =
    put_changes (raised c.args.mask) c.self.inside.table.items c.len.result c.from-at.result c.args.off c.raised.result c.index.result.now
    (c.len.ensures ∙ c.self.inside.table.ok.0) c.from-at.ensures c.if-at-len.true c.index.ensures c.raised.ensures

pub invariant_of-self : goal.invariant_of-self
invariant_of-self c =
    IsTable-changed (raised c.args.mask) c.args.off c.self.inside.table.items (set c.self.inside.table.items c.from-at.result c.raised.result)
    c.self.inside.initial.items (raised_none c.args.mask) (length-set c.self.inside.table.items c.from-at.result c.raised.result) (changes c) c.self.invariant

pub returns-then-at-len-clause-cells : goal.returns-then-at-len-clause-cells
returns-then-at-len-clause-cells c = grind (arith, view_changes, changes)

pub returns-else-at-len-clause-cells : goal.returns-else-at-len-clause-cells
returns-else-at-len-clause-cells c =
    view_past (raised c.args.mask) c.self.inside.table.items c.self.inside.initial.items c.len.result c.from-at.result c.args.off c.args.self.now
    (raised_none c.args.mask) (c.len.ensures ∙ c.self.inside.table.ok.0) c.from-at.ensures c.if-at-len.false c.self.view_is

pub returns-then-at-len-clause-places : goal.returns-then-at-len-clause-places
returns-then-at-len-clause-places c = grind (arith, IsConfigFile-from)

pub returns-else-at-len-clause-places : goal.returns-else-at-len-clause-places
returns-else-at-len-clause-places c = IsConfigFile-view c.self.inside.table.items c.self.inside.initial.items c.args.self.now c.self.view_is

pub returns-then-at-len-clause-kept : goal.returns-then-at-len-clause-kept
returns-then-at-len-clause-kept c = grind (arith, KeepsPlaces-from)

pub returns-else-at-len-clause-kept : goal.returns-else-at-len-clause-kept
returns-else-at-len-clause-kept c = KeepsPlaces-view c.self.inside.table.items c.self.inside.initial.items c.args.self.now c.self.view_is
