use Rattle.std.proofs.{Common.{◌≡◌, false, ◌∙◌, refl, arith}, Math.ListN.set, lemmas.List.length-set}
use Rattle.model_registers.{proofs.ConstantCells.no_cell_stays, specs.Cell.written}
use Rattle.config_bytes.proofs.{Tables.{ChangesAt, put_changes, IsTable-changed, IsConfigFile-from, KeepsPlaces-from, IsConfigFile-view, KeepsPlaces-view, view_changes, view_past, view_past_if}, cells.Cells.write_byte_if_enabled.Goals.{else-at-len-via-then-at-len+else-enabled, else-at-len-via-else-at-len}}
use Rattle.config_bytes.proofs.cells.Cells.write_byte_if_enabled.Goals as goal

changes : (c : goal.After-self-1) → ChangesAt (written c.args.byte) c.args.off c.self.inside.table.items (set c.self.inside.table.items c.from-at.result c.written.result)
changes c =
    put_changes (written c.args.byte) c.self.inside.table.items c.len.result c.from-at.result c.args.off c.written.result c.index.result.now
    (c.len.ensures ∙ c.self.inside.table.ok.0) c.from-at.ensures c.if-at-len.true c.index.ensures c.written.ensures

pub invariant_of-self : goal.invariant_of-self
invariant_of-self c =
    IsTable-changed (written c.args.byte) c.args.off c.self.inside.table.items (set c.self.inside.table.items c.from-at.result c.written.result)
    c.self.inside.initial.items (no_cell_stays c.args.byte) (length-set c.self.inside.table.items c.from-at.result c.written.result) (changes c) c.self.invariant

pub returns-then-enabled-clause-cells : goal.returns-then-enabled-clause-cells
returns-then-enabled-clause-cells c = grind (arith, view_changes, changes)

pub returns-else-at-len-clause-cells : goal.returns-else-at-len-clause-cells
returns-else-at-len-clause-cells c =
    elim c.else-at-len.branch [
      | else-at-len-via-then-at-len+else-enabled w ↦ let off : c.args.enabled ≡ false = w.if-enabled.false in rw off refl
      | else-at-len-via-else-at-len w ↦ view_past_if c.args.enabled (written c.args.byte) c.args.off c.args.self.now
          (view_past (written c.args.byte) c.self.inside.table.items c.self.inside.initial.items c.len.result c.from-at.result c.args.off c.args.self.now
          (no_cell_stays c.args.byte) (c.len.ensures ∙ c.self.inside.table.ok.0) c.from-at.ensures w.if-at-len.false c.self.view_is)
    ]

pub returns-then-enabled-clause-places : goal.returns-then-enabled-clause-places
returns-then-enabled-clause-places c = grind (arith, IsConfigFile-from)

pub returns-else-at-len-clause-places : goal.returns-else-at-len-clause-places
returns-else-at-len-clause-places c = IsConfigFile-view c.self.inside.table.items c.self.inside.initial.items c.args.self.now c.self.view_is

pub returns-then-enabled-clause-kept : goal.returns-then-enabled-clause-kept
returns-then-enabled-clause-kept c = grind (arith, KeepsPlaces-from)

pub returns-else-at-len-clause-kept : goal.returns-else-at-len-clause-kept
returns-else-at-len-clause-kept c = KeepsPlaces-view c.self.inside.table.items c.self.inside.initial.items c.args.self.now c.self.view_is
