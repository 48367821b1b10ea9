use Rattle.std.proofs.{Common.{◌∙◌, sym, ap, arith}, Math.ListN.set}
use Rattle.config_bytes.proofs.{Tables.{IsConfigFile-from, KeepsPlaces-from, IsConfigFile-view, KeepsPlaces-view}, Values.{free, none_set, inside, table_set, view_set}}
use Rattle.config_bytes.proofs.cells.Cells.set.Goals as goal

pub returns-then-is_free_fast-clause-cells : goal.returns-then-is_free_fast-clause-cells
returns-then-is_free_fast-clause-cells c =
    none_set c.self.inside.table.items c.self.inside.initial.items c.self.invariant c.args.off c.args.value (omega arith)
    (ap (free c.args.off) (sym c.deref.ensures.value) ∙ sym c.is_free_fast.ensures ∙ c.if-is_free_fast.true) c.args.self.now c.self.view_is

pub returns-then-is_free_fast-clause-places : goal.returns-then-is_free_fast-clause-places
returns-then-is_free_fast-clause-places c = IsConfigFile-view c.self.inside.table.items c.self.inside.initial.items c.args.self.now c.self.view_is

pub returns-then-is_free_fast-clause-kept : goal.returns-then-is_free_fast-clause-kept
returns-then-is_free_fast-clause-kept c = KeepsPlaces-view c.self.inside.table.items c.self.inside.initial.items c.args.self.now c.self.view_is

pub index-requires : goal.index-requires
index-requires c =
    let within = inside c.self.inside.table.items c.self.inside.initial.items c.self.invariant c.args.off c.args.value (omega arith)
    (ap (free c.args.off) (sym c.deref.ensures.value) ∙ sym c.is_free_fast.ensures ∙ c.if-is_free_fast.false) in
    omega (arith, within, c.from-at.ensures, c.self.inside.table.ok.0)

pub index_mut-requires : goal.index_mut-requires
index_mut-requires c =
    let within = inside c.self.inside.table.items c.self.inside.initial.items c.self.invariant c.args.off c.args.value (omega arith)
    (ap (free c.args.off) (sym c.deref.ensures.value) ∙ sym c.is_free_fast.ensures ∙ c.if-is_free_fast.false) in
    omega (arith, within, c.from-at.ensures, c.self.inside.table.ok.0)

pub invariant_of-self : goal.invariant_of-self
invariant_of-self c =
    table_set c.self.inside.table.items c.self.inside.initial.items c.self.invariant c.args.off c.args.value (omega arith)
    (ap (free c.args.off) (sym c.deref.ensures.value) ∙ sym c.is_free_fast.ensures ∙ c.if-is_free_fast.false)
    c.from-at.result c.from-at.ensures c.with_value.result c.index.result.now c.index.ensures c.with_value.ensures

pub returns-clause-cells : goal.returns-clause-cells
returns-clause-cells c =
    view_set c.self.inside.table.items c.self.inside.initial.items c.self.invariant c.args.off c.args.value (omega arith)
    (ap (free c.args.off) (sym c.deref.ensures.value) ∙ sym c.is_free_fast.ensures ∙ c.if-is_free_fast.false)
    c.from-at.result c.from-at.ensures c.with_value.result c.index.result.now c.index.ensures c.with_value.ensures c.args.self.now c.self.view_is

pub returns-clause-places : goal.returns-clause-places
returns-clause-places c = IsConfigFile-from (set c.self.inside.table.items c.from-at.result c.with_value.result) c.self.inside.initial.items

pub returns-clause-kept : goal.returns-clause-kept
returns-clause-kept c = KeepsPlaces-from (set c.self.inside.table.items c.from-at.result c.with_value.result) c.self.inside.initial.items
