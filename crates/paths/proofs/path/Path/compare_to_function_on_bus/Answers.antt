use Rattle.std.proofs.Common.{ℕ, ◌∙◌, sym, arith}
use Rattle.paths.proofs.OnBus.{less_on, equal_on, longer_on, differs_on}
use Rattle.model_board.{proofs.PathEnds.leads_longer, specs.Paths.Part}
use Rattle.paths.proofs.path.Path.compare_to_function_on_bus.Goals as goal

abbrev named : (device function : ℕ) → Part
named device function = record { device = device; function = function }

pub bounds-parts-depth : goal.bounds-parts-depth
bounds-parts-depth c = grind (arith, leads_longer)

pub returns-in-Less-clause-less : goal.returns-in-Less-clause-less
returns-in-Less-clause-less c =
    c.in-Less.ensures.less ∙ sym (less_on c.args.bus.now c.args.self.now c.parts-parts.result.now (named c.args.device c.args.function) c.index-parts-depth.result c.requires c.parts-parts.ensures.value c.index-parts-depth.is)

pub returns-in-Less-clause-equal : goal.returns-in-Less-clause-equal
returns-in-Less-clause-equal c = grind (arith, differs_on)

pub returns-in-Greater-clause-less : goal.returns-in-Greater-clause-less
returns-in-Greater-clause-less c =
    c.in-Greater.ensures.less ∙ sym (less_on c.args.bus.now c.args.self.now c.parts-parts.result.now (named c.args.device c.args.function) c.index-parts-depth.result c.requires c.parts-parts.ensures.value c.index-parts-depth.is)

pub returns-in-Greater-clause-equal : goal.returns-in-Greater-clause-equal
returns-in-Greater-clause-equal c = grind (arith, differs_on)

pub returns-then-parts-depth-clause-less : goal.returns-then-parts-depth-clause-less
returns-then-parts-depth-clause-less c =
    c.in-Equal.ensures.less ∙ sym (less_on c.args.bus.now c.args.self.now c.parts-parts.result.now (named c.args.device c.args.function) c.index-parts-depth.result c.requires c.parts-parts.ensures.value c.index-parts-depth.is)

pub returns-then-parts-depth-clause-equal : goal.returns-then-parts-depth-clause-equal
returns-then-parts-depth-clause-equal c = grind (arith, longer_on)

pub returns-else-parts-depth-clause-less : goal.returns-else-parts-depth-clause-less
returns-else-parts-depth-clause-less c =
    c.in-Equal.ensures.less ∙ sym (less_on c.args.bus.now c.args.self.now c.parts-parts.result.now (named c.args.device c.args.function) c.index-parts-depth.result c.requires c.parts-parts.ensures.value c.index-parts-depth.is)

pub returns-else-parts-depth-clause-equal : goal.returns-else-parts-depth-clause-equal
returns-else-parts-depth-clause-equal c =
    c.in-Equal.ensures.equal ∙ sym (equal_on c.args.bus.now c.args.self.now c.parts-parts.result.now (named c.args.device c.args.function) c.index-parts-depth.result c.requires c.parts-parts.ensures.value c.index-parts-depth.is c.if-parts-depth.false)
