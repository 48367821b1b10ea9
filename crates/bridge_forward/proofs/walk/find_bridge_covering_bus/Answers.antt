use Rattle.std.{proofs.Common.{◌≡◌, ◌≤◌, ◌<◌, Some, arith, sym, ◌∙◌}, specs.List.slice_get}
use Rattle.lists.proofs.Indices.{read_at}
use Rattle.model_board.specs.Paths.{Path}
use Rattle.bridge_forward.{specs.{Layout.IsLaidOut, Search.IsSide, Skips.AreSkipped}, proofs.{Nodes.inside, Reached.{Passed, passed_none, passed_next, first_here, none_on_bus}, Skipping.{passed_at, passed_whole}}}
use Rattle.bridge_forward.proofs.walk.find_bridge_covering_bus.Goals as goal
use Rattle.bridge_forward.proofs.walk.find_bridge_covering_bus.Goals.{After-index-nodes-at, After-index-nodes-i}

pub loop-i-init : goal.loop-i-init
loop-i-init c = record {
  begun = omega arith;
  passed = λ laid bus side. passed_none c.args.nodes.now laid bus c.args.number c.args.from c.args.to side;
}

-- from the index up to the next bridge all is passed
module _ (c : After-index-nodes-i) where
  skipped : AreSkipped c.args.nodes.now c.loop-i.i c.index-nodes-i.result.bridge
  skipped =
      c.requires.tree.skips c.loop-i.i c.index-nodes-i.result
      (read_at c.args.nodes.now c.loop-i.i c.index-nodes-i.result (omega (arith, c.loop-i-test.true, c.requires.range)) c.index-nodes-i.is)

  ahead : c.args.from ≤ c.index-nodes-i.result.bridge
  ahead = let s = skipped.ahead in omega (arith, s, c.loop-i.invariant.begun)

  passed : c.index-nodes-i.result.bridge < c.args.to → (laid : IsLaidOut c.args.nodes.now) (bus : Path) (side : IsSide c.args.nodes.now bus c.args.from c.args.to)
      → Passed c.args.nodes.now laid bus c.args.number c.args.from c.args.to side c.index-nodes-i.result.bridge
  passed h laid bus side = passed_at _ _ _ _ _ _ _ c.loop-i.i _ (c.loop-i.invariant.passed laid bus side) skipped c.loop-i.invariant.begun h

-- the next bridge, as it is read
there : (c : After-index-nodes-at) → slice_get c.args.nodes.now c.index-nodes-i.result.bridge ≡ Some c.index-nodes-at.result
there c = read_at c.args.nodes.now c.index-nodes-i.result.bridge c.index-nodes-at.result (omega (arith, c.if-at-to.false, c.requires.range)) c.index-nodes-at.is

pub returns-then-at-to-clause-none : goal.returns-then-at-to-clause-none
returns-then-at-to-clause-none c = λ bus side.
    let k = (goal.at.returns-then-at-to-clause-none c).After-index-nodes-i in
    none_on_bus _ _ _ _ _ _ _ c.args.to
    (passed_whole _ _ _ _ _ _ _ c.loop-i.i _ (c.loop-i.invariant.passed c.requires.tree.laid bus side) (skipped k) c.loop-i.invariant.begun
    c.loop-i-test.true c.if-at-to.true) (omega arith)

pub returns-then-covers_bus-clause-within : goal.returns-then-covers_bus-clause-within
returns-then-covers_bus-clause-within c = grind (arith, read_at)

pub returns-then-covers_bus-clause-found : goal.returns-then-covers_bus-clause-found
returns-then-covers_bus-clause-found c = λ bus side.
    let k = goal.at.returns-then-covers_bus-clause-found c in
    first_here _ _ _ _ _ _ _ c.index-nodes-i.result.bridge c.index-nodes-at.result (passed k.After-index-nodes-i c.if-at-to.false c.requires.tree.laid bus side)
    (there k.After-index-nodes-at) (ahead k.After-index-nodes-i) c.if-at-to.false (sym c.covers_bus.ensures ∙ c.if-covers_bus.true)

pub loop-i-smaller : goal.loop-i-smaller
loop-i-smaller c = grind (arith, read_at, inside)

pub loop-i-preserved : goal.loop-i-preserved
loop-i-preserved c =
    let k = goal.at.loop-i-preserved c in
    let from = ahead k.After-index-nodes-i in
    let here = there k.After-index-nodes-at in
    let w = inside c.args.nodes.now c.requires.tree.laid c.index-nodes-i.result.bridge c.index-nodes-at.result here in
    record {
      begun = omega (arith, w.0, from);
      passed = λ laid bus side.
          passed_next _ _ _ _ _ _ _ c.index-nodes-i.result.bridge c.index-nodes-at.result (passed k.After-index-nodes-i c.if-at-to.false laid bus side)
          here from c.if-at-to.false (sym c.covers_bus.ensures ∙ c.if-covers_bus.false);
    }

pub returns-clause-none : goal.returns-clause-none
returns-clause-none c = λ bus side.
    none_on_bus _ _ _ _ _ _ _ c.loop-i.i (c.loop-i.invariant.passed c.requires.tree.laid bus side) (omega (arith, c.loop-i-test.false))
