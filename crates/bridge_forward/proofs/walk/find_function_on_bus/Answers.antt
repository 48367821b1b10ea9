use Rattle.std.proofs.Common.{◌++◌, ◌∷◌, [], arith, sym}
use Rattle.model_board.specs.Paths.{Part, Path}
use Rattle.lists.proofs.Indices.{read_at}
use Rattle.bridge_forward.proofs.{Nodes.behind_bus, Halving.{halved_side, here, below_here, above_here, nowhere}}
use Rattle.bridge_forward.proofs.walk.find_function_on_bus.Goals as goal

abbrev named : Path → Part → Path
named bus t = bus ++ t ∷ []

pub loop-low-init : goal.loop-low-init
loop-low-init c = grind (arith, halved_side)

pub compare_to_function_on_bus-requires : goal.compare_to_function_on_bus-requires
compare_to_function_on_bus-requires c =
    let v = c.loop-low.invariant in
    let whole = c.requires.side.within in
    let e = read_at c.args.nodes.now _ c.index-nodes-middle.result (omega (arith, c.loop-low-test.true, v.within, whole)) c.index-nodes-middle.is in
    grind (arith, behind_bus c.args.nodes.now c.requires.tree.laid c.args.bus.now c.args.from c.args.to c.requires.side _ _ e)

pub returns-in-Equal-clause-found : goal.returns-in-Equal-clause-found
returns-in-Equal-clause-found c =
    let whole = c.requires.side.within in
    here c.args.nodes.now c.requires.tree.laid (named c.args.bus.now (record { device = c.args.device; function = c.args.function })) _ c.index-nodes-middle.result
    (omega (arith, c.loop-low-test.true, c.loop-low.invariant.within, whole)) c.index-nodes-middle.is (sym c.in-Equal.ensures.equal)

pub loop-low-preserved-in-Less : goal.loop-low-preserved-in-Less
loop-low-preserved-in-Less c = grind (arith, below_here)

pub loop-low-preserved : goal.loop-low-preserved
loop-low-preserved c = grind (arith, above_here)

pub returns-clause-none : goal.returns-clause-none
returns-clause-none c = grind (arith, nowhere)
