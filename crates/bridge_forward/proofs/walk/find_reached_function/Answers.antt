use Rattle.std.{proofs.{Common.{subst, arith}, lemmas.Option.slice_get_within}, specs.Prelude.{IfSome, find}}
use Rattle.model_board.specs.Paths.{Path}
use Rattle.bridge_forward.{specs.{Layout.functions_of, Search.{is_named, IsAt}}, proofs.{Nodes.{side_root, side_behind}, Reached.{type1_found, type1_missed}}}
use Rattle.lists.proofs.Indices.{read_at}
use Rattle.bridge_forward.proofs.walk.find_reached_function.Goals as goal

pub find_function_on_bus-requires-clause-side : goal.find_function_on_bus-requires-clause-side
find_function_on_bus-requires-clause-side c = side_root c.args.nodes.now c.requires.tree.laid

pub returns-in_default-clause-found : goal.returns-in_default-clause-found
returns-in_default-clause-found c = rw c.in_default.is c.find_function_on_bus.ensures.found

pub returns-in_default-clause-none : goal.returns-in_default-clause-none
returns-in_default-clause-none c = rw c.in_default.is c.find_function_on_bus.ensures.none

pub find_function_on_bus-requires-2-clause-side : goal.find_function_on_bus-requires-2-clause-side
find_function_on_bus-requires-2-clause-side c = grind (arith, read_at, slice_get_within, side_behind)

pub returns-clause-found : goal.returns-clause-found
returns-clause-found c =
    let nodes = c.args.nodes.now in
    let y = c.args.cycle.now in
    let n = c.index-nodes-at.result in
    let r = c.find_function_on_bus-2.result in
    let led = c.in_ok-at.ensures.found in
    let e = read_at nodes c.in_ok-at.at n (slice_get_within nodes c.in_ok-at.at led.bridge led.there) c.index-nodes-at.is in
    rw c.in-Type1.is
    (type1_found nodes y.device y.function c.in-Type1.bus c.in_ok-at.at n led e r
    (subst (λ (b : Path). IfSome r (λ j. IsAt nodes j (find (is_named b y.device y.function) (functions_of nodes)))) c.parts.ensures.value c.find_function_on_bus-2.ensures.found))

pub returns-clause-none : goal.returns-clause-none
returns-clause-none c = grind (arith, read_at, slice_get_within, type1_missed)
