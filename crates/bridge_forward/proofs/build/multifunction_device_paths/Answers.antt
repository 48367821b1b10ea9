use Rattle.std.{proofs.{Common.rules, lemmas.Iterator.{YieldsList-from_slice, YieldsList-from_map, Adapters.fact_from_collect, Consumers.{YieldsList-at, YieldsList-from_filter}}}, specs.BTreeSet.IsFromIterResult}
use Rattle.model_board.specs.{Board.Row, Paths.function_zero}
use Rattle.paths.specs.PathOrders.{path_cmp}
use Rattle.bridge_forward.specs.Devices.{is_nonzero_function}
use Rattle.bridge_forward.proofs.build.multifunction_device_paths.Goals as goal

pub returns : goal.returns
returns c =
    fact_from_collect (IsFromIterResult path_cmp) c.collect.result c.collect.ensures.ran
    (YieldsList-from_map _ (λ (r : Row). function_zero r.path)
    (YieldsList-at c.map.ensures.source (YieldsList-from_filter _ (λ (r : Row). is_nonzero_function r.path) (YieldsList-at c.filter.ensures.source (YieldsList-from_slice c.args.decls.now (cc)))
    c.filter.ensures.closure (λ x b q k. search rules)))
    c.map.ensures.closure (λ x r q k. search rules))
