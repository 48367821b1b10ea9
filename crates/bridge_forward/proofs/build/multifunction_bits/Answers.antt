use Rattle.std.{proofs.{Common.{◌≡◌, IfOk, List, Bool, ◌&&◌, ◌||◌, not, rules, subst}, lemmas.Iterator.{YieldsList-from_slice, YieldsList-from_map, items_from_collect, Consumers.YieldsList-at}}, specs.BTreeSet.contains}
use Rattle.model_board.specs.{Board.{Row, declares_multifunction}, Paths.function_zero}
use Rattle.paths.specs.PathOrders.{path_cmp}
use Rattle.bridge_forward.specs.Devices.{is_nonzero_function}
use Rattle.bridge_forward.proofs.Devices.{bits_are}
use Rattle.bridge_forward.proofs.build.multifunction_bits.Goals as goal

pub returns : goal.returns
returns c =
    subst (λ (bs : List Bool). IfOk c.collect.result (λ v. v.items ≡ bs))
    (bits_are c.args.decls.now c.in_ok-shared.shared c.requires c.in_ok-shared.ensures)
    (items_from_collect _ c.collect.ensures.ran
    (YieldsList-from_map _ (λ (r : Row). contains path_cmp c.in_ok-shared.shared (function_zero r.path) && (not (is_nonzero_function r.path) || declares_multifunction r.decl)) (YieldsList-at c.map.ensures.source (YieldsList-from_slice c.args.decls.now (cc)))
    c.map.ensures.closure (λ x r q k. search rules)))
