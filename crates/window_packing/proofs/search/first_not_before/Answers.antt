use Rattle.std.proofs.{Common.{rules, of_calls}, lemmas.Fn.always_returns_same}
use Rattle.model_set_up.specs.Placement.{PlacedItem, stands_before}
use Rattle.window_packing.proofs.SpotSearch.{first_of_point, parted}
use Rattle.window_packing.proofs.search.first_not_before.Goals as goal

pub returns : goal.returns
returns c =
    let ss = c.args.spots.now in
    let key = c.args.key.now in
    let calls = always_returns_same _ _ _ (λ a r f k. search (rules, of_calls)) in
    first_of_point ss key c.requires c.partition_point.result c.partition_point.ensures.bound
    (c.partition_point.ensures.partitioned (λ (s : PlacedItem). stands_before s.item key) calls (parted ss key c.requires))
