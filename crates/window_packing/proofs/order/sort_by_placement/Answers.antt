use Rattle.std.proofs.{Common.rules, lemmas.Fn.always_returns_same}
use Rattle.model_set_up.specs.Placement.{stands_before}
use Rattle.window_packing.proofs.ItemRanks.{weak_order}
use Rattle.window_packing.proofs.order.sort_by_placement.Goals as goal

pub returns : goal.returns
returns c =
    c.requires c.sort_unstable_by.new.self.items
    (record { same = c.sort_unstable_by.ensures.permutation; sorted = c.sort_unstable_by.ensures.sorted stands_before weak_order (always_returns_same _ _ _ (λ a r f k. search rules)) })
