use Rattle.std.proofs.{Common.rules, lemmas.Fn.always_returns_same}
use Rattle.bridge_forward.proofs.BoardOrder.{weak_order, before, sorted_is_board}
use Rattle.bridge_forward.proofs.build.sort_by_path.Goals as goal

pub returns : goal.returns
returns c =
    sorted_is_board c.args.decls.now.items c.sort_unstable_by.new.self.items c.requires c.sort_unstable_by.ensures.permutation
    (c.sort_unstable_by.ensures.sorted before weak_order (always_returns_same _ _ _ (λ a r f k. search rules)))
