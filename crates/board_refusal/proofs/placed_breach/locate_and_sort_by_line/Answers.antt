use Rattle.std.proofs.{Common.{rules, append-nil, arith}, lemmas.{Grind.common_steps, List.Sorted.{answers_always, IsNonDecreasingBy-from_sort_by_key}}}
use Rattle.board_refusal.specs.Telling.{line_or_zero}
use Rattle.board_refusal.proofs.placed_breach.locate_and_sort_by_line.Goals as goal

pub returns : goal.returns
returns c =
    let sort = c.in_ok-sort_by_key.ensures in record {
      found = c.problems.all.items;
      are_all = grind (arith, common_steps, append-nil);
      have_places = c.problems.invariant.places;
      are_same = sort.permutation;
      in_order = IsNonDecreasingBy-from_sort_by_key line_or_zero _ sort.sorted (λ a r q k. search rules);
      is_stable = sort.stable line_or_zero (answers_always _ _ _ (λ f a r g h. search rules));
    }
