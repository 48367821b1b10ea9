use Rattle.std.proofs.Common.{List, sym, ◌∙◌, subst, arith}
use Rattle.lists.{specs.Elements.Each, proofs.EachLemmas.each_permutation}
use Rattle.model_set_up.{specs.Placement.{PlacementItem, in_order}, proofs.ItemOrder.order_is_sorted}
use Rattle.window_packing.{specs.Packs.HasLawfulAlign, proofs.ItemRanks.alignment-in_order}
use Rattle.window_packing.proofs.pack.pack_bus.Goals as goal

pub place_items_with_end-requires : goal.place_items_with_end-requires
place_items_with_end-requires c =
    let is = c.args.items.items in
    let sorted : Each HasLawfulAlign (in_order is) = each_permutation HasLawfulAlign is (in_order is) (order_is_sorted is).same c.requires.aligns in
    subst (λ (x : List PlacementItem). Each HasLawfulAlign x) (sym (c.deref.ensures.value ∙ c.sort_by_placement.ensures)) sorted

pub returns-clause-packed : goal.returns-clause-packed
returns-clause-packed c = grind (arith, alignment-in_order)
