-- A window is closed just where it has no items; what is counted and named in what set-up finds is so on the board.
use Rattle.std.proofs.{lemmas.{Grind.common_steps, List.Sums.sum_by-cons}, Common.{◌≡◌, ℕ, ◌+◌, ◌-◌, ◌*◌, ◌<◌, ◌≤◌, List, [], ◌∷◌, le-ltb, lt-ltb, ne_eqb, lit<, refl, inl, arith}}
use Rattle.lists.specs.Elements.{Each}
use Rattle.model_set_up.{specs.{Pools.{Pool, io_pool, mem_pool, pref_pool, unit_of}, Placement.{PlacementItem, need, items_on, bus_first, end_from, in_order}, SetUp.window_of}, proofs.{Items.{IsPlaceable, some_end, end_below_need, items_placeable}, Packing.unit_positive, FoundBoards.found_is_bridge}}
use Rattle.model_handoff.specs.ReportLaws.{is_closed, is_empty, ClosedWithoutItems, CountsOfBoard, IdentitiesOfBoard, PinLines}

without_items : (unit closed first : ℕ) (is : List PlacementItem) → 0 < unit → 0 < closed * unit → Each (IsPlaceable unit) is
    → is_closed (window_of unit closed first is) ≡ is_empty is
without_items unit closed first [] some used h = lt-ltb 0 (closed * unit) used
without_items unit closed first (i ∷ is) some used h =
    let end : 0 < end_from 0 (in_order (i ∷ is)) = some_end unit i (i ∷ is) h (inl refl) in
    let whole : end_from 0 (in_order (i ∷ is)) ≤ need unit (i ∷ is) = end_below_need unit (i ∷ is) some in
    let not_closed : first ≤ first + need unit (i ∷ is) - 1 = omega arith in
    le-ltb (first + need unit (i ∷ is) - 1) first not_closed

pub closed_without_items : ClosedWithoutItems
closed_without_items b a lawful p = record { io = of io_pool 0xf (lit< tt); mem = of mem_pool 0xfff (lit< tt); pref = of pref_pool 0xfff (lit< tt) }
  where
    of : (pool : Pool) (closed : ℕ) → 0 < closed * unit_of pool
        → is_closed (window_of (unit_of pool) closed (bus_first b a pool p) (items_on b a pool p)) ≡ is_empty (items_on b a pool p)
    of pool closed some = without_items (unit_of pool) closed _ (items_on b a pool p) (unit_positive pool) some (items_placeable b a pool lawful p)

pub counts_of_board : CountsOfBoard
counts_of_board b = grind (arith, common_steps, sum_by-cons, found_is_bridge)

pub identities_of_board : IdentitiesOfBoard
identities_of_board d = grind arith

pub pin_lines : PinLines
pin_lines p d lawful = let few = lawful.pin in grind (arith, ne_eqb, le-ltb)
