use Rattle.std.proofs.{Common.{◌≡◌, ◌+◌, ◌^◌, ◌≤◌, ◌<◌, [], ap, ap₂, ◌∙◌, arith}, lemmas.{Bool.Decides.nat_tests, List.nil_from_length}}
use Rattle.model_set_up.{specs.{Pools.unit_of, Placement.round_up}, proofs.Packing.round_up_not_before}
use Rattle.window_packing.{specs.{Packs.PackedBus, Plans.named_pool}, proofs.{BusItems.alignment_bounds, PlacedFunctions.{holds_of_some, span_none}}}
use Rattle.window_packing.proofs.settings.window_or_disabled.Goals as goal
use Rattle.window_packing.proofs.settings.window_or_disabled.Goals.{After-round_up, Else-is_empty}

pub returns-then-is_empty : goal.returns-then-is_empty
returns-then-is_empty c = grind (arith, nat_tests, nil_from_length, span_none)

-- the window of a bus with items has a size, and room
module _ (c : Else-is_empty) where
  some : c.args.pack.now.spots ≡ [] → ⊥
  some e = grind (arith, nat_tests)

  size : 0 < round_up (unit_of (named_pool c.args.pool)) c.args.pack.now.end
  size = holds_of_some _ c.args.pack.now.spots some c.requires.some

  room : c.args.first + round_up (unit_of (named_pool c.args.pool)) c.args.pack.now.end ≤ 2 ^ 63
  room = holds_of_some _ c.args.pack.now.spots some c.requires.room

pub round_up-requires-clause-room : goal.round_up-requires-clause-room
round_up-requires-clause-room c =
    let fits = room c in
    grind (arith, alignment_bounds, round_up_not_before)

up : (c : After-round_up) → c.round_up.result ≡ round_up (unit_of (named_pool c.args.pool)) c.args.pack.now.end
up c = c.round_up.ensures ∙ ap₂ round_up c.unit-unit.ensures (ap (λ (p : PackedBus). p.end) c.pack.view_is)

pub overflow_add-result : goal.overflow_add-result
overflow_add-result c = omega (arith, room (goal.at.overflow_add-result c).Else-is_empty, up c)

pub overflow_sub-result : goal.overflow_sub-result
overflow_sub-result c = omega (arith, size (goal.at.overflow_sub-result c).Else-is_empty, up (goal.at.overflow_sub-result c).After-round_up)
