use Rattle.std.proofs.Common.{◌↔◌, map, drop}
use Rattle.lists.specs.Elements.{Each}
use Rattle.model_board.specs.Places.{IsFounded}
use Rattle.bridge_forward.proofs.places.all_have_bus_and_function_zero.Given as goal

abbrev pub invariant-loop-place : goal.invariant-loop-place
invariant-loop-place g l =
    Each (IsFounded (map g.S.HasPath.standing l.places)) (map g.S.HasPath.standing l.places)
    ↔ Each (IsFounded (map g.S.HasPath.standing l.places)) (map g.S.HasPath.standing (drop l.place-index l.places))
