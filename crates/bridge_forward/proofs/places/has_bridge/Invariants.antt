use Rattle.std.proofs.Common.{◌≡◌, map, drop}
use Rattle.model_board.specs.Places.{has_bridge}
use Rattle.bridge_forward.proofs.places.has_bridge.Given as goal

abbrev pub invariant-loop-place : goal.invariant-loop-place
invariant-loop-place g l = has_bridge (map g.S.HasPath.standing (drop l.place-index l.places)) l.parts ≡ has_bridge (map g.S.HasPath.standing l.places) l.parts
