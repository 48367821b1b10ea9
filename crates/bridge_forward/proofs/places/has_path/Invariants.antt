use Rattle.std.proofs.Common.{◌≡◌, map, drop}
use Rattle.model_board.specs.Places.{has_path}
use Rattle.bridge_forward.proofs.places.has_path.Given as goal

abbrev pub invariant-loop-place : goal.invariant-loop-place
invariant-loop-place g l = has_path (map g.S.HasPath.standing (drop l.place-index l.places)) l.path ≡ has_path (map g.S.HasPath.standing l.places) l.path
