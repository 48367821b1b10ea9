use Rattle.std.proofs.Common.{◌↔◌, IsFalse, map, drop}
use Rattle.lists.specs.Elements.{EachPair}
use Rattle.model_board.specs.Paths.{path_eq}
use Rattle.bridge_forward.proofs.places.have_distinct_paths.Given as goal

abbrev pub invariant-loop-i : goal.invariant-loop-i
invariant-loop-i g l =
    EachPair (λ s t. IsFalse (path_eq t.path s.path)) (map g.S.HasPath.standing l.places)
    ↔ EachPair (λ s t. IsFalse (path_eq t.path s.path)) (map g.S.HasPath.standing (drop l.i l.places))
