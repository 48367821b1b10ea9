-- Sets of paths: what they hold.
use Rattle.std.{proofs.Common.{◌≡◌, Bool, ◌||◌, List, [], ◌∷◌, map, refl, sym, ap₂, ◌∙◌, arith}, specs.{Prelude.filter, List.list_any, Ordering.eq_by_cmp, BTreeSet.{BTreeSet, IsFromIterResult}}}
use Rattle.model_board.{specs.{Paths.{Path, path_eq}, Places.{Standing, has_path, has_bridge}}, proofs.PathEnds.path_eq-sym}
use Rattle.paths.specs.{PathOrders.path_cmp, PathLaws.paths_tied}
use Rattle.board_file.specs.PathSets.{AreSetsOf}

same_is : (q p : Path) → eq_by_cmp path_cmp q p ≡ path_eq p q
same_is q p = sym (paths_tied q p) ∙ path_eq-sym q p

member_is : (ss : List Standing) (q : Path) → list_any (eq_by_cmp path_cmp q) (map (λ (s : Standing). s.path) ss) ≡ has_path ss q
member_is [] q = refl
member_is (s ∷ ss) q = ap₂ (λ (a b : Bool). a || b) (same_is q s.path) (member_is ss q)

bridge_is : (ss : List Standing) (q : Path) → list_any (eq_by_cmp path_cmp q) (map (λ (s : Standing). s.path) (filter (λ (s : Standing). s.is_bridge) ss)) ≡ has_bridge ss q
bridge_is [] q = refl
bridge_is (s ∷ ss) q = grind (arith, same_is, bridge_is ss q)

pub are_sets : (ss : List Standing) (all bridges : BTreeSet Path) → IsFromIterResult path_cmp (map (λ (s : Standing). s.path) ss) all
    → IsFromIterResult path_cmp (map (λ (s : Standing). s.path) (filter (λ (s : Standing). s.is_bridge) ss)) bridges → AreSetsOf ss all bridges
are_sets ss all bridges a b = record {
  has_path_is = λ q. a.0 q ∙ member_is ss q;
  has_bridge_is = λ q. b.0 q ∙ bridge_is ss q;
}
