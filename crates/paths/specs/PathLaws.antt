-- Laws of path comparisons, and how path order relates to `Ordering`.
--     paths_equal      path_eq is an equivalence
--     paths_ordered      path_cmp is a total order
--     paths_tied      path_eq holds if and only if path_cmp returns Equal
--     paths_before      path_before holds if and only if path_cmp returns Less
use Rattle.paths.specs.PathOrders.{part_cmp, path_cmp}
use Rattle.std.{proofs.{Common.{◌≡◌, Ordering, Less, Equal, Greater, true, ◌&&◌, ◌||◌, [], ◌∷◌, refl, sym, ap, ap₂, ◌∙◌, arith, rules}, lemmas.Bool.Decides.nat_tests}, specs.{Ordering.{is_lt, is_eq, ordering_then}, Cmp.{IsEquivalence, IsTotalOrder, Lexicographic.lists_total, Rules.comparing}}}
use Rattle.model_board.{specs.Paths.{Part, Path, part_eq, part_before, path_eq, path_before}, proofs.{PathOrder.path_same, PathEnds.path_eq-sym}}

part_itself : (p : Part) → part_eq p p ≡ true
part_itself p = grind (arith, nat_tests)

itself : (p : Path) → path_eq p p ≡ true
itself [] = refl
itself (p ∷ ps) = ap₂ ◌&&◌ (part_itself p) (itself ps)

pub paths_equal : IsEquivalence path_eq
paths_equal = record {
  refl = itself;
  symm = path_eq-sym;
  congr = λ p q r e. ap (λ x. path_eq x r) (path_same p q e);
}

parts_ordered : IsTotalOrder part_cmp
parts_ordered = search (comparing, rules)

pub paths_ordered : IsTotalOrder path_cmp
paths_ordered = lists_total parts_ordered

pub part_equal : (p q : Part) → is_eq (part_cmp p q) ≡ part_eq p q
part_equal p q = grind (arith, nat_tests)

pub part_less : (p q : Part) → is_lt (part_cmp p q) ≡ part_before p q
part_less p q = grind (arith, nat_tests)

then_equal : (r s : Ordering) → is_eq (ordering_then r s) ≡ is_eq r && is_eq s
then_equal Less s = refl
then_equal Equal s = refl
then_equal Greater s = refl

then_less : (r s : Ordering) → is_lt (ordering_then r s) ≡ is_lt r || (is_eq r && is_lt s)
then_less Less s = refl
then_less Equal s = refl
then_less Greater s = refl

-- paths are equal if and only if they compare as Equal
pub paths_tied : (p q : Path) → path_eq p q ≡ is_eq (path_cmp p q)
paths_tied [] [] = refl
paths_tied [] (q ∷ qs) = refl
paths_tied (p ∷ ps) [] = refl
paths_tied (p ∷ ps) (q ∷ qs) =
    ap₂ ◌&&◌ (sym (part_equal p q)) (paths_tied ps qs) ∙ sym (then_equal (part_cmp p q) (path_cmp ps qs))

-- Less means that a path comes before another
pub paths_before : (p q : Path) → is_lt (path_cmp p q) ≡ path_before p q
paths_before [] [] = refl
paths_before [] (q ∷ qs) = refl
paths_before (p ∷ ps) [] = refl
paths_before (p ∷ ps) (q ∷ qs) =
    then_less (part_cmp p q) (path_cmp ps qs)
    ∙ ap₂ ◌||◌ (part_less p q) (ap₂ ◌&&◌ (part_equal p q) (paths_before ps qs))
