-- The rows of the functions that a scan has met.
use Rattle.model_board.{proofs.{PlacesLaw.before_apart, PathOrder.one, PathEnds.path_eq-sym}, specs.{Paths.{Path, path_eq, path_before}, Board.{Board, Row, is_bridge, is_bridge_at, IsBoard}}}
use Rattle.std.{proofs.{Common.{◌≡◌, ℕ, ◌+◌, inr, Bool, true, false, cond, List, [], ◌∷◌, ◌++◌, length, map, refl, sym, ap, ap₂, ◌∙◌, subst, arith}, lemmas.List.{map-append, length-map, Sums.sum_by-cons}, Math.{ListN.set, Seq.set-append_seam}}, specs.Prelude.{IsTrue, count_by}}
use Rattle.lists.{specs.Elements.{Each, EachPair, IsIn}, proofs.{Members.{each_in, from_filter, none_pass, in_back}, EachLemmas.{pairs_filter, pairs_after}}}
use Rattle.model_set_up.{specs.{FunctionTable.TableRow, ScanOrder.met}, proofs.Scanning.goes_before}
use Rattle.bus_scan.{specs.Scans.{met_row, StandsAt}, proofs.States.{Numbers, map_same, bridge_there}}

-- ---- counts

pub count_more : (p : Row → Bool) (xs : Board) (x : Row) → count_by p (xs ++ x ∷ []) ≡ count_by p xs + one (p x)
count_more p [] x = omega (arith, sum_by-cons (λ (s : Row). one (p s)) x [])
count_more p (y ∷ xs) x = omega (arith, sum_by-cons (λ (s : Row). one (p s)) y (xs ++ x ∷ []), sum_by-cons (λ (s : Row). one (p s)) y xs, count_more p xs x)

-- ---- rows

pub row_same : (b : Board) (n m : Numbers) (r : Row) → (is_bridge r.decl ≡ true → n r.path ≡ m r.path) → met_row b n r ≡ met_row b m r
row_same b n m r h = grind arith

-- only the numbers of bridges that were met count
pub rows_same : (b : Board) (here : Path) (n m : Numbers) → ((r : Row) → IsIn r b → path_before r.path here ≡ true → is_bridge r.decl ≡ true → n r.path ≡ m r.path) → map (met_row b n) (met b here) ≡ map (met_row b m) (met b here)
rows_same b here n m h = grind (arith, map_same, from_filter, row_same)

-- one more
pub rows_more : (b : Board) (p there : Path) (n m : Numbers) (r : Row) → met b there ≡ met b p ++ r ∷ [] → ((s : Row) → IsIn s b → path_before s.path p ≡ true → is_bridge s.decl ≡ true → n s.path ≡ m s.path)
    → (rows : List TableRow) → rows ≡ map (met_row b n) (met b p) → rows ++ met_row b m r ∷ [] ≡ map (met_row b m) (met b there)
rows_more b p there n m r more h rows is = grind (arith, rows_same, map-append)

-- ---- functions that are met later come later in the list

module _ (b : Board) where
  grows_from : (bs : Board) → EachPair (λ (r s : Row). IsTrue (path_before r.path s.path)) bs → (here there : Path) → path_before here there ≡ true → (rest : Board) × (met bs there ≡ met bs here ++ rest)
  grows_from [] h here there before = ([], refl)
  grows_from (r ∷ bs) h here there before = by_test (path_before r.path here) refl (grows_from bs h.1 here there before)
    where
      none_later : path_before r.path here ≡ false → met bs here ≡ []
      none_later e = grind (arith, none_pass, goes_before, each_in)

      by_test : (t : Bool) → path_before r.path here ≡ t → (rest : Board) × (met bs there ≡ met bs here ++ rest) → (rest : Board) × (met (r ∷ bs) there ≡ cond t (r ∷ met bs here) (met bs here) ++ rest)
      by_test true e more = grind (arith, goes_before)
      by_test false e more = let none : met bs here ≡ [] = none_later e in (met (r ∷ bs) there, rw none refl)

pub met_grows : (b : Board) → IsBoard b → (here there : Path) → path_before here there ≡ true → (rest : Board) × (met b there ≡ met b here ++ rest)
met_grows b lawful here there before = grows_from b b lawful.in_order here there before

-- the row of a bridge is filled in
pub row_filled : (b : Board) → IsBoard b → (p there : Path) (r : Row) → StandsAt b p r → (rest : Board) → met b there ≡ met b p ++ r ∷ rest → (n m : Numbers)
    → ((q : Path) → path_eq q p ≡ false → is_bridge_at b q ≡ true → n q ≡ m q) → set (map (met_row b n) (met b there)) (length (met b p)) (met_row b m r) ≡ map (met_row b m) (met b there)
row_filled b lawful p there r is rest splits n m h =
    ap₂ (λ (xs : List TableRow) (i : ℕ). set xs i (met_row b m r)) (ap (map (met_row b n)) splits ∙ map-append (met_row b n) (met b p) (r ∷ rest)) (sym (length-map (met b p) (met_row b n)))
    ∙ set-append_seam (map (met_row b n) (met b p)) (met_row b n r) (map (met_row b n) rest) (met_row b m r)
    ∙ ap₂ (λ (xs ys : List TableRow). xs ++ met_row b m r ∷ ys) (rows_same b p n m (λ s k before is. h s.path (before_apart s.path p before) (bridge_there b s k is))) later_same
    ∙ sym (map-append (met_row b m) (met b p) (r ∷ rest))
    ∙ sym (ap (map (met_row b m)) splits)
  where
    in_there : (s : Row) → IsIn s rest → IsIn s b
    in_there s k = (from_filter (λ (s : Row). path_before s.path there) s b (subst (λ (xs : Board). IsIn s xs) (sym splits) (in_back s (met b p) (r ∷ rest) (inr k)))).0

    later : Each (λ (s : Row). IsTrue (path_before r.path s.path)) rest
    later = pairs_after (λ (x y : Row). IsTrue (path_before x.path y.path)) (met b p) r rest (subst (λ (xs : Board). EachPair (λ (x y : Row). IsTrue (path_before x.path y.path)) xs) splits (pairs_filter (λ (x y : Row). IsTrue (path_before x.path y.path)) (λ (s : Row). path_before s.path there) b lawful.in_order))

    not_after : (s : Row) → IsIn s rest → path_eq s.path p ≡ false
    not_after s k = grind (arith, each_in, later, path_eq-sym, before_apart)

    later_same : map (met_row b n) rest ≡ map (met_row b m) rest
    later_same = map_same (met_row b n) (met_row b m) rest (λ s k. row_same b n m s (λ is. h s.path (not_after s k) (bridge_there b s (in_there s k) is)))
