-- Which devices have more functions than function 0, told by the paths of their functions 0.
use Rattle.std.{proofs.{Common.{◌≡◌, ◌<◌, inl, inr, Bool, true, false, not, ◌&&◌, ◌||◌, List, [], ◌∷◌, length, map, refl, sym, ap, ap₂, ◌∙◌, arith}, lemmas.Bool.Decides.nat_tests}, specs.{Prelude.filter, List.list_any, Ordering.eq_by_cmp, BTreeSet.{BTreeSet, IsFromIterResult, contains}}}
use Rattle.lists.{specs.Elements.IsIn, proofs.{Members.{each_in, in_filter, from_filter, any_in, from_any}, Tests.same_test}}
use Rattle.model_board.{specs.{Paths.{Part, Path, path_eq, parent, same_device, function_zero, IsPath}, Board.{Row, Board, IsBoard, is_multifunction, declares_multifunction, has_multifunction_bit, stands_at}}, proofs.{PathOrder.path_same, PathEnds.{path_self, path_eq-sym}, Rows.bit_of_row}}
use Rattle.paths.specs.{PathOrders.path_cmp, PathLaws.paths_tied}
use Rattle.bridge_forward.specs.Devices.{is_nonzero_function, multifunction_device_paths}

-- ---- paths

zero_some : (q : Part) (qs : Path) → path_eq (function_zero (q ∷ qs)) [] ≡ false
zero_some q [] = refl
zero_some q (r ∷ qs) = refl

none_zero : (q : Part) (qs : Path) → path_eq [] (function_zero (q ∷ qs)) ≡ false
none_zero q [] = refl
none_zero q (r ∷ qs) = refl

-- functions of one device have one function 0
zero_is : (p q : Path) → 0 < length p → 0 < length q → path_eq (function_zero p) (function_zero q) ≡ same_device p q
zero_is [] q h k = absurd (omega arith)
zero_is (a ∷ p) [] h k = absurd (omega arith)
zero_is (a ∷ []) (b ∷ []) h k = grind (arith, nat_tests)
zero_is (a ∷ []) (b ∷ c ∷ q) h k = grind (arith, none_zero c q)
zero_is (a ∷ d ∷ p) (b ∷ []) h k = grind (arith, zero_some d p)
zero_is (a ∷ d ∷ p) (b ∷ c ∷ q) h k = let more = zero_is (d ∷ p) (c ∷ q) (omega arith) (omega arith) in grind (arith, more)

-- a function 0 is its device's own
zero_self : (p : Path) → 0 < length p → path_eq (function_zero p) p ≡ not (is_nonzero_function p)
zero_self [] h = absurd (omega arith)
zero_self (a ∷ []) h = grind (arith, nat_tests)
zero_self (a ∷ b ∷ p) h = let more = zero_self (b ∷ p) (omega arith) in grind (arith, more, nat_tests)

zero_again : (p : Path) → 0 < length p → function_zero (function_zero p) ≡ function_zero p
zero_again [] h = absurd (omega arith)
zero_again (a ∷ []) h = refl
zero_again (a ∷ b ∷ []) h = refl
zero_again (a ∷ b ∷ c ∷ p) h = ap (λ (q : Path). a ∷ q) (zero_again (b ∷ c ∷ p) (omega arith))

own_device : (p : Path) → same_device p p ≡ true
own_device p = rw (path_self (parent p)) (grind (arith, nat_tests))

-- two functions 0 of one device are one
one_zero : (p q : Path) → 0 < length p → 0 < length q → same_device p q ≡ true → is_nonzero_function p ≡ false → is_nonzero_function q ≡ false → path_eq p q ≡ true
one_zero p q h k same f g =
    let e = path_same (function_zero p) p (zero_self p h ∙ ap not f) in
    grind (arith, path_same (function_zero q) q (zero_self q k ∙ ap not g), zero_self q k, zero_is p q h k)

-- ---- the functions of a board

module _ (b : Board) (board : IsBoard b) where
  some : (r : Row) → IsIn r b → 0 < length r.path
  some r m = (each_in (λ (s : Row). IsPath s.path) r b board.paths m).some

  abbrev in_set : Path → Bool
  in_set p = list_any (λ (r : Row). path_eq (function_zero p) (function_zero r.path)) (filter (λ (r : Row). is_nonzero_function r.path) b)

  abbrev other : Path → Row → Bool
  other p r = same_device r.path p && not (path_eq r.path p)

  abbrev zero_of : Path → Row → Bool
  zero_of p r = path_eq r.path (function_zero p)

  module _ (s : Row) (m : IsIn s b) where
    further_in : (r : Row) → IsIn r b → is_nonzero_function r.path ≡ true → same_device r.path s.path ≡ true → in_set s.path ≡ true
    further_in r k f same = grind (arith, any_in, in_filter, path_eq-sym, zero_is, some)

    other_in : (r : Row) → IsIn r b → same_device r.path s.path ≡ true → path_eq r.path s.path ≡ false → is_multifunction b s.path ≡ true
    other_in r k same e = any_in (other s.path) r b k (rw (same, e) refl)

    -- of another function of the device and the function itself, one is no function 0
    to_set : (r : Row) → IsIn r b → other s.path r ≡ true → in_set s.path ≡ true
    to_set r k h = grind (arith, further_in r k, further_in s m, own_device s.path, one_zero r.path s.path (some r k) (some s m))

    -- a function that is no function 0 has one beside it
    zero_beside : is_nonzero_function s.path ≡ true → (z : Row) × IsIn z b × (zero_of s.path z ≡ true) → is_multifunction b s.path ≡ true
    zero_beside f (z, k, e) =
        let at = path_same z.path (function_zero s.path) e in
        grind (arith, zero_again, some, other_in, zero_is, path_self, zero_self)

    from_set : (r : Row) × IsIn r (filter (λ (t : Row). is_nonzero_function t.path) b) × (path_eq (function_zero s.path) (function_zero r.path) ≡ true) → is_multifunction b s.path ≡ true
    from_set (r, k, e) =
        let (there, f) = from_filter (λ (t : Row). is_nonzero_function t.path) r b k in
        let same = sym (zero_is r.path s.path (some r there) (some s m)) ∙ path_eq-sym (function_zero r.path) (function_zero s.path) ∙ e in
        let beside = λ (g : is_nonzero_function s.path ≡ true). zero_beside g (from_any (zero_of s.path) b (each_in (λ (t : Row). stands_at b (function_zero t.path) ≡ true) s b board.function_zeros m)) in
        by_place (path_eq r.path s.path) refl beside there f same
      where
        by_place : (t : Bool) → path_eq r.path s.path ≡ t → (is_nonzero_function s.path ≡ true → is_multifunction b s.path ≡ true) → IsIn r b → is_nonzero_function r.path ≡ true → same_device r.path s.path ≡ true → is_multifunction b s.path ≡ true
        by_place true h beside there f same = beside (sym (ap is_nonzero_function (path_same r.path s.path h)) ∙ f)
        by_place false h beside there f same = other_in r there same h

    pub told_by_set : in_set s.path ≡ is_multifunction b s.path
    told_by_set = grind (arith, same_test, from_set, from_any, to_set)

-- ---- the set

equal_is : (q : Path) (rs : List Row) → list_any (eq_by_cmp path_cmp q) (map (λ (r : Row). function_zero r.path) rs) ≡ list_any (λ (r : Row). path_eq q (function_zero r.path)) rs
equal_is q [] = refl
equal_is q (r ∷ rs) = ap₂ ◌||◌ (sym (paths_tied q (function_zero r.path))) (equal_is q rs)

map_same : {A B : Type 0} (f g : A → B) (xs : List A) → ((x : A) → IsIn x xs → f x ≡ g x) → map f xs ≡ map g xs
map_same f g [] h = refl
map_same f g (x ∷ xs) h = ap₂ (λ y ys. y ∷ ys) (h x (inl refl)) (map_same f g xs (λ y m. h y (inr m)))

-- bit 7 of the header type, by the set
bit_by_set : (b : Board) → IsBoard b → (set : BTreeSet Path) → IsFromIterResult path_cmp (multifunction_device_paths b) set → (r : Row) → IsIn r b
    → (contains path_cmp set (function_zero r.path) && (not (is_nonzero_function r.path) || declares_multifunction r.decl)) ≡ has_multifunction_bit b r.path
bit_by_set b board set h r m = grind (arith, equal_is, told_by_set b board r m, bit_of_row b board r m)

pub bits_are : (b : Board) (set : BTreeSet Path) → IsBoard b → IsFromIterResult path_cmp (multifunction_device_paths b) set
    → map (λ (r : Row). contains path_cmp set (function_zero r.path) && (not (is_nonzero_function r.path) || declares_multifunction r.decl)) b
    ≡ map (λ (r : Row). has_multifunction_bit b r.path) b
bits_are b set board h =
    map_same (λ (r : Row). contains path_cmp set (function_zero r.path) && (not (is_nonzero_function r.path) || declares_multifunction r.decl)) (λ (r : Row). has_multifunction_bit b r.path) b
    (bit_by_set b board set h)
