-- A scan meets the functions in path order, and gives bus numbers in it.
use Rattle.std.{proofs.{lemmas.{Grind.common_steps, Bool.{Decides.nat_tests, false_from_ne_true, or_right}, List.Sums.sum_by-cons}, Common.{◌≡◌, ℕ, ◌+◌, ◌<◌, inl, inr, Bool, true, false, ◌&&◌, ◌||◌, cond, List, [], ◌∷◌, ◌++◌, append_assoc, length, zero-add, refl, sym, ap, ap₂, ◌∙◌, subst, arith, rules}}, specs.Prelude.{filter, count_by, IsTrue}}
use Rattle.lists.{specs.Elements.{Each, EachPair, IsIn}, proofs.{Members.{each_in, any_in, none_pass, filter_same}, Tests.{same_test, and_true}}}
use Rattle.model_board.{specs.{Paths.{Path, path_eq, path_before, is_ancestor_of, devfn_count, IsPath}, Board.{Board, Row, is_bridge, is_bridge_at, stands_at, IsBoard}}, proofs.{PathOrder.{one, exclusive, part_same, path_same, part_self}, PathEnds.{path_self, length_snoc, not_before_itself, leads_longer, snoc_some}, BusNumbers.{bridges, bridges-cons, at, counted, counted_once}}}
use Rattle.model_set_up.{specs.{Scanning.{no_numbers, board_numbers, open_numbers}, ScanOrder.{nth_part, on, next_devfn_to_probe, met, MeetsInPathOrder, GivesNumbersInPathOrder, ScanMeetsInPathOrder, ScanGivesNumbersInPathOrder}}, proofs.{Partings.{one_row, bridge_at, bridge_above}, Scanning.goes_before, ScanParts.{before_first, before_last, before_later, leads_place, is_between, none_passed, row_path}}}

-- ---- filters

filter_all : {A : Type 0} (p : A → Bool) (xs : List A) → ((x : A) → IsIn x xs → p x ≡ true) → filter p xs ≡ xs
filter_all p [] h = refl
filter_all p (x ∷ xs) h = let here : p x ≡ true = h x (inl refl) in rw here (ap (λ ys. x ∷ ys) (filter_all p xs (λ y m. h y (inr m))))

-- where a test passes what stands before x, another that passes x too adds x
filter_adds : {A : Type 0} (p q : A → Bool) (R : A → A → Type 0) (x : A) (xs : List A) → EachPair R xs → ((y : A) → R y x → (p y ≡ true) × (q y ≡ true)) → ((y : A) → R x y → (p y ≡ false) × (q y ≡ false))
    → p x ≡ false → q x ≡ true → IsIn x xs → filter q xs ≡ filter p xs ++ x ∷ []
filter_adds p q R x [] h before after fails passes m = absurd m
filter_adds {A} p q R x (y ∷ ys) h before after fails passes (inl e) = search (rules, each_in, none_pass)
filter_adds p q R x (y ∷ ys) h before after fails passes (inr m) = grind (arith, each_in, filter_adds p q R x ys h.1 before after fails passes m)

or_false : (s t : Bool) → t ≡ false → (s || t) ≡ s
or_false s t h = grind arith

module _ (b : Board) (lawful : IsBoard b) where
  -- ---- functions

  -- the functions before a part are those before a function, and that one
  met_adds : (r : Row) → IsIn r b → (here : Path) → ((y : Row) → IsIn y b → path_before y.path here ≡ (path_before y.path r.path || path_eq y.path r.path)) → met b here ≡ met b r.path ++ r ∷ []
  met_adds r m here h =
      filter_same (λ y. path_before y.path here) (λ y. path_before y.path r.path || path_eq y.path r.path) b h
      ∙ filter_adds (λ y. path_before y.path r.path) (λ y. path_before y.path r.path || path_eq y.path r.path) (λ y z. IsTrue (path_before y.path z.path)) r b lawful.in_order
      (λ y k. (k, rw k)) (λ y k. (not_back y k, rw (not_back y k) (not_same y k)))
      (false_from_ne_true (path_before r.path r.path) (not_before_itself r.path)) (or_right (path_before r.path r.path) (path_eq r.path r.path) (path_self r.path)) m
    where
      not_back : (y : Row) → path_before r.path y.path ≡ true → path_before y.path r.path ≡ false
      not_back y k = false_from_ne_true (path_before y.path r.path) (λ l. not_before_itself r.path (goes_before r.path y.path r.path k l))

      not_same : (y : Row) → path_before r.path y.path ≡ true → path_eq y.path r.path ≡ false
      not_same y k = false_from_ne_true (path_eq y.path r.path) (λ e. not_before_itself r.path (subst (λ (x : Path). path_before r.path x ≡ true) (path_same y.path r.path e) k))

  met_same : (from to : Path) → ((y : Row) → IsIn y b → path_before y.path to ≡ path_before y.path from) → met b to ≡ met b from
  met_same from to h = filter_same (λ y. path_before y.path to) (λ y. path_before y.path from) b h

  not_none : (y : Row) → IsIn y b → (path_before y.path [] || path_eq y.path []) ≡ false
  not_none y m = by_path y.path (row_path b lawful y m).some
    where
      by_path : (x : Path) → 0 < length x → (path_before x [] || path_eq x []) ≡ false
      by_path [] h = absurd (omega arith)
      by_path (u ∷ x) h = refl

  some_before_end : (x : Path) → (path_before x [] || path_eq x [] || is_ancestor_of [] x) ≡ true
  some_before_end x = grind arith

  -- ---- parts of a bus

  next_later : (bus : Path) (n : ℕ) → n < next_devfn_to_probe b bus n
  next_later bus n = search rules

  before_next : (bus : Path) (n : ℕ) (y : Row) → IsIn y b → path_before y.path (on bus (next_devfn_to_probe b bus n)) ≡ (path_before y.path (on bus n) || is_between bus n (next_devfn_to_probe b bus n) y.path)
  before_next bus n y m = before_later y.path bus n (next_devfn_to_probe b bus n) (omega (arith, next_later bus n)) (row_path b lawful y m).parts

  -- what stands at a part or behind it is within that part and the next
  self_within : (bus : Path) (n m : ℕ) → n < m → (rest : Path) → is_between bus n m (bus ++ nth_part n ∷ rest) ≡ true
  self_within [] n m h rest = search (rules, nat_tests)
  self_within (a ∷ bus) n m h rest = rw (part_self a) (self_within bus n m h rest)

  -- what is at a path or behind it goes on from there
  goes_on : (p x : Path) → (path_eq x p || is_ancestor_of p x) ≡ true → (rest : Path) × (x ≡ p ++ rest)
  goes_on [] x h = grind arith
  goes_on (a ∷ p) [] h = cc
  goes_on (a ∷ p) (u ∷ x) h = search (rules, nat_tests, part_same, goes_on p x)

  -- the functions that are met from a part to the next are those at it and behind it
  passed : (bus : Path) (n : ℕ) (y : Row) → IsIn y b → is_between bus n (next_devfn_to_probe b bus n) y.path ≡ (path_eq y.path (on bus n) || is_ancestor_of (on bus n) y.path)
  passed bus n y m = search (rules, same_test, none_passed, or_right, goes_on, append_assoc, self_within, next_later)

  -- nothing stands behind what is no bridge
  none_behind : (p : Path) → 0 < length p → is_bridge_at b p ≡ false → (y : Row) → IsIn y b → is_ancestor_of p y.path ≡ false
  none_behind p some h y m = search (rules, false_from_ne_true, bridge_above, any_in, path_self)

  -- a row at a path where no bridge stands is no bridge
  met_next : (bus : Path) (n : ℕ) → is_bridge_at b (on bus n) ≡ false → (y : Row) → IsIn y b → path_before y.path (on bus (next_devfn_to_probe b bus n)) ≡ (path_before y.path (on bus n) || path_eq y.path (on bus n))
  met_next bus n h y m = grind (arith, before_next, passed, none_behind, snoc_some, or_false)

  pub no_bridge_here : (r : Row) → IsIn r b → is_bridge r.decl ≡ false → is_bridge_at b r.path ≡ false
  no_bridge_here r m h = search (rules, false_from_ne_true, bridge_at, one_row)

  pub no_bridge_none : (p : Path) → stands_at b p ≡ false → is_bridge_at b p ≡ false
  no_bridge_none p h = search (rules, false_from_ne_true, bridge_at, any_in, path_self)

  none_there : (p : Path) → stands_at b p ≡ false → (y : Row) → IsIn y b → path_eq y.path p ≡ false
  none_there p h y m = false_from_ne_true (path_eq y.path p) (λ e. let bad : true ≡ false = sym (any_in (λ (r : Row). path_eq r.path p) y b m e) ∙ h in cc)

  -- ---- the functions in order

  meets : MeetsInPathOrder b
  meets = record {
    first = none_pass (λ y. path_before y.path (on [] 0)) b (λ y m. before_first y.path [] ∙ not_none y m);
    last = filter_all (λ y. path_before y.path (on [] devfn_count)) b (λ y m. before_last y.path [] (row_path b lawful y m).parts ∙ some_before_end y.path);
    behind = λ r m. met_adds r m (on r.path 0) (λ y k. before_first y.path r.path);
    endpoint = λ bus n r m e h.
        subst (λ (x : Path). met b (on bus (next_devfn_to_probe b bus n)) ≡ met b x ++ r ∷ []) e
        (met_adds r m (on bus (next_devfn_to_probe b bus n))
        (λ y k. subst (λ (x : Path). path_before y.path (on bus (next_devfn_to_probe b bus n)) ≡ (path_before y.path x || path_eq y.path x)) (sym e)
        (met_next bus n (subst (λ (x : Path). is_bridge_at b x ≡ false) e (no_bridge_here r m h)) y k)));
    none = λ bus n h. met_same (on bus n) (on bus (next_devfn_to_probe b bus n))
        (λ y m. met_next bus n (no_bridge_none (on bus n) h) y m ∙ or_false (path_before y.path (on bus n)) (path_eq y.path (on bus n)) (none_there (on bus n) h y m));
    back = λ bus n h. met_same (on (on bus n) devfn_count) (on bus (next_devfn_to_probe b bus n))
        (λ y m. before_next bus n y m ∙ ap (λ t. path_before y.path (on bus n) || t) (passed bus n y m)
        ∙ sym (or_assoc (path_before y.path (on bus n)) (path_eq y.path (on bus n)) (is_ancestor_of (on bus n) y.path)) ∙ sym (before_last y.path (on bus n) (row_path b lawful y m).parts));
  }
    where
      or_assoc : (s t u : Bool) → (s || t || u) ≡ (s || (t || u))
      or_assoc s t u = grind arith

  -- ---- bus numbers in order

  -- what is said of the paths of the rows is said of the bridges' paths
  at_bridge : (P : Path → Type 0) → ((y : Row) → IsIn y b → P y.path) → (q : Path) → is_bridge_at b q ≡ true → P q
  at_bridge P h q there = grind (arith, bridge_at)

  counted_met : (here : Path) (bs : Board) → count_by (λ r. is_bridge r.decl && path_before r.path here) bs ≡ count_by (λ r. is_bridge r.decl) (met bs here)
  counted_met here [] = refl
  counted_met here (r ∷ bs) = grind (arith, nat_tests, common_steps, bridges-cons, bridges, one, and_true, sum_by-cons, zero-add, counted_met here bs)

  -- the bridges before the end of a bus are those before its bridge, that bridge, and those behind it
  counted_last : (p : Path) (bs : Board) → Each (λ r. IsPath r.path) bs → bridges (λ x. path_before x (on p devfn_count)) bs ≡ bridges (λ x. path_before x p) bs + bridges (at p) bs + bridges (λ x. is_ancestor_of p x) bs
  counted_last p [] h = refl
  counted_last p (r ∷ bs) h = grind (arith, nat_tests, common_steps, exclusive, one, before_last, bridges-cons, at, counted_last p bs h.1)

  some_path : (q : Path) → is_bridge_at b q ≡ true → (path_before q [] || path_eq q []) ≡ false
  some_path q h = at_bridge (λ x. (path_before x [] || path_eq x []) ≡ false) not_none q h

  none_leads : (q : Path) → is_bridge_at b q ≡ true → (is_ancestor_of q [] || path_eq q []) ≡ false
  none_leads q h = at_bridge (λ x. (is_ancestor_of x [] || path_eq x []) ≡ false) (λ y m. by_path y.path (row_path b lawful y m).some) q h
    where
      by_path : (x : Path) → 0 < length x → (is_ancestor_of x [] || path_eq x []) ≡ false
      by_path [] h = absurd (omega arith)
      by_path (u ∷ x) h = refl

  -- a bridge does not lead to the bus above it
  not_above : (bus : Path) (n : ℕ) (q : Path) → path_eq q (on bus n) ≡ true → (is_ancestor_of q bus || path_eq q bus) ≡ false
  not_above bus n q h = grind (arith, nat_tests, common_steps, false_from_ne_true, path_same, leads_longer, length_snoc)

  behind_cases : {A : Type 0} (o m z : A) (l e t : Bool) → cond (l || e) o (cond (t || e) m z) ≡ cond e o (cond l o (cond t m z))
  behind_cases o m z l e t = grind arith

  back_cases : {A : Type 0} (o m z : A) (l e d t : Bool) → (e ≡ true → l ≡ false) → cond l o (cond (t || (e || d)) m z) ≡ cond e m (cond (l || e) o (cond (t || e || d) m z))
  back_cases o m z l e d t h = grind arith

  gives_numbers : GivesNumbersInPathOrder b
  gives_numbers = record {
    next_number = λ here. ap (λ n. 1 + n) (counted_met here b);
    last_number = λ p h. omega (arith, counted_last p b lawful.paths, counted b p h, counted_once b p lawful.in_order);
    first = λ q h. rw (leads_place q [] (nth_part 0) ∙ none_leads q h, before_first q [] ∙ some_path q h);
    last = λ q h. rw (leads_place q [] (nth_part devfn_count) ∙ none_leads q h, at_bridge (λ x. path_before x (on [] devfn_count) ≡ true) (λ y m. before_last y.path [] (row_path b lawful y m).parts ∙ some_before_end y.path) q h);
    behind = λ p q.
        ap₂ (λ s t. cond s (open_numbers b q) (cond t (board_numbers b q) no_numbers)) (leads_place q p (nth_part 0)) (before_first q p)
        ∙ behind_cases (open_numbers b q) (board_numbers b q) no_numbers (is_ancestor_of q p) (path_eq q p) (path_before q p);
    no_bridge = λ bus n h q there.
        ap₂ (λ s t. cond s (open_numbers b q) (cond t (board_numbers b q) no_numbers)) (leads_place q bus (nth_part (next_devfn_to_probe b bus n)) ∙ sym (leads_place q bus (nth_part n))) (same_before bus n h q there);
    back = λ bus n h q there.
        ap₂ (λ s t. cond s (open_numbers b q) (cond t (board_numbers b q) no_numbers)) (leads_place q bus (nth_part (next_devfn_to_probe b bus n)))
        (at_bridge (λ x. path_before x (on bus (next_devfn_to_probe b bus n)) ≡ (path_before x (on bus n) || (path_eq x (on bus n) || is_ancestor_of (on bus n) x))) (λ y m. before_next bus n y m ∙ ap (λ t. path_before y.path (on bus n) || t) (passed bus n y m)) q there)
        ∙ back_cases (open_numbers b q) (board_numbers b q) no_numbers (is_ancestor_of q bus || path_eq q bus) (path_eq q (on bus n)) (is_ancestor_of (on bus n) q) (path_before q (on bus n)) (not_above bus n q)
        ∙ ap (λ v. cond (path_eq q (on bus n)) (board_numbers b q) v) (sym (ap₂ (λ s t. cond s (open_numbers b q) (cond t (board_numbers b q) no_numbers))
        (leads_place q (on bus n) (nth_part devfn_count) ∙ ap (λ t. t || path_eq q (on bus n)) (leads_place q bus (nth_part n)))
        (at_bridge (λ x. path_before x (on (on bus n) devfn_count) ≡ (path_before x (on bus n) || path_eq x (on bus n) || is_ancestor_of (on bus n) x)) (λ y m. before_last y.path (on bus n) (row_path b lawful y m).parts) q there)));
  }
    where
      not_itself : (bus : Path) (n : ℕ) → is_bridge_at b (on bus n) ≡ false → (q : Path) → is_bridge_at b q ≡ true → path_eq q (on bus n) ≡ false
      not_itself bus n h q there = false_from_ne_true (path_eq q (on bus n)) (λ e. let bad : true ≡ false = sym there ∙ ap (is_bridge_at b) (path_same q (on bus n) e) ∙ h in cc)

      same_before : (bus : Path) (n : ℕ) → is_bridge_at b (on bus n) ≡ false → (q : Path) → is_bridge_at b q ≡ true → path_before q (on bus (next_devfn_to_probe b bus n)) ≡ path_before q (on bus n)
      same_before bus n h q there =
          at_bridge (λ x. path_before x (on bus (next_devfn_to_probe b bus n)) ≡ (path_before x (on bus n) || path_eq x (on bus n))) (met_next bus n h) q there
          ∙ or_false (path_before q (on bus n)) (path_eq q (on bus n)) (not_itself bus n h q there)

pub scan_meets : ScanMeetsInPathOrder
scan_meets b lawful = meets b lawful

pub scan_gives_numbers : ScanGivesNumbersInPathOrder
scan_gives_numbers b lawful = gives_numbers b lawful
