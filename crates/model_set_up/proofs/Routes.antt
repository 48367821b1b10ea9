-- Configuration cycles reach the function that the bus numbers name.
--     Names      a bridge's registers cover a bus number exactly where the board's numbers do
--     reached_by_names      where all bridges do so for the number of a bus, a cycle reaches the function that stands there, or none
use Rattle.std.{proofs.{Common.{◌≡◌, ℕ, ◌≤◌, ◌<◌, ◌⊎◌, inl, inr, Bool, true, false, not, ◌&&◌, cond, List, [], ◌∷◌, ◌++◌, length, Option, Some, None, refl, sym, ap, ap₂, ◌∙◌, subst, arith, eqb, leb, append_assoc, rules, find}, lemmas.Bool.{Decides.nat_tests, leb-true, and_from, le-leb, eqb-true}}, specs.{Prelude.{find, map, IsTrue}, List.list_any, Option.option_map_or}}
use Rattle.lists.{specs.Elements.{Each, IsIn}, proofs.{Tests.{left_true, right_true, same_test}, EachLemmas.each_map, FirstFound.{found_passes, each_found, found}, Members.{each_in, in_map, from_map, any_in, from_any}}}
use Rattle.model_board.{specs.{Board.{Board, Row, is_bridge, is_bridge_at, IsBoard}, Paths.{Part, Path, part_eq, path_eq, is_ancestor_of, parent, last_part, IsPath}, BusNumbers.{secondary, subordinate, bus_behind, bus_of}, State.{BoardFunction, row_at}, Cycles.{is_route, takes, taker, covers, ends_in, secondary_register, subordinate_register, reached, reached_type0}}, proofs.{PathOrder.{part_same, path_same, part_self}, PathEnds.{path_self, snoc, parent_snoc, snoc_some}, PlacesLaw.path_total, BusNumbers.bus_range_equals_bridges_below}}
use Rattle.model_set_up.{specs.Reach.{HasNumbers, ReachedByNumbers, address_of, OnlyNamed}, proofs.Partings.{BridgeAt, bridge_at, bridge_above, leads_down}}
use Rattle.model_registers.proofs.RegisterFiles.{self, below}

-- ---- find

find_same : {A : Type 0} (s t : A → Bool) → ((x : A) → s x ≡ t x) → (xs : List A) → find s xs ≡ find t xs
find_same s t h [] = refl
find_same s t h (x ∷ xs) = ap₂ (λ c o. cond c (Some x) o) (h x) (find_same s t h xs)

-- ---- paths

-- a path that begins as another and is at it or above it names the other's next part
next_leads : (above : Path) (x p : Part) (rest : Path) → is_ancestor_of (above ++ x ∷ []) (above ++ p ∷ rest) ≡ true → part_eq x p ≡ true
next_leads [] x p rest h = left_true (part_eq x p) (is_ancestor_of [] rest) h
next_leads (a ∷ above) x p rest h = next_leads above x p rest (right_true (part_eq a a) (is_ancestor_of (above ++ x ∷ []) (above ++ p ∷ rest)) h)

next_equal : (above : Path) (x p : Part) (rest : Path) → path_eq (above ++ x ∷ []) (above ++ p ∷ rest) ≡ true → part_eq x p ≡ true
next_equal [] x p rest h = left_true (part_eq x p) (path_eq [] rest) h
next_equal (a ∷ above) x p rest h = next_equal above x p rest (right_true (part_eq a a) (path_eq (above ++ x ∷ []) (above ++ p ∷ rest)) h)

positive : (n : ℕ) → 0 < n → eqb n 0 ≡ false
positive n h = grind (arith, nat_tests)

pub ends_last : (p : Path) (q : Part) → ends_in (p ++ q ∷ []) q ≡ true
ends_last [] q = part_self q
ends_last (a ∷ []) q = part_self q
ends_last (a ∷ c ∷ p) q = ends_last (c ∷ p) q

-- ---- at most one route, in any register state

flags : (c e d : Bool) → cond c e (not e) ≡ true → cond c d (not d) ≡ true → e ≡ d
flags c e d h k = grind arith

one_taker : (o : Option BoardFunction) (above : Path) (n : ℕ) (p q : Part) (e d : Bool)
    → option_map_or (λ (f : BoardFunction). path_eq f.path (above ++ p ∷ []) && cond (eqb (secondary_register f.file) n) e (not e)) o false ≡ true
    → option_map_or (λ (f : BoardFunction). path_eq f.path (above ++ q ∷ []) && cond (eqb (secondary_register f.file) n) d (not d)) o false ≡ true
    → (p ≡ q) × (e ≡ d)
one_taker None above n p q e d h k = cc
one_taker (Some f) above n p q e d h k =
    grind (arith, path_same f.path (above ++ p ∷ []), left_true (path_eq f.path (above ++ p ∷ [])), part_same, next_equal, flags, right_true)

module _ (fs : List BoardFunction) (n : ℕ) (t : Part) where
  pub one_route : (p q above : Path) → is_route fs n above p ≡ true → is_route fs n above q ≡ true → ends_in p t ≡ true → ends_in q t ≡ true → p ≡ q
  one_route [] q above h k e d = cc
  one_route (a ∷ []) q above h k e d = cc
  one_route (a ∷ c ∷ []) [] above h k e d = cc
  one_route (a ∷ c ∷ []) (x ∷ []) above h k e d = cc
  one_route (a ∷ c ∷ []) (x ∷ y ∷ []) above h k e d =
      grind (arith, one_taker (taker fs above n) above n a x true true h k, part_same c t e, part_same y t d)
  one_route (a ∷ c ∷ []) (x ∷ y ∷ z ∷ q) above h k e d = grind (arith, one_taker, left_true)
  one_route (a ∷ c ∷ b ∷ p) [] above h k e d = cc
  one_route (a ∷ c ∷ b ∷ p) (x ∷ []) above h k e d = cc
  one_route (a ∷ c ∷ b ∷ p) (x ∷ y ∷ []) above h k e d = grind (arith, one_taker, left_true)
  one_route (a ∷ c ∷ b ∷ p) (x ∷ y ∷ z ∷ q) above h k e d =
      let s = one_taker (taker fs above n) above n a x false false (left_true (takes fs above n a false) (is_route fs n (above ++ a ∷ []) (c ∷ b ∷ p)) h) (left_true (takes fs above n x false) (is_route fs n (above ++ x ∷ []) (y ∷ z ∷ q)) k) in
      grind (arith, below, right_true, one_route (c ∷ b ∷ p) (y ∷ z ∷ q) (above ++ a ∷ []))

-- ---- bridges of the board

-- the registers of a bridge cover n exactly where the board's numbers do, and then its Secondary is the board's
pub record Names (b : Board) (n : ℕ) (f : BoardFunction) : Type 0 where
  pub covers_when : secondary b f.path ≤ n → n ≤ subordinate b f.path → covers n f ≡ true
  pub covered : covers n f ≡ true → (secondary b f.path ≤ n) × (n ≤ subordinate b f.path) × (secondary_register f.file ≡ secondary b f.path)

module _ (b : Board) (lawful : IsBoard b) (fs : List BoardFunction) (rows : map row_at fs ≡ b) where
  row_in : (f : BoardFunction) → IsIn f fs → IsIn (row_at f) b
  row_in f m = subst (λ (c : Board). IsIn (row_at f) c) rows (in_map row_at f fs m)

  pub bridge_of : (f : BoardFunction) → IsIn f fs → is_bridge f.decl ≡ true → is_bridge_at b f.path ≡ true
  bridge_of f m k = any_in (λ (r : Row). is_bridge r.decl && path_eq r.path f.path) (row_at f) b (row_in f m) (and_from (is_bridge f.decl) (path_eq f.path f.path) k (path_self f.path))

  pub function_of : (r : Row) → IsIn r b → (f : BoardFunction) × IsIn f fs × (row_at f ≡ r)
  function_of r m = search (rules, from_map)

  module _ (target : Path) (is_target : is_bridge_at b target ≡ true) (names : Each (λ f. IsTrue (is_bridge f.decl) → Names b (secondary b target) f) fs) where
    abbrev goal : ℕ
    goal = secondary b target

    named : (f : BoardFunction) → IsIn f fs → is_bridge f.decl ≡ true → Names b goal f
    named f m k = each_in (λ (g : BoardFunction). IsTrue (is_bridge g.decl) → Names b goal g) f fs names m k

    -- a bridge whose numbers cover the target's is the target or leads to it
    over : (p : Path) → is_bridge_at b p ≡ true → secondary b p ≤ goal → goal ≤ subordinate b p → (path_eq p target ≡ true) ⊎ (is_ancestor_of p target ≡ true)
    over p h low high = grind (arith, bus_range_equals_bridges_below b lawful p target h is_target, path_total p target)

    -- each beginning of the target is a bridge's path
    bridge_on_way : (above : Path) (p : Part) (rest : Path) → target ≡ above ++ p ∷ rest → BridgeAt b lawful (above ++ p ∷ [])
    bridge_on_way above p [] e = bridge_at b lawful (above ++ p ∷ []) (subst (λ (x : Path). is_bridge_at b x ≡ true) e is_target)
    bridge_on_way above p (q ∷ rest) e =
        grind (arith, bridge_at b lawful target is_target, bridge_above b lawful, leads_down above p q rest, snoc_some above p)

    stands_on_way : (above : Path) (p : Part) (rest : Path) → target ≡ above ++ p ∷ rest → (f : BoardFunction) × IsIn f fs × (is_bridge f.decl ≡ true) × (f.path ≡ above ++ p ∷ [])
    stands_on_way above p rest e = search (rules, bridge_on_way, function_of)

    covering : (above : Path) (p : Part) (rest : Path) → target ≡ above ++ p ∷ rest → is_bridge_at b (above ++ p ∷ []) ≡ true
        → (secondary b (above ++ p ∷ []) ≤ goal) × (goal ≤ subordinate b (above ++ p ∷ []))
    covering above p [] e h = subst (λ (x : Path). (secondary b x ≤ goal) × (goal ≤ subordinate b x)) e (omega arith, omega arith)
    covering above p (q ∷ rest) e h = grind (arith, leads_down above p q rest, bus_range_equals_bridges_below b lawful (above ++ p ∷ []) target h is_target)

    abbrev test_on : Path → BoardFunction → Bool
    test_on above f = path_eq (parent f.path) above && covers goal f

    -- the bridge that takes a cycle for the target's bus on the bus above is the next one on the way
    abbrev Taken : Path → Part → Type 0
    Taken above p = (f : BoardFunction) × (taker fs above goal ≡ Some f) × (f.path ≡ above ++ p ∷ []) × (secondary_register f.file ≡ secondary b (above ++ p ∷ []))

    passes : (above : Path) (p : Part) (rest : Path) → target ≡ above ++ p ∷ rest → list_any (test_on above) fs ≡ true
    passes above p rest e =
        let g = stands_on_way above p rest e in
        let h : is_bridge_at b (above ++ p ∷ []) ≡ true = subst (λ (x : Path). is_bridge_at b x ≡ true) g.3 (bridge_of g.0 g.1 g.2) in
        let cover = subst (λ (x : Path). (secondary b x ≤ goal) × (goal ≤ subordinate b x)) (sym g.3) (covering above p rest e h) in
        grind (arith, parent_snoc, path_self, any_in, and_from, named)

    next_part : (above : Path) (x p : Part) (rest : Path) → (path_eq (above ++ x ∷ []) (above ++ p ∷ rest) ≡ true) ⊎ (is_ancestor_of (above ++ x ∷ []) (above ++ p ∷ rest) ≡ true) → x ≡ p
    next_part above x p rest e = grind (arith, part_same, next_equal, next_leads)

    taken : (above : Path) (p : Part) (rest : Path) → target ≡ above ++ p ∷ rest → Taken above p
    taken above p rest e =
        let f = found (test_on above) fs (passes above p rest e) in
        let parent_is : parent f.0.path ≡ above = path_same (parent f.0.path) above (left_true (path_eq (parent f.0.path) above) (covers goal f.0) f.3) in
        let cover : covers goal f.0 ≡ true = right_true (path_eq (parent f.0.path) above) (covers goal f.0) f.3 in
        let low : (is_bridge f.0.decl && leb (secondary_register f.0.file) goal) ≡ true = left_true (is_bridge f.0.decl && leb (secondary_register f.0.file) goal) (leb goal (subordinate_register f.0.file)) cover in
        let bridge_is : is_bridge f.0.decl ≡ true = left_true (is_bridge f.0.decl) (leb (secondary_register f.0.file) goal) low in
        let numbers = (named f.0 f.2 bridge_is).covered cover in
        let path_some : 0 < length f.0.path = (each_in (λ (r : Row). IsPath r.path) (row_at f.0) b lawful.paths (row_in f.0 f.2)).some in
        grind (arith, snoc f.0.path path_some, over f.0.path (bridge_of f.0 f.2 bridge_is) numbers.0 numbers.1, bridge_of f.0 f.2 bridge_is, next_part above (last_part f.0.path) p rest)

    -- ---- the route

    takes_by : (above : Path) (p : Part) (ends : Bool) → (t : Taken above p) → cond (eqb (secondary b (above ++ p ∷ [])) goal) ends (not ends) ≡ true → takes fs above goal p ends ≡ true
    takes_by above p ends (f, e, path_is, number_is) k = grind (arith, path_self)

    moved : (above : Path) (p : Part) (rest : Path) → above ++ p ∷ rest ≡ (above ++ p ∷ []) ++ rest
    moved above p rest = sym (append_assoc above (p ∷ []) rest)

    takes_next : (above : Path) (p q : Part) (rest : Path) → target ≡ above ++ p ∷ q ∷ rest → takes fs above goal p false ≡ true
    takes_next above p q rest e =
        grind (arith, stands_on_way above p (q ∷ rest) e, bridge_of, leads_down above p q rest, below goal (secondary b (above ++ p ∷ [])), bus_range_equals_bridges_below b lawful (above ++ p ∷ []) target, takes_by above p false (taken above p (q ∷ rest) e), taken above p (q ∷ rest) e)

    route : (rs : Path) (p t : Part) (above : Path) → target ≡ above ++ p ∷ rs → is_route fs goal above (p ∷ rs ++ t ∷ []) ≡ true
    route [] p t above e = grind (arith, self, takes_by, taken)
    route (s ∷ rs) p t above e = search (rules, takes_next, moved, and_from, route rs s t (above ++ p ∷ []) (e ∙ moved above p (s ∷ rs)))

    -- a cycle for the target's bus goes to no other place
    only_there : (a : Part) (rs : Path) → target ≡ a ∷ rs → (t : Part) (x : Path) → (ends_in x t && is_route fs goal [] x) ≡ path_eq x (target ++ t ∷ [])
    only_there a rs e t x = same_test (ends_in x t && is_route fs goal [] x) (path_eq x (target ++ t ∷ [])) arrives goes
      where
        way : is_route fs goal [] (target ++ t ∷ []) ≡ true
        way = subst (λ (y : Path). is_route fs goal [] (y ++ t ∷ []) ≡ true) (sym e) (route rs a t [] e)

        arrives : (ends_in x t && is_route fs goal [] x) ≡ true → path_eq x (target ++ t ∷ []) ≡ true
        arrives h = grind (arith, one_route, right_true, way, left_true, ends_last, path_self)

        goes : path_eq x (target ++ t ∷ []) ≡ true → (ends_in x t && is_route fs goal [] x) ≡ true
        goes h =
            subst (λ (y : Path). (ends_in y t && is_route fs goal [] y) ≡ true) (sym (path_same x (target ++ t ∷ []) h))
            (and_from (ends_in (target ++ t ∷ []) t) (is_route fs goal [] (target ++ t ∷ [])) (ends_last target t) way)

-- ---- the function that the numbers name

pub reached_by_names : (b : Board) (lawful : IsBoard b) (fs : List BoardFunction) (rows : map row_at fs ≡ b) (bus : Path) → (bus ≡ []) ⊎ IsTrue (is_bridge_at b bus)
    → Each (λ f. IsTrue (is_bridge f.decl) → Names b (bus_behind b bus) f) fs → (t : Part)
    → reached fs (record { bus = bus_behind b bus; part = t }) ≡ find (λ f. path_eq f.path (bus ++ t ∷ [])) fs
reached_by_names b lawful fs rows [] there names t = refl
reached_by_names b lawful fs rows (a ∷ rs) (inl none) names t = cc
reached_by_names b lawful fs rows (a ∷ rs) (inr there) names t =
    grind (arith, positive (secondary b (a ∷ rs)) (omega arith), find_same, only_there b lawful fs rows (a ∷ rs) there names a rs refl t)

-- a bridge that holds the numbers c and d covers what lies between them
pub covers_between : (n c d : ℕ) (f : BoardFunction) → is_bridge f.decl ≡ true → secondary_register f.file ≡ c → subordinate_register f.file ≡ d → c ≤ n → n ≤ d → covers n f ≡ true
covers_between n c d f k low high h g = grind (arith, and_from, le-leb)

pub between_covers : (n : ℕ) (f : BoardFunction) → covers n f ≡ true → (secondary_register f.file ≤ n) × (n ≤ subordinate_register f.file)
between_covers n f h = search (rules, left_true, leb-true, right_true)

abbrev pub HoldsNumbers : Board → BoardFunction → Type 0
HoldsNumbers b f = (secondary_register f.file ≡ secondary b f.path) × (subordinate_register f.file ≡ subordinate b f.path)

pub names_of : (b : Board) (n : ℕ) (f : BoardFunction) → is_bridge f.decl ≡ true → HoldsNumbers b f → Names b n f
names_of b n f k h = search (rules, covers_between, between_covers)

board_names : (b : Board) (fs : List BoardFunction) → HasNumbers b fs → (n : ℕ) → Each (λ f. IsTrue (is_bridge f.decl) → Names b n f) fs
board_names b fs has n = each_map (λ f. IsTrue (is_bridge f.decl) → HoldsNumbers b f) (λ f. IsTrue (is_bridge f.decl) → Names b n f) fs (λ f h k. names_of b n f k (h k)) has.numbers

pub bdf_reaches_its_function_only : ReachedByNumbers
bdf_reaches_its_function_only b lawful fs has p h =
    let r = from_any (λ (s : Row). path_eq s.path p) b h in
    let at : r.0.path ≡ p = path_same r.0.path p r.2 in
    let some : 0 < length p = subst (λ (x : Path). 0 < length x) at (each_in (λ (s : Row). IsPath s.path) r.0 b lawful.paths r.1).some in
    let split : p ≡ parent p ++ last_part p ∷ [] = snoc p some in
    let bus : (parent p ≡ []) ⊎ IsTrue (is_bridge_at b (parent p)) =
    subst (λ (x : Path). (parent x ≡ []) ⊎ IsTrue (is_bridge_at b (parent x))) at (each_in (λ (s : Row). (parent s.path ≡ []) ⊎ IsTrue (is_bridge_at b (parent s.path))) r.0 b lawful.behind_bridges r.1) in
    let reach : reached fs (address_of b p) ≡ find (λ f. path_eq f.path (parent p ++ last_part p ∷ [])) fs =
    reached_by_names b lawful fs has.rows (parent p) bus (board_names b fs has (bus_behind b (parent p))) (last_part p) in
    let there : (x : BoardFunction) × IsIn x fs × (row_at x ≡ r.0) = function_of b lawful fs has.rows r.0 r.1 in
    let path_is : there.0.path ≡ parent p ++ last_part p ∷ [] = ap (λ (s : Row). s.path) there.2 ∙ at ∙ split in
    let f = found (λ (g : BoardFunction). path_eq g.path (parent p ++ last_part p ∷ [])) fs
    (any_in (λ (g : BoardFunction). path_eq g.path (parent p ++ last_part p ∷ [])) there.0 fs there.1
    (ap (λ (x : Path). path_eq x (parent p ++ last_part p ∷ [])) path_is ∙ path_self (parent p ++ last_part p ∷ []))) in
    (f.0, reach ∙ f.1, path_same f.0.path (parent p ++ last_part p ∷ []) f.3 ∙ sym split)

-- ---- with the board's numbers a cycle reaches no function but the one that its numbers name

pub ends_is_last : (p : Path) (t : Part) → ends_in p t ≡ true → last_part p ≡ t
ends_is_last [] t h = cc
ends_is_last (p ∷ []) t h = part_same p t h
ends_is_last (p ∷ q ∷ ps) t h = ends_is_last (q ∷ ps) t h

pub last_flag : (c : Bool) → cond c true (not true) ≡ true → c ≡ true
last_flag c h = grind arith

pub covers_bridge : (n : ℕ) (f : BoardFunction) → covers n f ≡ true → is_bridge f.decl ≡ true
covers_bridge n f is = grind (arith, left_true)

module _ (b : Board) (fs : List BoardFunction) (has : HasNumbers b fs) (n : ℕ) where
  -- the bridge that leads to bus n itself stands at this path, and n is its number
  last_bridge : (above : Path) (p : Part) → takes fs above n p true ≡ true → secondary b (above ++ p ∷ []) ≡ n
  last_bridge above p h = by_case (taker fs above n) refl h
    where
      by_case : (o : Option BoardFunction) → taker fs above n ≡ o
          → option_map_or (λ (f : BoardFunction). path_eq f.path (above ++ p ∷ []) && cond (eqb (secondary_register f.file) n) true (not true)) o false ≡ true → secondary b (above ++ p ∷ []) ≡ n
      by_case None e k = cc
      by_case (Some f) e k =
          let is : covers n f ≡ true = right_true (path_eq (parent f.path) above) (covers n f) (found_passes (λ g. path_eq (parent g.path) above && covers n g) fs f e) in
          let at : f.path ≡ above ++ p ∷ [] = path_same f.path (above ++ p ∷ []) (left_true (path_eq f.path (above ++ p ∷ [])) (cond (eqb (secondary_register f.file) n) true (not true)) k) in
          grind (arith, eqb-true, last_flag, right_true, each_found, covers_bridge)

  -- a way that leads to bus n ends behind the bridge whose number is n
  way_ends : (above p : Path) → is_route fs n above p ≡ true → (secondary b (above ++ parent p) ≡ n) × ((q : Part) × (rest : Path) × (parent p ≡ q ∷ rest))
  way_ends above [] h = cc
  way_ends above (p ∷ []) h = cc
  way_ends above (p ∷ q ∷ []) h = (last_bridge above p h, (p, [], refl))
  way_ends above (p ∷ q ∷ r ∷ ps) h =
      let more = way_ends (above ++ p ∷ []) (q ∷ r ∷ ps) (right_true (takes fs above n p false) (is_route fs n (above ++ p ∷ []) (q ∷ r ∷ ps)) h) in
      (ap (secondary b) (sym (append_assoc above (p ∷ []) (parent (q ∷ r ∷ ps)))) ∙ more.0, (p, parent (q ∷ r ∷ ps), refl))

  behind_bridge : (p : Path) (q : Part) (rest : Path) → p ≡ q ∷ rest → secondary b p ≡ n → bus_behind b p ≡ n
  behind_bridge p q rest e h = subst (λ (x : Path). secondary b x ≡ n → bus_behind b x ≡ n) (sym e) (λ k. k) h

  on_bus : (p : Path) → is_route fs n [] p ≡ true → bus_of b p ≡ n
  on_bus p h = let ends = way_ends [] p h in behind_bridge (parent p) ends.1.0 ends.1.1 ends.1.2 ends.0

only_by_type0 : (b : Board) (fs : List BoardFunction) (t : Part) (f : BoardFunction) → reached_type0 fs t ≡ Some f → (bus_of b f.path ≡ 0) × (last_part f.path ≡ t)
only_by_type0 b fs t f e = grind (arith, path_same f.path (t ∷ []), found_passes)

pub only_named : OnlyNamed
only_named b lawful fs has at f e = grind (arith, eqb-true, only_by_type0, found_passes, on_bus, right_true, ends_is_last, left_true)
