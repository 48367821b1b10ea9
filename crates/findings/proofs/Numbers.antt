-- The bridge above a bus among rows, and what is told of the numbers of functions.
use Rattle.std.{proofs.{lemmas.{Option.slice_get-map, Iterator.Adapters.position_from-zero}, Common.{◌≡◌, ℕ, suc, ◌+◌, Bool, true, false, cond, List, [], ◌∷◌, ◌++◌, length, Option, Some, None, refl, sym, ap, ap₂, ◌∙◌, arith, eqb}}, specs.{Prelude.{map, flat_map, find, slice_get, option_map, position, unwrap_or}, Option.{option_and_then, option_map_or}, List.position_from}}
use Rattle.lists.proofs.Tests.{left_true}
use Rattle.model_board.specs.{Paths.Path, State.BoardFunction, Cycles.{secondary_register, BusAddress, reached}, Routing.{RoutingRow, row_of, routing}}
use Rattle.model_findings.specs.{Found.{is_bridge_at, current_bus_number, current_bdf, path_reached}, Problems.{Problem, not_found, numbering_problem, numbering_problems}}
use Rattle.bridge_forward.specs.RoutingRows.{secondary_bus_nth}
use Rattle.findings.specs.Bridges.{is_bridge_row, is_there, lost_function}

-- ---- the first that passes

pub record IsFirst {A : Type 0} (t : A → Bool) (xs : List A) (k : ℕ) : Type 0 where
  pub element : A
  pub there : slice_get xs k ≡ Some element
  pub found : find t xs ≡ Some element
  pub passes : t element ≡ true

first_at : {A : Type 0} (t : A → Bool) (n : ℕ) (xs : List A) (i : ℕ) → position_from t n xs ≡ Some i → (k : ℕ) × (i ≡ n + k) × IsFirst t xs k
first_at t n [] i e = cc
first_at {A} t n (x ∷ xs) i e = by (t x) refl e (first_at t (n + 1) xs i)
  where
    by : (b : Bool) → t x ≡ b → cond b (Some n) (position_from t (n + 1) xs) ≡ Some i → (position_from t (n + 1) xs ≡ Some i → (k : ℕ) × (i ≡ n + 1 + k) × IsFirst t xs k) → (k : ℕ) × (i ≡ n + k) × IsFirst t (x ∷ xs) k
    by true h f more = let same : n ≡ i = cc in let z : i ≡ n + 0 = omega arith in (0, z, record { element = x; there = refl; found = rw h refl; passes = h })
    by false h f more =
        let m = more f in let r : IsFirst t xs m.0 = m.2 in let z : i ≡ n + suc m.0 = omega (arith, m.1) in
        (suc m.0, z, record { element = r.element; there = r.there; found = rw h r.found; passes = r.passes })

none_at : {A : Type 0} (t : A → Bool) (n : ℕ) (xs : List A) → position_from t n xs ≡ None → find t xs ≡ None
none_at t n [] e = refl
none_at {A} t n (x ∷ xs) e = grind (arith, none_at t (n + 1) xs)

-- ---- the bridge above a bus

same_test : (bus : Path) (f : BoardFunction) → is_bridge_row bus (row_of f) ≡ is_bridge_at bus f
same_test bus f = grind arith

same_position : (bus : Path) (n : ℕ) (fs : List BoardFunction) → position_from (is_bridge_row bus) n (map row_of fs) ≡ position_from (is_bridge_at bus) n fs
same_position bus n [] = refl
same_position bus n (f ∷ fs) = ap₂ (λ b o. cond b (Some n) o) (same_test bus f) (same_position bus (n + 1) fs)

position_is : (bus : Path) (fs : List BoardFunction) → position (is_bridge_row bus) (routing fs) ≡ position_from (is_bridge_at bus) 0 fs
position_is bus fs = position_from-zero (is_bridge_row bus) (map row_of fs) ∙ same_position bus 0 fs

some_bus : (fs : List BoardFunction) (bus : Path) → eqb (length bus) 0 ≡ false → current_bus_number fs bus ≡ option_map_or (λ (f : BoardFunction). secondary_register f.file) (find (is_bridge_at bus) fs) 0
some_bus fs bus h = grind arith

pub bus_of_index : (fs : List BoardFunction) (bus : Path) (i : ℕ) → eqb (length bus) 0 ≡ false → Some i ≡ position (is_bridge_row bus) (routing fs) → unwrap_or (secondary_bus_nth fs i) 0 ≡ current_bus_number fs bus
bus_of_index fs bus i some e = grind (arith, first_at, position_is, left_true, some_bus)

pub bus_of_none : (fs : List BoardFunction) (bus : Path) → eqb (length bus) 0 ≡ false → None ≡ position (is_bridge_row bus) (routing fs) → 0 ≡ current_bus_number fs bus
bus_of_none fs bus some e = grind (arith, some_bus, none_at, position_is)

-- ---- what a number reaches

pub instead_is : (fs : List BoardFunction) (rows : List RoutingRow) (p : Path) (at : BusAddress) (o : Option ℕ) → rows ≡ routing fs → at ≡ current_bdf fs p → option_and_then (slice_get fs) o ≡ reached fs at
    → option_map (λ (r : RoutingRow). r.path) (option_and_then (slice_get rows) o) ≡ path_reached fs p
instead_is fs rows p at o e f g = grind (arith, slice_get-map)

abbrev told : List BoardFunction → Path → List Problem
told fs p = not_found p (current_bdf fs p) (path_reached fs p) ∷ []

pub none_lost : (fs : List BoardFunction) (p : Path) (instead : Option Path) → instead ≡ path_reached fs p → is_there p instead ≡ true → [] ≡ lost_function fs p
none_lost fs p instead e h = sym (ap (λ t. cond {A = List Problem} t [] (told fs p)) (ap (is_there p) (sym e) ∙ h))

pub one_lost : (fs : List BoardFunction) (p q : Path) (at : BusAddress) (instead : Option Path) → q ≡ p → at ≡ current_bdf fs p → instead ≡ path_reached fs p → is_there p instead ≡ false
    → not_found q at instead ∷ [] ≡ lost_function fs p
one_lost fs p q at instead d f e h = grind arith

pub numbers_of_rows : (fs : List BoardFunction) → flat_map (λ (r : RoutingRow). lost_function fs r.path) (routing fs) ≡ numbering_problems fs
numbers_of_rows fs = by fs
  where
    by : (gs : List BoardFunction) → flat_map (λ (r : RoutingRow). lost_function fs r.path) (map row_of gs) ≡ flat_map (numbering_problem fs) gs
    by [] = refl
    by (g ∷ gs) = ap (λ xs. numbering_problem fs g ++ xs) (by gs)
