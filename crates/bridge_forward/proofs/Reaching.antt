-- The way of a configuration cycle.
use Rattle.std.{proofs.Common.{arith, ◌≡◌, ℕ, ◌<◌, Bool, true, false, not, ◌&&◌, cond, Some, None, List, [], ◌∷◌, ◌++◌, length, refl, ap₂, suc, sym, subst, eqb, append_assoc, rules}, specs.{Prelude.find, List.slice_get}}
use Rattle.lists.proofs.{Tests.{left_true, right_true, same_test, and_false}, Indices.{at_map, find_none, found_at}}
use Rattle.model_board.{specs.{Paths.{Part, Path, part_eq, path_eq, parent, last_part}, State.BoardFunction, Cycles.{secondary_register, taker, takes, is_route, ends_in, reached_type1}}, proofs.{PathOrder.{part_same, path_same, part_self}, PathEnds.{snoc, path_self}}}
use Rattle.bridge_forward.{specs.{declared.bus.Node.Node, Layout.{function_of, functions_of, IsLaidOut}}, proofs.Nodes.path_of}

pub find_same : {A : Type 0} (t u : A → Bool) (xs : List A) → ((j : ℕ) (x : A) → slice_get xs j ≡ Some x → t x ≡ u x) → find t xs ≡ find u xs
find_same t u [] h = refl
find_same t u (x ∷ xs) h = ap₂ (λ b r. cond b (Some x) r) (h 0 x refl) (find_same t u xs (λ j y e. h (suc j) y e))

module _ (nodes : List Node) (laid : IsLaidOut nodes) where
  some_path : (j : ℕ) (f : BoardFunction) → slice_get (functions_of nodes) j ≡ Some f → 0 < length f.path
  some_path j f e = let m = at_map function_of nodes j f e in subst (λ (g : BoardFunction). 0 < length g.path) (sym m.2) (path_of nodes laid j m.0 m.1).some

  module _ (n : ℕ) where
    abbrev fs : List BoardFunction
    fs = functions_of nodes

    -- the routes are those that go on from this bus
    pub record Passing (bus : Path) : Type 0 where
      pub into : (p : Path) → is_route fs n [] p ≡ true → (q : Path) × ((p ≡ bus ++ q) × (is_route fs n bus q ≡ true))
      pub out : (q : Path) → is_route fs n bus q ≡ true → is_route fs n [] (bus ++ q) ≡ true

    pub passing_root : Passing []
    passing_root = record { into = λ p h. (p, (refl, h)); out = λ q h. h }

    -- without a bridge that takes the cycle there is no route
    no_route : (bus q : Path) → taker fs bus n ≡ None → is_route fs n bus q ≡ true → ⊥
    no_route bus [] e h = cc
    no_route bus (x ∷ []) e h = cc
    no_route bus (x ∷ y ∷ []) e h = let z = rw e at h in cc
    no_route bus (x ∷ y ∷ z ∷ qs) e h = let w = rw e at (left_true (takes fs bus n x false) (is_route fs n (bus ++ x ∷ []) (y ∷ z ∷ qs)) h) in cc

    pub stuck : (bus : Path) (t : Part) → Passing bus → taker fs bus n ≡ None → reached_type1 fs n t ≡ None
    stuck bus t p e = search (rules, find_none, and_false, no_route)

    -- the bridge that takes the cycle stands on the bus
    module _ (bus : Path) (f : BoardFunction) (e : taker fs bus n ≡ Some f) where
      taken_on : f.path ≡ bus ++ last_part f.path ∷ []
      taken_on = grind (arith, found_at, path_same (parent f.path) bus, snoc, some_path)

      -- a step of a route is that bridge, and ends there exactly where the bridge leads to the bus
      step_is : (x : Part) (ends : Bool) → takes fs bus n x ends ≡ true → (f.path ≡ bus ++ x ∷ []) × (cond (eqb (secondary_register f.file) n) ends (not ends) ≡ true)
      step_is x ends h = search (rules, path_same, left_true, right_true)

      is_step : (x : Part) (ends : Bool) → f.path ≡ bus ++ x ∷ [] → cond (eqb (secondary_register f.file) n) ends (not ends) ≡ true → takes fs bus n x ends ≡ true
      is_step x ends p c = grind (arith, e, path_self f.path)

      moved : (x : Part) (q : Path) → bus ++ x ∷ q ≡ (bus ++ x ∷ []) ++ q
      moved x q = sym (append_assoc bus (x ∷ []) q)

      -- behind a bridge that leads elsewhere the routes go on
      pub passing_next : Passing bus → eqb (secondary_register f.file) n ≡ false → Passing f.path
      passing_next p differs = record {
        into = λ r h. let q = p.into r h in go_on r q.0 q.1.0 q.1.1;
        out = λ q h. come_back q h;
      }
        where
          go_on : (r q : Path) → r ≡ bus ++ q → is_route fs n bus q ≡ true → (s : Path) × ((r ≡ f.path ++ s) × (is_route fs n f.path s ≡ true))
          go_on r [] e h = absurd (cc)
          go_on r (x ∷ []) e h = absurd (cc)
          go_on r (x ∷ y ∷ []) e h = let s = step_is x true h in grind (arith, s.1)
          go_on r (x ∷ y ∷ z ∷ qs) e h =
              let s = step_is x false (left_true (takes fs bus n x false) (is_route fs n (bus ++ x ∷ []) (y ∷ z ∷ qs)) h) in
              (y ∷ z ∷ qs, (grind (arith, s.0, moved x (y ∷ z ∷ qs)), grind (arith, s.0)))

          come_back : (q : Path) → is_route fs n f.path q ≡ true → is_route fs n [] (f.path ++ q) ≡ true
          come_back [] h = absurd (cc)
          come_back (x ∷ []) h = absurd (cc)
          come_back (x ∷ y ∷ qs) h =
              let a : Part = last_part f.path in
              grind (arith, is_step a false taken_on, p.out (a ∷ x ∷ y ∷ qs), moved a (x ∷ y ∷ qs), taken_on)

      ends_snoc : (p : Path) (y t : Part) → ends_in (p ++ y ∷ []) t ≡ part_eq y t
      ends_snoc [] y t = refl
      ends_snoc (a ∷ []) y t = refl
      ends_snoc (a ∷ b ∷ p) y t = ends_snoc (b ∷ p) y t

      -- behind a bridge that leads to the bus all routes end
      pub routed : Passing bus → eqb (secondary_register f.file) n ≡ true → (g : Path) (t : Part) → (ends_in g t && is_route fs n [] g) ≡ path_eq g (f.path ++ t ∷ [])
      routed p leads g t = same_test (ends_in g t && is_route fs n [] g) (path_eq g (f.path ++ t ∷ []))
          (λ h. let q = p.into g (right_true (ends_in g t) (is_route fs n [] g) h) in
          to_path g q.0 q.1.0 q.1.1 (left_true (ends_in g t) (is_route fs n [] g) h))
          (λ h. from_path g (path_same g (f.path ++ t ∷ []) h))
        where
          to_path : (r q : Path) → r ≡ bus ++ q → is_route fs n bus q ≡ true → ends_in r t ≡ true → path_eq r (f.path ++ t ∷ []) ≡ true
          to_path r [] e h k = absurd (cc)
          to_path r (x ∷ []) e h k = absurd (cc)
          to_path r (x ∷ y ∷ []) e h k =
              let s = step_is x true h in
              grind (arith, s.0, moved x (y ∷ []), ends_snoc f.path y t, part_same y t, path_self r)
          to_path r (x ∷ y ∷ z ∷ qs) e h k =
              let s = step_is x false (left_true (takes fs bus n x false) (is_route fs n (bus ++ x ∷ []) (y ∷ z ∷ qs)) h) in
              grind (arith, s.1)

          from_path : (r : Path) → r ≡ f.path ++ t ∷ [] → (ends_in r t && is_route fs n [] r) ≡ true
          from_path r e =
              let a : Part = last_part f.path in
              grind (arith, ends_snoc f.path t t, part_self t, moved a (t ∷ []), taken_on, p.out (a ∷ t ∷ []), is_step a true taken_on)
