-- A cycle reaches the function at the end of its way, and where it reaches nothing, what is told as missing isn't there.
use Rattle.std.{proofs.{Common.{◌≡◌, ℕ, zero, suc, ◌+◌, ◌≤◌, inl, inr, ◌⊎◌, Bool, true, false, ◌&&◌, ◌==◌, cond, List, [], ◌∷◌, ◌++◌, length, Option, Some, None, refl, sym, ap, ap₂, ◌∙◌, subst, arith, append_assoc}, lemmas.Bool.and_from}, specs.Prelude.{map, find}}
use Rattle.lists.{specs.Elements.{Each, IsIn}, proofs.{EachLemmas.{each_map, each_of_map}, Members.{each_in, each_from, in_front, in_back, front_or_back, in_map, in_filter, from_filter}, Tests.{left_true, right_true, same_test, second_false}, FirstFound.found_in}}
use Rattle.model_board.{specs.{Board.Row, Cycles.{secondary_register, covers, taker, takes, is_route, ends_in, reached_type1, BusAddress, reached}, Paths.{Part, Path, path_eq, parent, last_part, IsPath}, State.{BoardFunction, row_at}}, proofs.{PathEnds.{path_self, snoc, length_snoc}, PathOrder.path_same}}
use Rattle.model_set_up.proofs.Routes.{ends_is_last, ends_last}
use Rattle.model_findings.specs.Orderly.{IsStateOfBoard}
use Rattle.model_lines.{specs.{Ways.{way_by, way, takers, takers_by, takers_down, WayEnd, on_bus, no_taker, end_by, way_end, bridges_on_way, takers_on_way, end_of, reached_at, missing_at}, WhyLaws.{IsWay, bus_after, IsPassed, IsTaking, IsMissing, NumbersExplained}}, proofs.Unfound.{unfound, all_unfound}}

-- ---- what find finds

none_found : {A : Type 0} (t : A → Bool) (xs : List A) → find t xs ≡ None → Each (λ x. t x ≡ false) xs
none_found t [] h = tt
none_found {A} t (x ∷ xs) h = grind (arith, none_found t xs)

finds_none : {A : Type 0} (t : A → Bool) (xs : List A) → ((x : A) → IsIn x xs → t x ≡ false) → find t xs ≡ None
finds_none t [] h = refl
finds_none t (x ∷ xs) h = rw (h x (inl refl)) (finds_none t xs (λ y m. h y (inr m)))

finds_same : {A : Type 0} (s t : A → Bool) (xs : List A) → ((x : A) → IsIn x xs → s x ≡ t x) → find s xs ≡ find t xs
finds_same s t [] h = refl
finds_same s t (x ∷ xs) h = ap₂ (λ c o. cond c (Some x) o) (h x (inl refl)) (finds_same s t xs (λ y m. h y (inr m)))

-- ---- ends

end_path : WayEnd → Path
end_path (on_bus p) = p
end_path (no_taker p) = p

is_on_bus : WayEnd → Bool
is_on_bus (on_bus p) = true
is_on_bus (no_taker p) = false

same_bus : (p q : Path) → on_bus p ≡ on_bus q → p ≡ q
unfolding end_path
same_bus p q e = ap end_path e

same_taker : (p q : Path) → no_taker p ≡ no_taker q → p ≡ q
unfolding end_path
same_taker p q e = ap end_path e

differ : (p q : Path) → on_bus p ≡ no_taker q → ⊥
unfolding is_on_bus
differ p q e = let bad : true ≡ false = ap is_on_bus e in cc

module _ (fs : List BoardFunction) (state : IsStateOfBoard fs) (n : ℕ) where
  lawful_path : (f : BoardFunction) → IsIn f fs → IsPath f.path
  lawful_path f m = each_in (λ (r : Row). IsPath r.path) (row_at f) (map row_at fs) state.places.paths (in_map row_at f fs m)

  taker_is : (bus : Path) (f : BoardFunction) → taker fs bus n ≡ Some f → IsIn f fs × (parent f.path ≡ bus) × (covers n f ≡ true)
  taker_is bus f e =
      let g = found_in (λ (x : BoardFunction). path_eq (parent x.path) bus && covers n x) fs f e in
      (g.0, path_same (parent f.path) bus (left_true (path_eq (parent f.path) bus) (covers n f) g.1), right_true (path_eq (parent f.path) bus) (covers n f) g.1)

  -- its path is that of the bus, and one part more
  taker_path : (bus : Path) (f : BoardFunction) → taker fs bus n ≡ Some f → f.path ≡ bus ++ last_part f.path ∷ []
  taker_path bus f e = grind (arith, taker_is bus f e, snoc f.path, lawful_path f)

  -- ---- the bridges on a way

  way_is : (k : ℕ) (bus : Path) → IsWay fs n bus (way fs n k bus)
  way_is zero bus = tt
  way_is (suc k) bus = grind (arith, way_is k)

  end_after : (k : ℕ) (bus : Path) → end_path (way_end fs n k bus) ≡ bus_after bus (way fs n k bus)
  unfolding end_path
  end_after zero bus = refl
  end_after (suc k) bus = grind (arith, end_after k, end_path)

  -- ---- a route ends where its way does

  record Taken (above : Path) (p : Part) (ends : Bool) : Type 0 where
    function : BoardFunction
    found : taker fs above n ≡ Some function
    path_is : function.path ≡ above ++ p ∷ []
    last : (secondary_register function.file == n) ≡ ends

  takes_is : (above : Path) (p : Part) (ends : Bool) → takes fs above n p ends ≡ true → Taken above p ends
  takes_is above p ends h = grind (arith, path_same, left_true, right_true)

  is_taken : (above : Path) (p : Part) (f : BoardFunction) (ends : Bool) → taker fs above n ≡ Some f → f.path ≡ above ++ p ∷ [] → (secondary_register f.file == n) ≡ ends → takes fs above n p ends ≡ true
  is_taken above p f ends e path last = grind (arith, and_from, path_self)

  end_some : (k : ℕ) (bus : Path) (f : BoardFunction) → taker fs bus n ≡ Some f → way_end fs n (suc k) bus ≡ cond (secondary_register f.file == n) (on_bus f.path) (way_end fs n k f.path)
  end_some k bus f e = ap (end_by n (way_end fs n k) bus) e

  route_end : (k : ℕ) (above q : Path) → length q ≤ k + 1 → is_route fs n above q ≡ true → way_end fs n k above ≡ on_bus (above ++ parent q)
  route_end k above [] few h = cc
  route_end k above (p ∷ []) few h = cc
  route_end zero above (p ∷ q ∷ ps) few h = absurd (omega arith)
  route_end (suc k) above (p ∷ q ∷ []) few h = grind (arith, takes_is above p true h, end_some k above)
  route_end (suc k) above (p ∷ q ∷ r ∷ ps) few h =
      let t : Taken above p false = takes_is above p false (left_true (takes fs above n p false) (is_route fs n (above ++ p ∷ []) (q ∷ r ∷ ps)) h) in
      let more : way_end fs n k (above ++ p ∷ []) ≡ on_bus ((above ++ p ∷ []) ++ parent (q ∷ r ∷ ps)) = route_end k (above ++ p ∷ []) (q ∷ r ∷ ps) (omega arith) (right_true (takes fs above n p false) (is_route fs n (above ++ p ∷ []) (q ∷ r ∷ ps)) h) in
      end_some k above t.function t.found ∙ ap (λ c. cond c (on_bus t.function.path) (way_end fs n k t.function.path)) t.last
      ∙ ap (way_end fs n k) t.path_is ∙ more ∙ ap on_bus (append_assoc above (p ∷ []) (parent (q ∷ r ∷ ps)))

  -- ---- where a way ends, its routes lead

  record Ended (above e : Path) : Type 0 where
    part : Part
    rest : Path
    end_is : e ≡ above ++ part ∷ rest
    routes : (t : Part) → is_route fs n above (part ∷ rest ++ t ∷ []) ≡ true

  longer : (above : Path) (x y : Part) (rest : Path) (t : Part) → takes fs above n x false ≡ true → is_route fs n (above ++ x ∷ []) (y ∷ rest ++ t ∷ []) ≡ true → is_route fs n above (x ∷ (y ∷ rest) ++ t ∷ []) ≡ true
  longer above x y rest t h k = grind (arith, and_from (takes fs above n x false))

  end_route : (k : ℕ) (above e : Path) → way_end fs n k above ≡ on_bus e → Ended above e
  end_route zero above e h = absurd (differ e above (sym h))
  end_route (suc k) above e h = by (taker fs above n) refl h (end_route k)
    where
      by : (o : Option BoardFunction) → taker fs above n ≡ o → end_by n (way_end fs n k) above o ≡ on_bus e → ((bus d : Path) → way_end fs n k bus ≡ on_bus d → Ended bus d) → Ended above e
      by None i g more = absurd (differ e above (sym g))
      by (Some f) i g more = on (secondary_register f.file == n) refl g
        where
          path : f.path ≡ above ++ last_part f.path ∷ []
          path = taker_path above f i

          on : (t : Bool) → (secondary_register f.file == n) ≡ t → cond t (on_bus f.path) (way_end fs n k f.path) ≡ on_bus e → Ended above e
          on true j l = grind (arith, same_bus, path, is_taken)
          on false j l =
              let d : Ended f.path e = more f.path e l in record {
                part = last_part f.path;
                rest = d.part ∷ d.rest;
                end_is = d.end_is ∙ ap (λ (p : Path). p ++ d.part ∷ d.rest) path ∙ append_assoc above (last_part f.path ∷ []) (d.part ∷ d.rest);
                routes = λ t. longer above (last_part f.path) d.part d.rest t (is_taken above (last_part f.path) f false i path j) (subst (λ (p : Path). is_route fs n p (d.part ∷ d.rest ++ t ∷ []) ≡ true) path (d.routes t));
              }

  -- ---- what is reached

  passes_end : (t : Part) (f : BoardFunction) → IsIn f fs → (ends_in f.path t && is_route fs n [] f.path) ≡ true → (way_end fs n 16 [] ≡ on_bus (parent f.path)) × (f.path ≡ parent f.path ++ t ∷ [])
  passes_end t f m h = grind (arith, lawful_path f m, ends_is_last, left_true, route_end 16 [], right_true, snoc)

  reached_by : (t : Part) (e : WayEnd) → way_end fs n 16 [] ≡ e → reached_type1 fs n t ≡ reached_at fs e t
  reached_by t (no_taker p) e = grind (arith, finds_none, differ, passes_end t)
  reached_by t (on_bus p) e = finds_same (λ (f : BoardFunction). ends_in f.path t && is_route fs n [] f.path) (λ (f : BoardFunction). path_eq f.path (p ++ t ∷ [])) fs
      (λ f m. same_test (ends_in f.path t && is_route fs n [] f.path) (path_eq f.path (p ++ t ∷ [])) (to f m) (from f m))
    where
      to : (f : BoardFunction) → IsIn f fs → (ends_in f.path t && is_route fs n [] f.path) ≡ true → path_eq f.path (p ++ t ∷ []) ≡ true
      to f m h = grind (arith, passes_end t f m h, same_bus (parent f.path) p, path_self f.path)

      from : (f : BoardFunction) → IsIn f fs → path_eq f.path (p ++ t ∷ []) ≡ true → (ends_in f.path t && is_route fs n [] f.path) ≡ true
      from f m h =
          let path : f.path ≡ p ++ t ∷ [] = path_same f.path (p ++ t ∷ []) h in
          grind (arith, end_route 16 [] p e, and_from (ends_in (p ++ t ∷ []) t) (is_route fs n [] (p ++ t ∷ [])) (ends_last p t), ends_last p t)

  -- ---- what is missing

  none_takes : (k : ℕ) (bus p : Path) → length bus + k ≡ 16 → way_end fs n k bus ≡ no_taker p → Each (λ f. parent f.path ≡ p → covers n f ≡ false) fs
  none_takes zero bus p size h = each_from (λ f. parent f.path ≡ p → covers n f ≡ false) fs too_long
    where
      too_long : (f : BoardFunction) → IsIn f fs → parent f.path ≡ p → covers n f ≡ false
      too_long f m e =
          let path : IsPath f.path = lawful_path f m in
          grind (arith, snoc f.path path.some, same_taker bus p h, length_snoc bus (last_part f.path))
  none_takes (suc k) bus p size h = by (taker fs bus n) refl h (none_takes k)
    where
      by : (o : Option BoardFunction) → taker fs bus n ≡ o → end_by n (way_end fs n k) bus o ≡ no_taker p → ((b q : Path) → length b + k ≡ 16 → way_end fs n k b ≡ no_taker q → Each (λ f. parent f.path ≡ q → covers n f ≡ false) fs) → Each (λ f. parent f.path ≡ p → covers n f ≡ false) fs
      by None e g more =
          each_map (λ (f : BoardFunction). (path_eq (parent f.path) bus && covers n f) ≡ false) (λ f. parent f.path ≡ p → covers n f ≡ false) fs
          (λ f no_one at. second_false (path_eq (parent f.path) bus) (covers n f) no_one (subst (λ (q : Path). path_eq (parent f.path) q ≡ true) (at ∙ sym (same_taker bus p g)) (path_self (parent f.path))))
          (none_found (λ (f : BoardFunction). path_eq (parent f.path) bus && covers n f) fs e)
      by (Some f) e g more = on (secondary_register f.file == n) g
        where
          long : length f.path ≡ length bus + 1
          long = ap length (taker_path bus f e) ∙ length_snoc bus (last_part f.path)

          on : (t : Bool) → cond t (on_bus f.path) (way_end fs n k f.path) ≡ no_taker p → Each (λ f. parent f.path ≡ p → covers n f ≡ false) fs
          on t l = grind (arith, differ, long)

  -- ---- who takes the cycle

  taking_below : (k : ℕ) (bus : Path) (f : BoardFunction) → IsIn f (takers_down fs n k bus) → IsTaking fs n bus (way fs n k bus) f
  taking_below zero bus f m = absurd m
  taking_below (suc k) bus f m = of (front_or_back f (takers fs n bus) (takers_by n (takers_down fs n k) (taker fs bus n)) m) (taking_below k)
    where
      here : IsIn f (takers fs n bus) → IsTaking fs n bus (way fs n (suc k) bus) f
      here i =
          let g = from_filter (λ (x : BoardFunction). path_eq (parent x.path) bus && covers n x) f fs i in
          grind (arith, right_true, path_same, left_true)

      further : (w : BoardFunction) (ws : List BoardFunction) → (secondary_register w.file == n) ≡ false → IsPassed n w.path ws (parent f.path) → IsPassed n bus (w ∷ ws) (parent f.path)
      further w ws e h = grind arith

      by : (o : Option BoardFunction) → ((p : Path) (g : BoardFunction) → IsIn g (takers_down fs n k p) → IsTaking fs n p (way fs n k p) g) → IsIn f (takers_by n (takers_down fs n k) o) → IsTaking fs n bus (way_by n (way fs n k) o) f
      by None more i = absurd i
      by (Some w) more i = on (secondary_register w.file == n) refl i
        where
          on : (t : Bool) → (secondary_register w.file == n) ≡ t → IsIn f (cond t [] (takers_down fs n k w.path)) → IsTaking fs n bus (w ∷ cond t [] (way fs n k w.path)) f
          on true e j = absurd j
          on false e j =
              let g : IsTaking fs n w.path (way fs n k w.path) f = more w.path f j in
              record { there = g.there; takes = g.takes; passed = further w (way fs n k w.path) e g.passed }

      of : IsIn f (takers fs n bus) ⊎ IsIn f (takers_by n (takers_down fs n k) (taker fs bus n)) → ((p : Path) (g : BoardFunction) → IsIn g (takers_down fs n k p) → IsTaking fs n p (way fs n k p) g) → IsTaking fs n bus (way fs n (suc k) bus) f
      of h more = grind (arith, here, by (taker fs bus n) more)

  taken_below : (k : ℕ) (bus : Path) → length bus + k ≡ 16 → (f : BoardFunction) → IsTaking fs n bus (way fs n k bus) f → IsIn f (takers_down fs n k bus)
  taken_below zero bus size f t = by t.passed
    where
      by : IsPassed n bus [] (parent f.path) → IsIn f []
      by (inl e) =
          let path : IsPath f.path = lawful_path f t.there in
          grind (arith, snoc f.path path.some, length_snoc bus (last_part f.path))
      by (inr (w, m, is, more)) = absurd m
  taken_below (suc k) bus size f t = by t.passed (taken_below k)
    where
      here : parent f.path ≡ bus → IsIn f (takers fs n bus)
      here e = grind (arith, in_filter, and_from (path_eq (parent f.path) bus) (covers n f), path_self (parent f.path))

      below : (w : BoardFunction) → IsIn w (way fs n (suc k) bus) → w.path ≡ parent f.path → (secondary_register w.file == n) ≡ false → ((p : Path) → length p + k ≡ 16 → (g : BoardFunction) → IsTaking fs n p (way fs n k p) g → IsIn g (takers_down fs n k p)) → IsIn f (takers_by n (takers_down fs n k) (taker fs bus n))
      below w m is e more = of (taker fs bus n) refl m
        where
          of : (o : Option BoardFunction) → taker fs bus n ≡ o → IsIn w (way_by n (way fs n k) o) → IsIn f (takers_by n (takers_down fs n k) o)
          of None h i = absurd i
          of (Some g) h i = grind (arith, taker_path bus g h, length_snoc bus (last_part g.path))

      by : IsPassed n bus (way fs n (suc k) bus) (parent f.path) → ((p : Path) → length p + k ≡ 16 → (g : BoardFunction) → IsTaking fs n p (way fs n k p) g → IsIn g (takers_down fs n k p)) → IsIn f (takers_down fs n (suc k) bus)
      by h more = grind (arith, in_front, here, in_back, below)

-- ---- a configuration number

not_at : (fs : List BoardFunction) (p : Path) (t : Part) → reached_at fs (on_bus p) t ≡ None → Each (λ f. f.path ≡ p ++ t ∷ [] → ⊥) fs
not_at fs p t h = each_map (λ (f : BoardFunction). path_eq f.path (p ++ t ∷ []) ≡ false) (λ f. f.path ≡ p ++ t ∷ [] → ⊥) fs differs (none_found (λ (f : BoardFunction). path_eq f.path (p ++ t ∷ [])) fs h)
  where
    differs : (f : BoardFunction) → path_eq f.path (p ++ t ∷ []) ≡ false → f.path ≡ p ++ t ∷ [] → ⊥
    differs f k e = let bad : true ≡ false = sym (subst (λ (q : Path). path_eq f.path q ≡ true) e (path_self f.path)) ∙ k in cc

-- what is said of a number whose cycle goes through these bridges to this end
record Explains (fs : List BoardFunction) (at : BusAddress) (bridges told : List BoardFunction) (end : WayEnd) : Type 0 where
  way : IsWay fs at.bus [] bridges
  taking : Each (IsTaking fs at.bus [] bridges) told
  all_taking : (f : BoardFunction) → (at.bus == 0) ≡ false → IsTaking fs at.bus [] bridges f → IsIn f told
  end_is : end_path end ≡ bus_after [] bridges
  reached_is : reached fs at ≡ reached_at fs end at.part
  none_takes : (p : Path) → end ≡ no_taker p → Each (λ f. parent f.path ≡ p → covers at.bus f ≡ false) fs

explains : (fs : List BoardFunction) → IsStateOfBoard fs → (at : BusAddress) → Explains fs at (bridges_on_way fs at) (takers_on_way fs at) (end_of fs at)
unfolding end_path
explains fs state at = by (at.bus == 0) refl
  where
    different : (at.bus == 0) ≡ true → (at.bus == 0) ≡ false → ⊥
    different e other = cc

    by : (t : Bool) → (at.bus == 0) ≡ t → Explains fs at (cond t [] (way fs at.bus 16 [])) (cond t [] (takers_down fs at.bus 16 [])) (cond t (on_bus []) (way_end fs at.bus 16 []))
    by true e = record {
      way = tt;
      taking = tt;
      all_taking = λ f other t. absurd (different e other);
      end_is = refl;
      reached_is = rw e refl;
      none_takes = λ p h. absurd (differ [] p h);
    }
    by false e = record {
      way = way_is fs state at.bus 16 [];
      taking = each_from (IsTaking fs at.bus [] (way fs at.bus 16 [])) (takers_down fs at.bus 16 []) (taking_below fs state at.bus 16 []);
      all_taking = λ f other t. taken_below fs state at.bus 16 [] refl f t;
      end_is = end_after fs state at.bus 16 [];
      reached_is = rw e (reached_by fs state at.bus at.part (way_end fs at.bus 16 []) refl);
      none_takes = λ p h. none_takes fs state at.bus 16 [] p refl h;
    }

missing_by : (fs : List BoardFunction) (at : BusAddress) (end : WayEnd) → Explains fs at (bridges_on_way fs at) (takers_on_way fs at) end → reached_at fs end at.part ≡ None → IsMissing fs at (missing_at end at)
unfolding end_path
missing_by fs at (on_bus p) x none = (refl, x.end_is, not_at fs p at.part none)
missing_by fs at (no_taker p) x none = (refl, x.end_is, x.none_takes p refl)

pub bdf_explanations_are_true : NumbersExplained
bdf_explanations_are_true fs state at = grind (arith, unfound, each_of_map, each_from, all_unfound, explains, missing_by)
