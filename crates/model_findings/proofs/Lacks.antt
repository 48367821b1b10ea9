-- Each lack is real, and there is none where and only where nothing is lacking.
use Rattle.std.{proofs.{Common.{◌≡◌, ℕ, ◌+◌, ◌⊎◌, inl, inr, Bool, true, false, ◌&&◌, ◌==◌, not, cond, List, [], ◌∷◌, ◌++◌, length, Option, Some, None, refl, ap, ap₂, arith, rules}, lemmas.Bool.{Decides.nat_tests, not_from_false}}, specs.{Prelude.{map, flat_map, IsTrue}, Option.{option_map, option_to_list}}}
use Rattle.lists.{specs.Elements.{IsIn, Each, first_some}, proofs.{Members.{each_in, each_from, front_or_back, from_flat_map, from_map, from_filter, in_filter, from_option, none_front, none_back, none_each, each_none, no_elements}, EachLemmas.each_map, FirstFound.{IsFirstTold, first_from}}}
use Rattle.model_registers.specs.{Apertures.Apertures, Decoding.opens_space}
use Rattle.model_board.specs.{Paths.is_ancestor_of, State.BoardFunction, Routing.{RoutingRow, routing}}
use Rattle.model_set_up.specs.PlacedRegions.{PlacedRegion}
use Rattle.model_findings.{specs.{OpenRegions.{regions_of, closed_of, open_regions, closed_regions}, Agents.Extent, ReadinessIssues.{aperture_extents, is_in_apertures, plain_regions, prefetches, prefetch_edges, first_outside, first_prefetched_address, ReadinessIssue, not_open, outside_apertures, prefetched_by, outside_issue, prefetch_blame, prefetch_issue, primary_bus_issue, routing_issues, readiness_issues}, ReadyLaws.{IsWithinApertures, PrefetchesNone, IsClosed, IsRealLack, LacksAreReal, LacksNothing, LacksDecide, ReadyDecides}}, proofs.{Witnesses.problems_are_real_and_complete, Told.{first_none, none_first, map_none}, LeastHeld.{IsLeastHeld, least_is, least_finds, outside_begins, prefetch_begins}}}

-- ---- closed regions

closed_real : (rows : List RoutingRow) (q : PlacedRegion) → IsIn q (closed_regions rows) → IsClosed rows q
closed_real rows q m = grind (arith, from_flat_map, from_filter)

-- ---- addresses outside the apertures

outside_is : (a : Apertures) (q : PlacedRegion) (n : ℕ) → first_outside a q ≡ Some n → IsLeastHeld (λ m. not (is_in_apertures a q.space m)) q n
outside_is a q n e = least_is (λ m. not (is_in_apertures a q.space m)) (map (λ (e : Extent). e.end) (aperture_extents a q.space)) q (outside_begins a q.space) n e

some_outside : (q : PlacedRegion) (o : Option ℕ) (l : ReadinessIssue) → option_map (outside_apertures q) o ≡ Some l → (n : ℕ) × (o ≡ Some n) × (l ≡ outside_apertures q n)
some_outside q o l h = grind arith

outside_real : (a : Apertures) (fs : List BoardFunction) (q : PlacedRegion) (l : ReadinessIssue) → IsIn q (open_regions (routing fs)) → IsIn l (outside_issue a q) → IsRealLack a fs l
outside_real a fs q l m k =
    grind (arith, some_outside q (first_outside a q) l, from_option (option_map (outside_apertures q) (first_outside a q)) l, outside_is a q)

within_is : (a : Apertures) (q : PlacedRegion) → outside_issue a q ≡ [] → IsWithinApertures a q
within_is a q none n h = by (is_in_apertures a q.space n) refl
  where
    told : (o : Option ℕ) (n : ℕ) → o ≡ Some n → option_to_list (option_map (outside_apertures q) o) ≡ [] → ⊥
    told o n e h = grind arith

    by : (t : Bool) → is_in_apertures a q.space n ≡ t → t ≡ true
    by true e = refl
    by false e =
        let f = least_finds (λ m. not (is_in_apertures a q.space m)) (map (λ (e : Extent). e.end) (aperture_extents a q.space)) q (outside_begins a q.space) n h (not_from_false (is_in_apertures a q.space n) e) in
        absurd (told (first_outside a q) f.0 f.1 none)

no_outside : (a : Apertures) (q : PlacedRegion) → IsWithinApertures a q → outside_issue a q ≡ []
no_outside a q h = by (first_outside a q) refl
  where
    by : (o : Option ℕ) → first_outside a q ≡ o → option_to_list (option_map (outside_apertures q) o) ≡ []
    by None e = refl
    by (Some n) e = grind (arith, outside_is a q n e)

-- ---- addresses that a bridge prefetches

prefetched_is : (r : RoutingRow) (q : PlacedRegion) (n : ℕ) → first_prefetched_address r q ≡ Some n → IsLeastHeld (λ m. prefetches m r) q n
prefetched_is r q n e = least_is (λ m. prefetches m r) (prefetch_edges r) q (prefetch_begins r) n e

blamed : (q : PlacedRegion) (r : RoutingRow) (l : ReadinessIssue) → prefetch_blame q r ≡ Some l → (is_ancestor_of r.path q.path ≡ true) × (n : ℕ) × (first_prefetched_address r q ≡ Some n) × (l ≡ prefetched_by q r.path n)
blamed q r l h = by (is_ancestor_of r.path q.path) (first_prefetched_address r q) refl refl h
  where
    by : (t : Bool) (o : Option ℕ) → is_ancestor_of r.path q.path ≡ t → first_prefetched_address r q ≡ o → cond t (option_map (prefetched_by q r.path) o) None ≡ Some l → (is_ancestor_of r.path q.path ≡ true) × (n : ℕ) × (first_prefetched_address r q ≡ Some n) × (l ≡ prefetched_by q r.path n)
    by t o h k g = grind arith

not_blamed : (q : PlacedRegion) (r : RoutingRow) → prefetch_blame q r ≡ None → PrefetchesNone q r
not_blamed q r none over n h = by (prefetches n r) refl
  where
    told : (t : Bool) (o : Option ℕ) (n : ℕ) → t ≡ true → o ≡ Some n → cond t (option_map (prefetched_by q r.path) o) None ≡ None → ⊥
    told t o n e f h = grind arith

    by : (t : Bool) → prefetches n r ≡ t → t ≡ false
    by false e = refl
    by true e =
        let f = least_finds (λ m. prefetches m r) (prefetch_edges r) q (prefetch_begins r) n h e in
        absurd (told (is_ancestor_of r.path q.path) (first_prefetched_address r q) f.0 over f.1 none)

blameless : (q : PlacedRegion) (r : RoutingRow) → PrefetchesNone q r → prefetch_blame q r ≡ None
blameless q r h = by (is_ancestor_of r.path q.path) (first_prefetched_address r q) refl refl
  where
    by : (t : Bool) (o : Option ℕ) → is_ancestor_of r.path q.path ≡ t → first_prefetched_address r q ≡ o → cond t (option_map (prefetched_by q r.path) o) None ≡ None
    by false o e f = refl
    by true None e f = refl
    by true (Some n) e f = grind (arith, prefetched_is r q n f)

prefetch_real : (a : Apertures) (fs : List BoardFunction) (q : PlacedRegion) (l : ReadinessIssue) → IsIn q (plain_regions (routing fs)) → IsIn l (prefetch_issue (routing fs) q) → IsRealLack a fs l
prefetch_real a fs q l m k = of (first_from (prefetch_blame q) (routing fs) l (from_option (first_some (prefetch_blame q) (routing fs)) l k))
  where
    of : IsFirstTold (prefetch_blame q) (routing fs) l → IsRealLack a fs l
    of t = told (blamed q t.element l t.told)
      where
        told : (is_ancestor_of t.element.path q.path ≡ true) × (n : ℕ) × (first_prefetched_address t.element q ≡ Some n) × (l ≡ prefetched_by q t.element.path n) → IsRealLack a fs l
        told (over, n, e, is) = grind (arith, prefetched_is t.element q n e, each_map, not_blamed)

no_list : {A : Type 0} (o : Option A) → option_to_list o ≡ [] → o ≡ None
no_list o h = grind arith

unprefetched_is : (rows : List RoutingRow) (q : PlacedRegion) → prefetch_issue rows q ≡ [] → Each (PrefetchesNone q) rows
unprefetched_is rows q h = each_map (λ r. prefetch_blame q r ≡ None) (PrefetchesNone q) rows (not_blamed q) (first_none (prefetch_blame q) rows (no_list (first_some (prefetch_blame q) rows) h))

no_prefetch : (rows : List RoutingRow) (q : PlacedRegion) → Each (PrefetchesNone q) rows → prefetch_issue rows q ≡ []
no_prefetch rows q h = ap option_to_list (none_first (prefetch_blame q) rows (each_map (PrefetchesNone q) (λ r. prefetch_blame q r ≡ None) rows (blameless q) h))

-- ---- Primary Bus Numbers

primary_none : (t : Bool) (m n : ℕ) (x : ReadinessIssue) → cond (t && not (m == n)) (x ∷ []) [] ≡ [] → t ≡ true → m ≡ n
primary_none t m n x h k = grind (arith, nat_tests)

-- ---- the laws

routing_real : (a : Apertures) (fs : List BoardFunction) (l : ReadinessIssue) → IsIn l (routing_issues a (routing fs)) → IsRealLack a fs l
routing_real a fs l m = by (front_or_back l (map not_open (closed_regions (routing fs)) ++ flat_map (outside_issue a) (open_regions (routing fs))) (flat_map (prefetch_issue (routing fs)) (plain_regions (routing fs))) m)
  where
    by_front : IsIn l (map not_open (closed_regions (routing fs))) ⊎ IsIn l (flat_map (outside_issue a) (open_regions (routing fs))) → IsRealLack a fs l
    by_front h = grind (arith, from_map, closed_real, from_flat_map, outside_real)

    by : IsIn l (map not_open (closed_regions (routing fs)) ++ flat_map (outside_issue a) (open_regions (routing fs))) ⊎ IsIn l (flat_map (prefetch_issue (routing fs)) (plain_regions (routing fs))) → IsRealLack a fs l
    by (inl k) = by_front (front_or_back l (map not_open (closed_regions (routing fs))) (flat_map (outside_issue a) (open_regions (routing fs))) k)
    by (inr k) = let f = from_flat_map (prefetch_issue (routing fs)) l (plain_regions (routing fs)) k in prefetch_real a fs f.0 l f.1 f.2

pub lacks_are_real : LacksAreReal
lacks_are_real a fs = each_from (IsRealLack a fs) (readiness_issues a fs) (λ l m. by l (front_or_back l (routing_issues a (routing fs)) (flat_map (primary_bus_issue fs) fs) m))
  where
    by : (l : ReadinessIssue) → IsIn l (routing_issues a (routing fs)) ⊎ IsIn l (flat_map (primary_bus_issue fs) fs) → IsRealLack a fs l
    by l h = grind (arith, routing_real, from_flat_map)

all_open : (r : RoutingRow) → closed_of r ≡ [] → Each (λ q. IsTrue (opens_space r.command q.space)) (regions_of r)
all_open r h = grind (arith, each_from, in_filter)

none_closed : (r : RoutingRow) → Each (λ q. IsTrue (opens_space r.command q.space)) (regions_of r) → closed_of r ≡ []
none_closed r h = grind (arith, no_elements (closed_of r), from_filter, each_in)

pub lacking_nothing : (a : Apertures) (fs : List BoardFunction) → readiness_issues a fs ≡ [] → LacksNothing a fs
lacking_nothing a fs h = search (rules, each_map, all_open, none_each, map_none, none_front, within_is, none_back, unprefetched_is, primary_none)

pub nothing_lacking : (a : Apertures) (fs : List BoardFunction) → LacksNothing a fs → readiness_issues a fs ≡ []
nothing_lacking a fs h =
    ap₂ ◌++◌ (ap₂ ◌++◌ (ap₂ ◌++◌ (ap (map not_open) closed) out) pre) primary
  where
    closed : closed_regions (routing fs) ≡ []
    closed = each_none closed_of (routing fs) (each_map (λ r. Each (λ q. IsTrue (opens_space r.command q.space)) (regions_of r)) (λ r. closed_of r ≡ []) (routing fs) none_closed h.open_all)

    out : flat_map (outside_issue a) (open_regions (routing fs)) ≡ []
    out = each_none (outside_issue a) (open_regions (routing fs)) (each_map (IsWithinApertures a) (λ q. outside_issue a q ≡ []) (open_regions (routing fs)) (no_outside a) h.within)

    pre : flat_map (prefetch_issue (routing fs)) (plain_regions (routing fs)) ≡ []
    pre = each_none (prefetch_issue (routing fs)) (plain_regions (routing fs)) (each_map (λ q. Each (PrefetchesNone q) (routing fs)) (λ q. prefetch_issue (routing fs) q ≡ []) (plain_regions (routing fs)) (no_prefetch (routing fs)) h.unprefetched)

    primary : flat_map (primary_bus_issue fs) fs ≡ []
    primary = grind (arith, each_none, each_map)

pub issues_are_real_and_complete : LacksDecide
issues_are_real_and_complete a fs = (lacking_nothing a fs, nothing_lacking a fs)

-- ---- ready, as a test and as facts

no_length : {A : Type 0} (xs : List A) → length xs ≡ 0 → xs ≡ []
no_length [] h = refl
no_length (x ∷ xs) h = absurd (omega arith)

pub ready_decides : ReadyDecides
ready_decides a fs = grind (arith, problems_are_real_and_complete, lacking_nothing, nothing_lacking, no_length)
