-- A state without problems is orderly, and what a problem says is so.
use Rattle.std.{proofs.{Common.{◌≡◌, ℕ, zero, suc, ◌+◌, ◌≤◌, ◌<◌, ◌⊎◌, inl, inr, Bool, true, false, ◌&&◌, ◌||◌, cond, List, [], ◌∷◌, ◌++◌, Option, Some, None, refl, ap₂, ◌∙◌, subst, arith, leb, ltb}, Math.Nat.{min-le_left, min-le_right}, lemmas.Bool.{Decides.nat_tests, leb-true, ltb-true, le-leb, lt-ltb, and_from, not-true, not_from_false}}, specs.{Prelude.{not, map, filter, flat_map, IsTrue}, List.{list_all, list_any}, Option.{option_map, option_to_list}}}
use Rattle.lists.{specs.Elements.{Each, EachPair, first_some, IsIn}, proofs.{Tests.{left_true, right_true}, EachLemmas.each_map, Members.{each_in, each_from, in_map, in_filter, from_filter, in_front, in_back, front_or_back, from_flat_map, any_in, from_any, all_from, from_option, none_front, none_back, none_each, each_none, no_elements}, FirstFound.{IsFirstTold, first_from}}}
use Rattle.model_registers.{specs.Decoding.{Space, same_space}, proofs.HitRegions.space_same}
use Rattle.model_board.specs.{Paths.is_ancestor_of, Routing.{RoutingRow, row_forwards}}
use Rattle.model_set_up.{specs.PlacedRegions.{PlacedRegion, holds}, proofs.Holders.{Holds, holds_is, is_held, self_space}}
use Rattle.model_findings.{specs.{OpenRegions.open_regions, Agents.{Extent, extent_holds, forwarded_extents, Agent, agents, answers}, Orderly.{IsForwarded, AreAlone, IsOrderly}, Problems.{least, first_unforwarded_address, shared, Problem, not_forwarded, contended, not_found, blame, forwarding_problem, contention, contentions, routing_problems}, Witnesses.{ForwardsAll, IsNotForwarded, IsBefore, IsContended, RoutingDecides}}, proofs.Answering.forwards_extents}

-- ---- the least of some numbers

-- it is one of them, and no greater than any of them
pub record IsLeast (n : ℕ) (xs : List ℕ) : Type 0 where
  pub there : IsIn n xs
  pub below : (m : ℕ) → IsIn m xs → n ≤ m

abbrev Least : Option ℕ → List ℕ → Type 0
Least None xs = xs ≡ []
Least (Some n) xs = IsLeast n xs

pub least_is : (xs : List ℕ) → Least (least xs) xs
least_is [] = refl
least_is (x ∷ xs) = grind (arith, least_is xs, min-le_left, min-le_right, leb-true, nat_tests)

-- what is found is the least that passes
pub found_least : (t : ℕ → Bool) (xs : List ℕ) (n : ℕ) → least (filter t xs) ≡ Some n → IsLeast n (filter t xs)
found_least t xs n e = subst (λ o. Least o (filter t xs)) e (least_is (filter t xs))

-- where one passes, one is found
pub finds : (t : ℕ → Bool) (xs : List ℕ) (m : ℕ) → IsIn m (filter t xs) → (n : ℕ) × (least (filter t xs) ≡ Some n)
finds t xs m k = grind (arith, least_is (filter t xs))

-- ---- extents

pub record Within (n : ℕ) (e : Extent) : Type 0 where
  pub from : e.first ≤ n
  pub below : n < e.end

within_is : (n : ℕ) (e : Extent) → extent_holds n e ≡ true → Within n e
within_is n e h = record { from = leb-true e.first n (left_true (leb e.first n) (ltb n e.end) h); below = ltb-true n e.end (right_true (leb e.first n) (ltb n e.end) h) }

is_within : (n : ℕ) (e : Extent) → Within n e → extent_holds n e ≡ true
is_within n e h = and_from (leb e.first n) (ltb n e.end) (le-leb e.first n h.from) (lt-ltb n e.end h.below)

lt_from : (x y : ℕ) → leb x y ≡ false → y < x
lt_from x y h = grind (arith, nat_tests)

-- ---- the least byte of a region that a bridge doesn't forward

abbrev starts : RoutingRow → PlacedRegion → List ℕ
starts r q = q.first ∷ map (λ e. e.end) (forwarded_extents q.space r)

abbrev lost : RoutingRow → PlacedRegion → ℕ → Bool
lost r q n = holds q.space n q && not (row_forwards q.space n r)

-- a lost start that is no later than n
abbrev LostStart : RoutingRow → PlacedRegion → ℕ → Type 0
LostStart r q n = (c : ℕ) × IsIn c (filter (lost r q) (starts r q)) × (c ≤ n)

module _ (r : RoutingRow) (q : PlacedRegion) (n : ℕ) (h : holds q.space n q ≡ true) (gone : row_forwards q.space n r ≡ false) where
  -- a start that is no later than a lost byte is lost, or a window that holds it ends no later
  lost_or_past : (m : ℕ) → IsIn m (starts r q) → q.first ≤ m → m ≤ n → LostStart r q n ⊎ ((x : ℕ) × IsIn x (starts r q) × (m < x) × (x ≤ n))
  lost_or_past m there from below = by (row_forwards q.space m r) refl
    where
      m_held : holds q.space m q ≡ true
      m_held = is_held q.space m q (record { space_is = self_space q.space; from = from; below = omega (arith, (holds_is q.space n q h).below) })

      by : (t : Bool) → row_forwards q.space m r ≡ t → LostStart r q n ⊎ ((x : ℕ) × IsIn x (starts r q) × (m < x) × (x ≤ n))
      by false e = inl (m, in_filter (lost r q) m (starts r q) there (and_from (holds q.space m q) (not (row_forwards q.space m r)) m_held (not_from_false (row_forwards q.space m r) e)), below)
      by true e = on (from_any (extent_holds m) (forwarded_extents q.space r) (forwards_extents q.space m r.path r.command r.ranges ∙ e))
        where
          on : (x : Extent) × IsIn x (forwarded_extents q.space r) × (extent_holds m x ≡ true) → LostStart r q n ⊎ ((x : ℕ) × IsIn x (starts r q) × (m < x) × (x ≤ n))
          on (x, j, o) = past (leb x.end n) refl (within_is m x o)
            where
              past : (t : Bool) → leb x.end n ≡ t → Within m x → LostStart r q n ⊎ ((x : ℕ) × IsIn x (starts r q) × (m < x) × (x ≤ n))
              past true f w = inr (x.end, inr (in_map (λ e. e.end) x (forwarded_extents q.space r) j), w.below, leb-true x.end n f)
              past false f w = grind (arith, forwards_extents q.space n r.path r.command r.ranges, any_in, is_within)

  -- so from such a start on a lost one comes
  lost_start : (k m : ℕ) → IsIn m (starts r q) → q.first ≤ m → m ≤ n → n ≤ m + k → LostStart r q n
  lost_start zero m there from below few = grind (arith, lost_or_past m there from below)
  lost_start (suc k) m there from below few = by (lost_or_past m there from below) (λ x i a b c. lost_start k x i a b c)
    where
      by : LostStart r q n ⊎ ((x : ℕ) × IsIn x (starts r q) × (m < x) × (x ≤ n)) → ((x : ℕ) → IsIn x (starts r q) → q.first ≤ x → x ≤ n → n ≤ x + k → LostStart r q n) → LostStart r q n
      by (inl s) more = s
      by (inr (x, i, later, fits)) more = more x i (omega arith) fits (omega arith)

unforwarded_finds : (r : RoutingRow) (q : PlacedRegion) (n : ℕ) → holds q.space n q ≡ true → row_forwards q.space n r ≡ false → (c : ℕ) × (first_unforwarded_address r q ≡ Some c)
unforwarded_finds r q n h gone =
    let held : Holds q.space n q = holds_is q.space n q h in
    let f = lost_start r q n h gone n q.first (inl refl) (omega arith) held.from (omega arith) in
    finds (lost r q) (starts r q) f.0 f.1

-- ---- the first that is there

first_there : {A B : Type 0} (f : A → Option B) (x : A) (xs : List A) (y : B) → IsIn x xs → f x ≡ Some y → first_some f xs ≡ None → ⊥
first_there f x [] y m h none = m
first_there {A} {B} f x (z ∷ xs) y m h none = grind (arith, first_there f x xs y)

-- ---- what is told of forwarding

all_false : {A : Type 0} (t : A → Bool) (x : A) (xs : List A) → IsIn x xs → t x ≡ false → list_all t xs ≡ false
all_false t x [] m h = absurd m
all_false t x (y ∷ xs) m h = grind (arith, all_false t x xs)

blamed : (q : PlacedRegion) (r : RoutingRow) (p : Problem) → blame q r ≡ Some p → (is_ancestor_of r.path q.path ≡ true) × (n : ℕ) × (first_unforwarded_address r q ≡ Some n) × (p ≡ not_forwarded q r.path n)
blamed q r p h = by (is_ancestor_of r.path q.path) (first_unforwarded_address r q) refl refl h
  where
    by : (t : Bool) (o : Option ℕ) → is_ancestor_of r.path q.path ≡ t → first_unforwarded_address r q ≡ o → cond t (option_map (not_forwarded q r.path) o) None ≡ Some p → (is_ancestor_of r.path q.path ≡ true) × (n : ℕ) × (first_unforwarded_address r q ≡ Some n) × (p ≡ not_forwarded q r.path n)
    by t o h k g = grind arith

-- what a problem of the first two kinds says
abbrev pub IsRouted : List RoutingRow → Problem → Type 0
IsRouted rows (not_forwarded q p n) = IsNotForwarded rows q p n
IsRouted rows (contended a b n) = IsContended rows a b n
IsRouted rows (not_found p at instead) = ⊥

-- a bridge with no lost byte to tell forwards all
forwards_rest : (q : PlacedRegion) (r : RoutingRow) → blame q r ≡ None → IsTrue (is_ancestor_of r.path q.path) → ForwardsAll q r
forwards_rest q r none over n h = grind (arith, unforwarded_finds)

lost_byte : (q : PlacedRegion) (r : RoutingRow) (n : ℕ) → first_unforwarded_address r q ≡ Some n → (holds q.space n q ≡ true) × (row_forwards q.space n r ≡ false)
lost_byte q r n found =
    let l : IsLeast n (filter (lost r q) (starts r q)) = found_least (lost r q) (starts r q) n found in
    let passes : lost r q n ≡ true = (from_filter (lost r q) n (starts r q) l.there).1 in
    (left_true (holds q.space n q) (not (row_forwards q.space n r)) passes, not-true (row_forwards q.space n r) (right_true (holds q.space n q) (not (row_forwards q.space n r)) passes))

lost_is : (rows before after : List RoutingRow) (q : PlacedRegion) (r : RoutingRow) (n : ℕ) → IsIn q (open_regions rows) → rows ≡ before ++ r ∷ after
    → Each (λ s. blame q s ≡ None) before → is_ancestor_of r.path q.path ≡ true → first_unforwarded_address r q ≡ Some n → IsNotForwarded rows q r.path n
lost_is rows before after q r n m split none over found =
    let l : IsLeast n (filter (lost r q) (starts r q)) = found_least (lost r q) (starts r q) n found in
    record {
      region = m;
      row = r;
      before = before;
      after = after;
      rows_are = split;
      bridge_is = refl;
      above = over;
      first = each_map (λ s. blame q s ≡ None) (λ s. IsTrue (is_ancestor_of s.path q.path) → ForwardsAll q s) before (forwards_rest q) none;
      byte = (lost_byte q r n found).0;
      lost = (lost_byte q r n found).1;
      least = λ k h gone. let s = lost_start r q k h gone k q.first (inl refl) (omega arith) (holds_is q.space k q h).from (omega arith) in omega (arith, l.below s.0 s.1, s.2);
    }

forwarding_real : (rows : List RoutingRow) (p : Problem) → IsIn p (flat_map (forwarding_problem rows) (open_regions rows)) → IsRouted rows p
forwarding_real rows p m = of_region (from_flat_map (forwarding_problem rows) p (open_regions rows) m)
  where
    of_region : (q : PlacedRegion) × IsIn q (open_regions rows) × IsIn p (forwarding_problem rows q) → IsRouted rows p
    of_region (q, k, l) = of_row (first_from (blame q) rows p (from_option (first_some (blame q) rows) p l))
      where
        of_row : IsFirstTold (blame q) rows p → IsRouted rows p
        of_row f = grind (arith, blamed q f.element p f.told, lost_is)

none_lost : (rows : List RoutingRow) (q : PlacedRegion) → forwarding_problem rows q ≡ [] → IsForwarded rows q
none_lost rows q none n h = all_from (λ s. not (is_ancestor_of s.path q.path) || row_forwards q.space n s) rows (λ r m. by r m (is_ancestor_of r.path q.path) (row_forwards q.space n r) refl refl)
  where
    empty : (o : Option Problem) → option_to_list o ≡ [] → o ≡ None
    empty o e = grind arith

    by : (r : RoutingRow) → IsIn r rows → (t u : Bool) → is_ancestor_of r.path q.path ≡ t → row_forwards q.space n r ≡ u → (not t || u) ≡ true
    by r m false u e f = refl
    by r m true true e f = refl
    by r m true false e f =
        let g = unforwarded_finds r q n h f in
        grind (arith, first_there (blame q) r rows (not_forwarded q r.path g.0) m)

-- ---- what is told of agents

abbrev begins : Agent → Agent → List ℕ
begins a b = map (λ e. e.first) (a.extents ++ b.extents)

abbrev answer_both : Agent → Agent → ℕ → Bool
answer_both a b n = answers a.space n a && answers a.space n b

-- an agent answers where one of its extents holds the address
pub by_extent : (space : Space) (n : ℕ) (a : Agent) → answers space n a ≡ true → (same_space a.space space ≡ true) × (e : Extent) × IsIn e a.extents × Within n e
by_extent space n a h = grind (arith, from_any, right_true, left_true, within_is)

answered : (space : Space) (n : ℕ) (a : Agent) (e : Extent) → same_space a.space space ≡ true → IsIn e a.extents → Within n e → answers space n a ≡ true
answered space n a e h m w = and_from (same_space a.space space) (list_any (extent_holds n) a.extents) h (any_in (extent_holds n) e a.extents m (is_within n e w))

-- where both answer an address, both answer one that is no later and at which one of them begins
shared_start : (a b : Agent) (m : ℕ) → answers a.space m a ≡ true → answers a.space m b ≡ true → (c : ℕ) × IsIn c (filter (answer_both a b) (begins a b)) × (c ≤ m)
shared_start a b m h k = by (leb e.first f.first) refl
  where
    x : (same_space a.space a.space ≡ true) × (e : Extent) × IsIn e a.extents × Within m e
    x = by_extent a.space m a h

    y : (same_space b.space a.space ≡ true) × (e : Extent) × IsIn e b.extents × Within m e
    y = by_extent a.space m b k

    e : Extent
    e = x.1

    f : Extent
    f = y.1

    v : Within m x.1
    v = x.3

    w : Within m y.1
    w = y.3

    start : (c : ℕ) → IsIn c (begins a b) → Within c x.1 → Within c y.1 → IsIn c (filter (answer_both a b) (begins a b))
    start c j o u = in_filter (answer_both a b) c (begins a b) j (and_from (answers a.space c a) (answers a.space c b) (answered a.space c a x.1 x.0 x.2 o) (answered a.space c b y.1 y.0 y.2 u))

    by : (t : Bool) → leb x.1.first y.1.first ≡ t → (c : ℕ) × IsIn c (filter (answer_both a b) (begins a b)) × (c ≤ m)
    by true g =
        let le : x.1.first ≤ y.1.first = leb-true x.1.first y.1.first g in
        (y.1.first, start y.1.first (in_map (λ z. z.first) y.1 (a.extents ++ b.extents) (in_back y.1 a.extents b.extents y.2)) (record { from = le; below = omega (arith, v.below, w.from) }) (record { from = omega arith; below = omega (arith, w.from, w.below) }), w.from)
    by false g =
        let lt : y.1.first < x.1.first = lt_from x.1.first y.1.first g in
        (x.1.first, start x.1.first (in_map (λ z. z.first) x.1 (a.extents ++ b.extents) (in_front x.1 a.extents b.extents x.2)) (record { from = omega arith; below = omega (arith, v.from, v.below) }) (record { from = omega arith; below = omega (arith, v.from, w.below) }), v.from)

-- what both answer at the address that is told
pub record AtShared (a b : Agent) (n : ℕ) : Type 0 where
  pub one : answers a.space n a ≡ true
  pub other : answers a.space n b ≡ true
  pub least : (m : ℕ) → answers a.space m a ≡ true → answers a.space m b ≡ true → n ≤ m

shared_is : (a b : Agent) (n : ℕ) → shared a b ≡ Some n → AtShared a b n
shared_is a b n e =
    let l : IsLeast n (filter (answer_both a b) (begins a b)) = found_least (answer_both a b) (begins a b) n e in
    let passes : answer_both a b n ≡ true = (from_filter (answer_both a b) n (begins a b) l.there).1 in
    record {
      one = left_true (answers a.space n a) (answers a.space n b) passes;
      other = right_true (answers a.space n a) (answers a.space n b) passes;
      least = λ m h k. let s = shared_start a b m h k in omega (arith, l.below s.0 s.1, s.2);
    }

contention_real : (rows : List RoutingRow) (a b : Agent) (p : Problem) → IsBefore a b (agents rows) → IsIn p (contention a b) → IsRouted rows p
contention_real rows a b p two m = grind (arith, shared_is)

contentions_real : (rows : List RoutingRow) (xs : List Agent) → ((a b : Agent) → IsBefore a b xs → IsBefore a b (agents rows)) → (p : Problem) → IsIn p (contentions xs) → IsRouted rows p
contentions_real rows [] two p m = absurd m
contentions_real rows (a ∷ bs) two p m =
    grind (arith, front_or_back p (flat_map (contention a) bs) (contentions bs) m, contentions_real rows bs, from_flat_map (contention a) p bs, contention_real, two a)

alone_is : (a b : Agent) → contention a b ≡ [] → AreAlone a b
alone_is a b none bus space n h = grind (arith, space_same, by_extent, shared_start, finds)

pub no_contention : (a b : Agent) → AreAlone a b → contention a b ≡ []
no_contention a b alone = grind (arith, found_least, from_filter)

-- ---- pairs of agents

all_alone : (xs : List Agent) → contentions xs ≡ [] → EachPair AreAlone xs
all_alone [] h = tt
all_alone (a ∷ bs) h = (
  each_map (λ b. contention a b ≡ []) (AreAlone a) bs (alone_is a) (none_each (contention a) bs (none_front (flat_map (contention a) bs) (contentions bs) h)),
  all_alone bs (none_back (flat_map (contention a) bs) (contentions bs) h),
)

pub no_contentions : (xs : List Agent) → EachPair AreAlone xs → contentions xs ≡ []
no_contentions [] h = refl
no_contentions (a ∷ bs) h = ap₂ ◌++◌ (each_none (contention a) bs (each_map (AreAlone a) (λ b. contention a b ≡ []) bs (no_contention a) h.0)) (no_contentions bs h.1)

-- ---- the laws

pub routing_is_real : (rows : List RoutingRow) (p : Problem) → IsIn p (routing_problems rows) → IsRouted rows p
routing_is_real rows p m =
    grind (arith, front_or_back p (flat_map (forwarding_problem rows) (open_regions rows)) (contentions (agents rows)) m, forwarding_real, contentions_real)

orderly_is : (rows : List RoutingRow) → routing_problems rows ≡ [] → IsOrderly rows
orderly_is rows h = record {
  forwarded = each_map (λ q. forwarding_problem rows q ≡ []) (IsForwarded rows) (open_regions rows) (none_lost rows) (none_each (forwarding_problem rows) (open_regions rows) (none_front (flat_map (forwarding_problem rows) (open_regions rows)) (contentions (agents rows)) h));
  alone = all_alone (agents rows) (none_back (flat_map (forwarding_problem rows) (open_regions rows)) (contentions (agents rows)) h);
}

is_orderly : (rows : List RoutingRow) → IsOrderly rows → routing_problems rows ≡ []
is_orderly rows h = ap₂ ◌++◌ (each_none (forwarding_problem rows) (open_regions rows) (each_from (λ q. forwarding_problem rows q ≡ []) (open_regions rows) none)) (no_contentions (agents rows) h.alone)
  where
    none : (q : PlacedRegion) → IsIn q (open_regions rows) → forwarding_problem rows q ≡ []
    none q m = no_elements (forwarding_problem rows q) (λ p k. bad p k (first_from (blame q) rows p (from_option (first_some (blame q) rows) p k)))
      where
        bad : (p : Problem) → IsIn p (forwarding_problem rows q) → IsFirstTold (blame q) rows p → ⊥
        bad p k f =
            let g = blamed q f.element p f.told in
            grind (arith, lost_byte q f.element g.1 g.2, each_in (IsForwarded rows) q (open_regions rows) h.forwarded m g.1, in_back f.element f.before (f.element ∷ f.after) (inl refl), all_false)

pub routing_decides : RoutingDecides
routing_decides rows = (orderly_is rows, is_orderly rows)
