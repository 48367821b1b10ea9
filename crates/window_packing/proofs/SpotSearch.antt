-- The search for an item among the spots of a bus, which stand in strict order.
use Rattle.std.{proofs.{Common.{◌≡◌, ℕ, zero, suc, ◌≤◌, ◌<◌, ◌⊎◌, inl, inr, Bool, true, false, ◌&&◌, List, [], ◌∷◌, length, Some, refl, sym, ap, ◌∙◌, subst, arith, get_or}, lemmas.{Option.{get_or_from_slice_get, slice_get_within}, Bool.{and_parts, cases_lt, false_from_ne_true, Decides.nat_tests}}}, specs.{Prelude.{IsTrue, nat_lt, ◌==◌, ◌||◌}, List.{slice_get, Sorted.{IsPartitionedBy, IsPartitionPoint}}}}
use Rattle.lists.{specs.Elements.{Each, EachPair}, proofs.Indices.{at_below, each_at, pair_at}}
use Rattle.model_board.{specs.Paths.{Part, part_eq}, proofs.PathOrder.part_same}
use Rattle.model_set_up.{specs.Placement.{Placed, same_placed, register_of, PlacementItem, PlacedItem, stands_before, is_item, offset_in}, proofs.InOrder.one_way}
use Rattle.window_packing.specs.Searching.{IsFirstFrom}

chain : (i j k : PlacementItem) → stands_before i j ≡ false → stands_before j k ≡ false → stands_before i k ≡ false
chain i j k h l = grind (arith, nat_tests)

before_trans : (i j k : PlacementItem) → stands_before i j ≡ true → stands_before j k ≡ true → stands_before i k ≡ true
before_trans i j k h l = by_test (stands_before i k) refl
  where
    by_test : (t : Bool) → stands_before i k ≡ t → t ≡ true
    by_test true e = refl
    by_test false e = let no : true ≡ false = sym h ∙ chain i k j e (one_way j k l) in cc

abbrev before_key : PlacementItem → ℕ → Part → ℕ → Bool
before_key i align part n =
    nat_lt align i.align || (i.align == align && (nat_lt i.part.device part.device
    || (i.part.device == part.device && (nat_lt i.part.function part.function
    || (i.part.function == part.function && nat_lt (register_of i.what) n)))))

-- what stands before an item stands before any other of its place in the order
before_like : (i j k : PlacementItem) → j.align ≡ k.align → j.part ≡ k.part → register_of j.what ≡ register_of k.what → stands_before i j ≡ stands_before i k
before_like i j k a p r = λ n. before_key i (a n) (p n) (r n)

abbrev pub AreStrict : List PlacedItem → Type 0
AreStrict ss = EachPair (λ (s t : PlacedItem). IsTrue (stands_before s.item t.item)) ss

module _ (ss : List PlacedItem) (key : PlacementItem) (strict : AreStrict ss) where
  sides : (x y : ℕ) → (x < y) ⊎ ((x ≡ y) ⊎ (y < x))
  sides x y = grind arith

  -- what stands before a spot that stands before the key stands before the key
  pub parted : IsPartitionedBy (λ (s : PlacedItem). stands_before s.item key) ss
  parted i j d le within holds = by_side (cases_lt i j)
    where
      by_side : (i < j) ⊎ (j ≤ i) → stands_before (get_or ss i d).item key ≡ true
      by_side (inl l) =
          let s = at_below ss i (omega arith) in
          let t = at_below ss j within in
          let first : stands_before s.0.item t.0.item ≡ true = pair_at (λ (x y : PlacedItem). IsTrue (stands_before x.item y.item)) ss i j s.0 t.0 strict l s.1 t.1 in
          let second : stands_before t.0.item key ≡ true = subst (λ (x : PlacedItem). stands_before x.item key ≡ true) (get_or_from_slice_get ss j t.0 d t.1) holds in
          subst (λ (x : PlacedItem). stands_before x.item key ≡ true) (sym (get_or_from_slice_get ss i s.0 d s.1)) (before_trans s.0.item t.0.item key first second)
      by_side (inr l) = let e : i ≡ j = omega arith in subst (λ n. stands_before (get_or ss n d).item key ≡ true) (sym e) holds

  pub first_of_point : (n : ℕ) → n ≤ length ss → IsPartitionPoint (λ (s : PlacedItem). stands_before s.item key ≡ true) (λ (s : PlacedItem). stands_before s.item key ≡ false) ss n → IsFirstFrom ss key n
  first_of_point n bound point = record {
    within = bound;
    before = λ k s l e. subst (λ (x : PlacedItem). stands_before x.item key ≡ true) (get_or_from_slice_get ss k s s e) (point.0 k s (omega arith) l);
    later = λ k s l e. subst (λ (x : PlacedItem). stands_before x.item key ≡ false) (get_or_from_slice_get ss k s s e) (point.1 k s l (let w = slice_get_within ss k s e in w));
  }

  -- ---- what is found

  module _ (align : Each (λ s. IsTrue (is_item key.part key.what s.item) → s.item.align ≡ key.align) ss) (n : ℕ) (first : IsFirstFrom ss key n) where
    same_register : (v w : Placed) → same_placed v w ≡ true → register_of v ≡ register_of w
    same_register v w h = grind (arith, nat_tests)

    -- an item of the same region or window has the key's place in the order
    like : (i : PlacementItem) (k : ℕ) (t : PlacedItem) → slice_get ss k ≡ Some t → is_item key.part key.what t.item ≡ true → stands_before i t.item ≡ stands_before i key
    like i k t e h =
        let parts = and_parts (part_eq t.item.part key.part) (same_placed t.item.what key.what) h in
        before_like i t.item key (each_at (λ s. IsTrue (is_item key.part key.what s.item) → s.item.align ≡ key.align) ss k t align e h) (part_same t.item.part key.part parts.0) (same_register t.item.what key.what parts.1)

    irreflexive : (i : PlacementItem) → stands_before i i ≡ true → ⊥
    irreflexive i h = grind (arith, nat_tests)

    -- so it stands where the search ends
    only_there : (k : ℕ) (t : PlacedItem) → slice_get ss k ≡ Some t → is_item key.part key.what t.item ≡ true → k ≡ n
    only_there k t e h = by_side (sides k n)
      where
        by_side : (k < n) ⊎ ((k ≡ n) ⊎ (n < k)) → k ≡ n
        by_side (inl l) =
            let b : stands_before t.item key ≡ true = first.before k t l e in
            absurd (irreflexive t.item (like t.item k t e h ∙ b))
        by_side (inr (inl l)) = l
        by_side (inr (inr l)) =
            let w = slice_get_within ss k t e in
            let s = at_below ss n (omega (arith, w, l)) in
            let b : stands_before s.0.item t.item ≡ true = pair_at (λ (x y : PlacedItem). IsTrue (stands_before x.item y.item)) ss n k s.0 t strict l s.1 e in
            let no : stands_before s.0.item key ≡ false = first.later n s.0 (omega arith) s.1 in
            let clash : true ≡ false = sym b ∙ like s.0.item k t e h ∙ no in cc

    pub none_there : ((t : PlacedItem) → slice_get ss n ≡ Some t → is_item key.part key.what t.item ≡ false) → offset_in ss key.part key.what ≡ 0
    none_there h = none ss (λ k t e. false_from_ne_true (is_item key.part key.what t.item) (λ u.
        let at = only_there k t e u in
        let no : is_item key.part key.what t.item ≡ false = h t (subst (λ m. slice_get ss m ≡ Some t) at e) in
        let clash : true ≡ false = sym u ∙ no in cc))
      where
        none : (ts : List PlacedItem) → ((k : ℕ) (t : PlacedItem) → slice_get ts k ≡ Some t → is_item key.part key.what t.item ≡ false) → offset_in ts key.part key.what ≡ 0
        none [] h = refl
        none (t ∷ ts) h = rw (h 0 t refl) (none ts (λ k u e. h (suc k) u e))

    pub there : (t : PlacedItem) → slice_get ss n ≡ Some t → is_item key.part key.what t.item ≡ true → offset_in ss key.part key.what ≡ t.first
    there t e h = one ss n t e h (λ k u l f. false_from_ne_true (is_item key.part key.what u.item) (λ v. absurd (omega (arith, l, only_there k u f v))))
      where
        one : (ts : List PlacedItem) (m : ℕ) (t : PlacedItem) → slice_get ts m ≡ Some t → is_item key.part key.what t.item ≡ true → ((k : ℕ) (u : PlacedItem) → k < m → slice_get ts k ≡ Some u → is_item key.part key.what u.item ≡ false) → offset_in ts key.part key.what ≡ t.first
        one [] m t e h none = absurd (cc)
        one (u ∷ ts) zero t e h none = let same : u ≡ t = cc in let here : is_item key.part key.what u.item ≡ true = subst (λ (x : PlacedItem). is_item key.part key.what x.item ≡ true) (sym same) h in rw here (ap (λ (x : PlacedItem). x.first) same)
        one (u ∷ ts) (suc m) t e h none = rw (none 0 u (omega arith) refl) (one ts m t e h (λ k v l f. none (suc k) v (omega arith) f))
