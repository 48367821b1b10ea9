-- Buses packed from the last row to the first: what is gathered of the items of the buses that are left.
use Rattle.std.{proofs.{Common.{◌≡◌, ℕ, suc, ◌+◌, ◌≤◌, ◌^◌, Bool, true, false, cond, Some, List, [], ◌∷◌, ◌++◌, length, drop, refl, sym, ap, ◌∙◌, subst, arith, length-append, get_or-set_other, get_or-set_same}, lemmas.{Option.{slice_get_within, get_or_from_slice_get}, List.{drop_more, get_or_append_left, drop_all, reverse-append, Sorted.{IsPermutation-trans, IsPermutation-append_comm, IsPermutation-append_left}}, Bool.cases_lt}, Math.ListN.length-set}, specs.{Prelude.{map, flat_map, reverse, slice_get, slice_set, All}, List.Sorted.IsPermutation}}
use Rattle.lists.{proofs.Indices.read_at, specs.Elements.Each}
use Rattle.model_board.{specs.{Paths.{Path, path_eq, parent}, Board.{Row, Board, rows_on, IsBoard}}, proofs.{PathOrder.path_same, PathEnds.path_self}}
use Rattle.model_set_up.{specs.{Pools.Pool, Placement.{PlacementItem, items_of, items_on}}, proofs.Levels.bus_items_are_bars_and_windows}
use Rattle.model_registers.specs.Apertures.{Apertures}
use Rattle.window_packing.{specs.{Buses.bus_path, Packs.{PackedBus, pack_of}}, proofs.BusIndices.{rows_behind, bus_index}}

-- ---- lists by index

pub drop_at : {A : Type 0} (i : ℕ) (xs : List A) (x : A) → slice_get xs i ≡ Some x → drop i xs ≡ x ∷ drop (i + 1) xs
drop_at i xs x e = drop_more xs i x (slice_get_within xs i x e) ∙ ap (λ z. z ∷ drop (i + 1) xs) (get_or_from_slice_get xs i x x e)

pub front_at : {A : Type 0} (xs ys : List A) (k : ℕ) (x : A) → slice_get xs k ≡ Some x → slice_get (xs ++ ys) k ≡ Some x
front_at xs ys k x e =
    let l = slice_get_within xs k x e in
    read_at (xs ++ ys) k x (omega (arith, l, length-append xs ys)) (sym (get_or_append_left xs ys x k l ∙ get_or_from_slice_get xs k x x e))

pub last_at : {A : Type 0} (xs : List A) (x : A) → slice_get (xs ++ x ∷ []) (length xs) ≡ Some x
last_at [] x = refl
last_at (y ∷ xs) x = last_at xs x

pub set_other : {A : Type 0} (xs : List A) (i k : ℕ) (x y : A) → (i ≡ k → ⊥) → slice_get (slice_set xs i x) k ≡ Some y → slice_get xs k ≡ Some y
set_other xs i k x y ne e =
    let l = slice_get_within (slice_set xs i x) k y e in
    read_at xs k y (omega (arith, l, length-set xs i x)) (sym (get_or_from_slice_get (slice_set xs i x) k y y e) ∙ get_or-set_other xs i k x y (λ s. ne (sym s)))

pub set_here : {A : Type 0} (xs : List A) (i : ℕ) (x y : A) → slice_get (slice_set xs i x) i ≡ Some y → y ≡ x
set_here xs i x y e =
    let l = slice_get_within (slice_set xs i x) i y e in
    sym (get_or_from_slice_get (slice_set xs i x) i y y e) ∙ get_or-set_same xs i x y (omega (arith, l, length-set xs i x))

-- ---- what is gathered

-- what the rows have on a bus
abbrev pub items_from : Board → Apertures → Pool → Board → Path → List PlacementItem
items_from b a pool rows bus = flat_map (items_of b a pool (items_on b a pool)) (rows_on rows bus)

-- the buses behind the rows from i on are packed, the last row's first; of those that are left, the items of these rows are gathered
pub record IsGathered (b : Board) (a : Apertures) (pool : Pool) {V : Type 0} (contents : V → List PlacementItem) (i : ℕ) (buses : List V) (packs : List PackedBus) : Type 0 where
  pub count : length buses ≡ i + 1
  pub own : (k : ℕ) (v : V) → slice_get buses k ≡ Some v → IsPermutation (items_from b a pool (drop i b) (bus_path b k)) (contents v)
  pub packed : reverse packs ≡ map (λ (r : Row). pack_of b a pool r.path) (drop i b)
  pub ends : Each (λ (p : PackedBus). p.end ≤ 2 ^ 63) (reverse packs)

module _ (b : Board) (a : Apertures) (pool : Pool) (board : IsBoard b) {V : Type 0} (contents : V → List PlacementItem) where
  -- at first nothing is
  pub none_gathered : (buses : List V) → length buses ≡ length b + 1 → All (λ v. contents v ≡ []) buses → IsGathered b a pool contents (length b) buses []
  none_gathered buses count none = grind (arith, drop_all, get_or_from_slice_get, slice_get_within)

  -- the last of the buses that are left has all its items
  pub last_gathered : (i : ℕ) (r : Row) (buses : List V) (v : V) (packs : List PackedBus) → slice_get b i ≡ Some r → IsGathered b a pool contents (i + 1) (buses ++ v ∷ []) packs
      → length buses ≡ i + 1 → IsPermutation (items_on b a pool r.path) (contents v)
  last_gathered i r buses v packs at h count =
      let one : i + 1 ≡ suc i = omega arith in
      let whole : bus_path b (i + 1) ≡ r.path = rw (one, at) refl in
      let there : slice_get (buses ++ v ∷ []) (i + 1) ≡ Some v = subst (λ n. slice_get (buses ++ v ∷ []) n ≡ Some v) count (last_at buses v) in
      let gathered : IsPermutation (items_from b a pool (drop (i + 1) b) (bus_path b (i + 1))) (contents v) = h.own (i + 1) v there in
      let all : items_from b a pool (drop (i + 1) b) (bus_path b (i + 1)) ≡ items_on b a pool r.path =
      ap (items_from b a pool (drop (i + 1) b)) whole ∙ ap (flat_map (items_of b a pool (items_on b a pool))) (rows_behind b board i r at) ∙ sym (bus_items_are_bars_and_windows b board a pool r.path) in
      subst (λ (is : List PlacementItem). IsPermutation is (contents v)) all gathered

  -- in the end bus 0 has
  pub root_gathered : (v : V) (packs : List PackedBus) → IsGathered b a pool contents 0 (v ∷ []) packs → IsPermutation (items_on b a pool []) (contents v)
  root_gathered v packs h = subst (λ (is : List PlacementItem). IsPermutation is (contents v)) (sym (bus_items_are_bars_and_windows b board a pool [])) (h.own 0 v refl)

  -- one row more
  pub more_gathered : (i : ℕ) (r : Row) (buses : List V) (v : V) (packs : List PackedBus) (pack : PackedBus) (k : ℕ) (u w : V) → slice_get b i ≡ Some r
      → IsGathered b a pool contents (i + 1) (buses ++ v ∷ []) packs → length buses ≡ i + 1 → pack ≡ pack_of b a pool r.path → pack.end ≤ 2 ^ 63
      → bus_path b k ≡ parent r.path → k ≤ length b → slice_get buses k ≡ Some u → contents w ≡ contents u ++ items_of b a pool (items_on b a pool) r
      → IsGathered b a pool contents i (slice_set buses k w) (packs ++ pack ∷ [])
  more_gathered i r buses v packs pack k u w at h count is ends up within here added = record {
    count = length-set buses k w ∙ count;
    own = own;
    packed = reverse-append packs (pack ∷ []) ∙ ap (λ (x : List PackedBus). pack ∷ x) h.packed ∙ ap (λ (x : PackedBus). x ∷ map (λ (s : Row). pack_of b a pool s.path) (drop (i + 1) b)) is ∙ ap (map (λ (s : Row). pack_of b a pool s.path)) (sym (drop_at i b r at));
    ends = rw (reverse-append packs (pack ∷ [])) (ends, h.ends);
  }
    where
      of_row : List PlacementItem
      of_row = items_of b a pool (items_on b a pool) r

      rest : Path → List PlacementItem
      rest bus = items_from b a pool (drop (i + 1) b) bus

      before : (j : ℕ) (x : V) → slice_get buses j ≡ Some x → IsPermutation (items_from b a pool (drop (i + 1) b) (bus_path b j)) (contents x)
      before j x e = h.own j x (front_at buses (v ∷ []) j x e)

      split : (bus : Path) → items_from b a pool (drop i b) bus ≡ flat_map (items_of b a pool (items_on b a pool)) (cond (path_eq (parent r.path) bus) (r ∷ rows_on (drop (i + 1) b) bus) (rows_on (drop (i + 1) b) bus))
      split bus = ap (λ (x : Board). items_from b a pool x bus) (drop_at i b r at)

      at_own : IsPermutation (items_from b a pool (drop i b) (bus_path b k)) (contents w)
      at_own =
          let rows : Board = rows_on (drop (i + 1) b) (bus_path b k) in
          let yes : path_eq (parent r.path) (bus_path b k) ≡ true = subst (λ (q : Path). path_eq (parent r.path) q ≡ true) (sym up) (path_self (parent r.path)) in
          let all : items_from b a pool (drop i b) (bus_path b k) ≡ of_row ++ rest (bus_path b k) =
          split (bus_path b k) ∙ ap (λ (t : Bool). flat_map (items_of b a pool (items_on b a pool)) (cond t (r ∷ rows) rows)) yes in
          let moved : IsPermutation (of_row ++ rest (bus_path b k)) (contents u ++ of_row) =
          IsPermutation-trans (of_row ++ rest (bus_path b k)) (rest (bus_path b k) ++ of_row) (contents u ++ of_row)
          (IsPermutation-append_comm of_row (rest (bus_path b k))) (IsPermutation-append_left of_row (rest (bus_path b k)) (contents u) (before k u here)) in
          subst (λ (is : List PlacementItem). IsPermutation is (contents w)) (sym all) (subst (λ (is : List PlacementItem). IsPermutation (of_row ++ rest (bus_path b k)) is) (sym added) moved)

      on : (j : ℕ) (x : V) → k ≡ j → slice_get (slice_set buses k w) j ≡ Some x → IsPermutation (items_from b a pool (drop i b) (bus_path b j)) (contents x)
      on j x same e =
          let x_is : x ≡ w = set_here buses k w x (subst (λ n. slice_get (slice_set buses k w) n ≡ Some x) (sym same) e) in
          subst (λ (y : V). IsPermutation (items_from b a pool (drop i b) (bus_path b j)) (contents y)) (sym x_is)
          (subst (λ n. IsPermutation (items_from b a pool (drop i b) (bus_path b n)) (contents w)) same at_own)

      off : (j : ℕ) (x : V) → (k ≡ j → ⊥) → slice_get (slice_set buses k w) j ≡ Some x → IsPermutation (items_from b a pool (drop i b) (bus_path b j)) (contents x)
      off j x other e =
          let there : slice_get buses j ≡ Some x = set_other buses k j w x other e in
          let rows : Board = rows_on (drop (i + 1) b) (bus_path b j) in
          let all : items_from b a pool (drop i b) (bus_path b j) ≡ rest (bus_path b j) =
          split (bus_path b j) ∙ ap (λ (t : Bool). flat_map (items_of b a pool (items_on b a pool)) (cond t (r ∷ rows) rows)) (not_there (path_eq (parent r.path) (bus_path b j)) refl) in
          subst (λ (is : List PlacementItem). IsPermutation is (contents x)) (sym all) (before j x there)
        where
          not_there : (t : Bool) → path_eq (parent r.path) (bus_path b j) ≡ t → t ≡ false
          not_there false same = refl
          not_there true same =
              let there : slice_get buses j ≡ Some x = set_other buses k j w x other e in
              let few : j ≤ length b = omega (arith, slice_get_within b i r at, slice_get_within buses j x there, count) in
              absurd (other (bus_index b board k j within few (up ∙ path_same (parent r.path) (bus_path b j) same)))

      own : (j : ℕ) (x : V) → slice_get (slice_set buses k w) j ≡ Some x → IsPermutation (items_from b a pool (drop i b) (bus_path b j)) (contents x)
      own j x e = grind (arith, cases_lt, off, on)
