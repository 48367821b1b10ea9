-- The buses of a board by index: the functions of a bus stand after its bridge, and no two buses are one.
use Rattle.std.{proofs.{Common.{◌≡◌, ℕ, zero, suc, ◌+◌, ◌<◌, ◌≤◌, ◌⊎◌, inl, inr, Bool, true, false, Some, List, [], ◌∷◌, length, drop, refl, sym, ap, ◌∙◌, subst, arith}, lemmas.Bool.cases_lt}, specs.Prelude.{filter, slice_get, IsTrue}}
use Rattle.window_packing.{proofs.BusIndex.bus_behind, specs.Buses.bus_path}
use Rattle.model_board.{specs.{Paths.{Path, path_eq, path_before, is_ancestor_of, parent, IsPath}, Board.{Row, Board, rows_on, IsBoard}}, proofs.{PathOrder.{leads_before, path_same}, PathEnds.not_before_itself}}
use Rattle.lists.proofs.Indices.{at_below, each_at, pair_at, same_at}
use Rattle.bridge_forward.proofs.{Nodes.parent_leads, BoardOrder.weak_order}

pub filter-drop : {A : Type 0} (t : A → Bool) (n : ℕ) (xs : List A) → ((j : ℕ) (x : A) → j < n → slice_get xs j ≡ Some x → t x ≡ false) → filter t (drop n xs) ≡ filter t xs
filter-drop t zero xs h = refl
filter-drop t (suc n) [] h = refl
filter-drop t (suc n) (x ∷ xs) h =
    let no : t x ≡ false = h 0 x (omega arith) refl in
    rw no (filter-drop t n xs (λ j y l e. h (suc j) y (omega arith) e))

module _ (b : Board) (board : IsBoard b) where
  some_path : (i : ℕ) (r : Row) → slice_get b i ≡ Some r → 0 < length r.path
  some_path i r at = (each_at (λ (s : Row). IsPath s.path) b i r board.paths at).some

  -- what stands on the bus behind a row stands after it
  pub stands_after : (i j : ℕ) (r s : Row) → slice_get b i ≡ Some r → slice_get b j ≡ Some s → parent s.path ≡ r.path → i < j
  stands_after i j r s here there up = by_order (cases_lt i j)
    where
      before : path_before r.path s.path ≡ true
      before = leads_before r.path s.path (subst (λ (q : Path). is_ancestor_of q s.path ≡ true) up (parent_leads s.path (some_path j s there)))

      less : j < i → ⊥
      less l =
          let turned : path_before s.path r.path ≡ true = pair_at (λ (x y : Row). IsTrue (path_before x.path y.path)) b j i s r board.in_order l there here in
          let no : true ≡ false = sym turned ∙ weak_order.one_way r s before in cc

      by_order : (i < j) ⊎ (j ≤ i) → i < j
      by_order (inl l) = l
      by_order (inr l) = grind (arith, cases_lt, less, same_at, not_before_itself, before)

  -- so all that stands behind a row is among the rows after it
  pub rows_behind : (i : ℕ) (r : Row) → slice_get b i ≡ Some r → rows_on (drop (i + 1) b) r.path ≡ rows_on b r.path
  rows_behind i r at = filter-drop (λ s. path_eq (parent s.path) r.path) (i + 1) b (λ j s l there. by_test j s l there (path_eq (parent s.path) r.path) refl)
    where
      by_test : (j : ℕ) (s : Row) → j < i + 1 → slice_get b j ≡ Some s → (t : Bool) → path_eq (parent s.path) r.path ≡ t → t ≡ false
      by_test j s l there false e = refl
      by_test j s l there true e = absurd (omega (arith, stands_after i j r s at there (path_same (parent s.path) r.path e)))

  bus_row : (n : ℕ) → n < length b → (s : Row) × (slice_get b n ≡ Some s) × (bus_path b (suc n) ≡ s.path)
  bus_row n l = let s = at_below b n l in (s.0, s.1, bus_behind b n s.0 s.1)

  -- the bus of a row stands behind an earlier row, or is bus 0
  pub bus_before : (i : ℕ) (r : Row) (k : ℕ) → slice_get b i ≡ Some r → bus_path b k ≡ parent r.path → k ≤ length b → k ≤ i
  bus_before i r zero at e l = omega arith
  bus_before i r (suc n) at e l =
      let s = bus_row n (omega arith) in
      grind (arith, stands_after)

  -- buses of different indices differ
  pub bus_index : (k m : ℕ) → k ≤ length b → m ≤ length b → bus_path b k ≡ bus_path b m → k ≡ m
  bus_index zero zero l h e = refl
  bus_index zero (suc m) l h e =
      let s = bus_row m (omega arith) in
      absurd (omega (arith, some_path m s.0 s.1, ap length (e ∙ s.2)))
  bus_index (suc k) zero l h e =
      let s = bus_row k (omega arith) in
      absurd (omega (arith, some_path k s.0 s.1, ap length (sym e ∙ s.2)))
  bus_index (suc k) (suc m) l h e = by_order (cases_lt k m)
    where
      two : (k m : ℕ) → k < length b → m < length b → k < m → bus_path b (suc k) ≡ bus_path b (suc m) → ⊥
      two k m l h lt e =
          let s = bus_row k l in
          let t = bus_row m h in
          let before : path_before s.0.path t.0.path ≡ true = pair_at (λ (x y : Row). IsTrue (path_before x.path y.path)) b k m s.0 t.0 board.in_order lt s.1 t.1 in
          not_before_itself t.0.path (subst (λ (q : Path). path_before q t.0.path ≡ true) (sym s.2 ∙ e ∙ t.2) before)

      by_order : (k < m) ⊎ (m ≤ k) → suc k ≡ suc m
      by_order lt = grind (arith, two, cases_lt)
