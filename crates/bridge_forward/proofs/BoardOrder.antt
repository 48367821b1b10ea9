-- Rows that a sort puts into path order are those of the board.
use Rattle.std.{proofs.{Common.{◌≡◌, ℕ, suc, ◌<◌, ◌⊎◌, inl, inr, Bool, true, Some, List, [], ◌∷◌, refl, sym, ap, ap₂, ◌∙◌, subst, arith, get_or, map}, lemmas.{Option.{slice_get_within, slice_get-get_or, get_or_from_slice_get}, List.Sorted.{IsPermutation-sym, sorted_far}, Map.Keys.{IsDistinct-from_apart, IsDistinct-IsPermutation, apart_from_distinct}, Simd.map-map}}, specs.{Cmp.IsStrictWeakOrder, List.{slice_get, IsDistinct, list_any, Sorted.{IsPermutation, IsSortedBy}}}}
use Rattle.lists.{specs.Elements.{Each, EachPair, IsIn}, proofs.{EachLemmas.{each_map, each_permutation, each_of_map}, Indices.{each_by_index, map_at, pair_at}, Members.{each_in, each_from, pairs_of_map}}}
use Rattle.model_board.{specs.{Paths.{Path, path_eq, path_before, parent, IsPath}, Board.{Row, Board, IsBoard, is_bridge_at}, Places.{board_of, row_inserted, standing}, State.BoardFunction}, proofs.{PathOrder.{path_same, before_trans}, PathEnds.{not_before_itself, no_turn, path_eq-sym}, PlacesLaw.{path_total, each_from_board, each_to_board, lawful_places_are_boards}}}
use Rattle.bridge_forward.specs.{declared.bus.Node.Node, Layout.{functions_of, paths_of, AreInOrder}, Resets.reset_functions}

abbrev pub before : Row → Row → Bool
before r s = path_before r.path s.path

-- ---- path order is a strict weak order

pub weak_order : IsStrictWeakOrder before
weak_order = record {
  one_way = λ r s h. grind (arith, no_turn r.path s.path);
  chain = λ r s t h k. grind (arith, before_trans s.path r.path t.path, path_total r.path s.path h, path_same r.path s.path);
}

abbrev Before : Row → Row → Type 0
Before r s = before r s ≡ true

-- what holds of each two indices holds of each pair
pairs_by_index : {A : Type 0} (R : A → A → Type 0) (xs : List A) → ((i j : ℕ) (x y : A) → i < j → slice_get xs i ≡ Some x → slice_get xs j ≡ Some y → R x y) → EachPair R xs
pairs_by_index R [] h = tt
pairs_by_index R (x ∷ xs) h = (each_by_index (R x) xs (λ i y e. h 0 (suc i) x y (omega arith) refl e), pairs_by_index R xs (λ i j y z l e f. h (suc i) (suc j) y z (omega arith) e f))

-- no two rows share a path
abbrev shares : Row → Row → Bool
shares r s = path_eq s.path r.path

apart : (rs : List Row) → IsBoard (board_of rs) → IsDistinct shares rs
apart rs h = IsDistinct-from_apart shares rs (λ i j d l k.
    pair_at _ (map standing rs) i j (standing (get_or rs i d)) (standing (get_or rs j d)) ((lawful_places_are_boards rs).1 h).apart l
    (map_at standing rs i _ (slice_get-get_or rs i d (omega arith))) (map_at standing rs j _ (slice_get-get_or rs j d k)))

-- rows that a sort leaves, no two of one path, stand in strict order
strict : (ys : List Row) → IsSortedBy before ys → IsDistinct shares ys → EachPair Before ys
strict ys sorted distinct = pairs_by_index Before ys (λ i j x y l e f.
    let k = slice_get_within ys j y f in
    let later = sorted_far before weak_order ys sorted i j x (omega arith) k in
    let other = apart_from_distinct shares ys i j x distinct l k in
    path_total y.path x.path (rw (get_or_from_slice_get ys i x x e, get_or_from_slice_get ys j y x f) at later) (rw (get_or_from_slice_get ys i x x e, get_or_from_slice_get ys j y x f) at other))

-- rows in strict order that are the same rows are one list
others : (x w : Row) (xs zs : List Row) → w ≡ x → Each (Before x) xs → Each (λ r. (r ≡ w) ⊎ IsIn r zs) xs → Each (λ r. IsIn r zs) xs
others x w [] zs q o m = tt
others x w (z ∷ xs) zs q o m = (elim m.0 [ inl e ↦ absurd (not_before_itself x.path (rw (e ∙ q) at o.0)) | inr k ↦ k ], others x w xs zs q o.1 m.1)

same_rows : (bs ys : List Row) → EachPair Before bs → EachPair Before ys → Each (λ r. IsIn r ys) bs → Each (λ r. IsIn r bs) ys → ys ≡ bs
same_rows [] [] o u a c = refl
same_rows [] (y ∷ ys) o u a c = absurd c.0
same_rows (b ∷ bs) [] o u a c = absurd a.0
same_rows (b ∷ bs) (y ∷ ys) o u a c = by_head a.0 c.0 (same_rows bs ys o.1 u.1)
  where
    by_head : (b ≡ y) ⊎ IsIn b ys → (y ≡ b) ⊎ IsIn y bs → (Each (λ r. IsIn r ys) bs → Each (λ r. IsIn r bs) ys → ys ≡ bs) → y ∷ ys ≡ b ∷ bs
    by_head m (inl e) more = ap₂ (λ (r : Row) (rs : List Row). r ∷ rs) e (more (others b y bs ys e o.0 a.1) (others y b ys bs (sym e) u.0 c.1))
    by_head (inl e) (inr k) more = absurd (not_before_itself y.path (rw e at (each_in (Before b) y bs o.0 k)))
    by_head (inr m) (inr k) more = absurd (no_turn y.path b.path (each_in (Before y) b ys u.0 m) (each_in (Before b) y bs o.0 k))

-- what a sort by path order leaves is the board
pub sorted_is_board : (rs ys : List Row) → IsBoard (board_of rs) → IsPermutation rs ys → IsSortedBy before ys → ys ≡ board_of rs
sorted_is_board rs ys board moved sorted =
    same_rows (board_of rs) ys board.in_order (strict ys sorted (IsDistinct-IsPermutation shares (λ x y. path_eq-sym y.path x.path) rs ys moved (apart rs board)))
    (each_to_board (λ r. IsIn r ys) rs (each_permutation (λ r. IsIn r ys) ys rs (IsPermutation-sym rs ys moved) (each_from (λ r. IsIn r ys) ys (λ x m. m))))
    (each_permutation (λ r. IsIn r (board_of rs)) rs ys moved (each_from_board (λ r. IsIn r (board_of rs)) rs (each_from (λ r. IsIn r (board_of rs)) (board_of rs) (λ x m. m))))

-- a board's rows in path order are the board
first : (r : Row) (rs : List Row) → Each (Before r) rs → row_inserted r rs ≡ r ∷ rs
first r [] h = refl
first r (s ∷ rs) h = grind (arith, no_turn r.path s.path h.0)

in_place : (b : Board) → EachPair Before b → board_of b ≡ b
in_place [] h = refl
in_place (r ∷ b) h = ap (row_inserted r) (in_place b h.1) ∙ first r b h.0

pub board_again : {rows b : List Row} → rows ≡ b → IsBoard b → board_of rows ≡ b
board_again {b = b} is board = ap board_of is ∙ in_place b board.in_order

-- ---- the paths of a board stand in order

-- a bridge at a path is a path
any_path : (b : Board) (p : Path) → is_bridge_at b p ≡ true → list_any (λ q. path_eq q p) (map (λ (r : Row). r.path) b) ≡ true
any_path [] p h = h
any_path (r ∷ rs) p h = grind (arith, any_path rs p)

in_order : (b : Board) → IsBoard b → AreInOrder (map (λ (r : Row). r.path) b)
in_order b h = record {
  paths = each_of_map IsPath (λ (r : Row). r.path) b h.paths;
  in_order = pairs_of_map (λ p q. path_before p q ≡ true) (λ (r : Row). r.path) b h.in_order;
  founded = each_of_map (λ p. (parent p ≡ []) ⊎ (list_any (λ q. path_eq q (parent p)) (map (λ (r : Row). r.path) b) ≡ true)) (λ (r : Row). r.path) b
      (each_map (λ r. (parent r.path ≡ []) ⊎ (is_bridge_at b (parent r.path) ≡ true)) (λ r. (parent r.path ≡ []) ⊎ (list_any (λ q. path_eq q (parent r.path)) (map (λ (s : Row). s.path) b) ≡ true)) b (λ r k. founded r k) h.behind_bridges);
}
  where
    founded : (r : Row) → (parent r.path ≡ []) ⊎ (is_bridge_at b (parent r.path) ≡ true) → (parent r.path ≡ []) ⊎ (list_any (λ q. path_eq q (parent r.path)) (map (λ (s : Row). s.path) b) ≡ true)
    founded r (inl e) = inl e
    founded r (inr e) = inr (any_path b (parent r.path) e)

pub nodes_in_order : (b : Board) (nodes : List Node) → IsBoard b → functions_of nodes ≡ reset_functions b → AreInOrder (paths_of nodes)
nodes_in_order b nodes h e = subst AreInOrder (sym (simp map-map at (ap (map (λ (f : BoardFunction). f.path)) e))) (in_order b h)
