-- What stands above all functions of a board, one row after the other.
use Rattle.std.{proofs.{Common.{◌≡◌, ℕ, zero, suc, ◌+◌, ◌-◌, ◌≤◌, ◌<◌, ◌⊎◌, inl, inr, true, ◌&&◌, List, [], ◌∷◌, ◌++◌, map, length, Some, refl, sym, ap, ap₂, ◌∙◌, subst, arith, get_or, ◌≢◌, length-append, get_or-set_other, get_or-set_same}, lemmas.{List.length-map, Option.slice_get_within, Bool.{and_parts, cases_eq, cases_lt}}, Math.ListN.length-set}, specs.{Prelude.IsTrue, List.{list_all, slice_get, slice_set}}}
use Rattle.lists.proofs.Indices.{same_at, at_below, each_at, pair_at, any_at, map_at, at_map, each_by_index}
use Rattle.window_packing.{proofs.{BusIndex.row_in, PoolSteps.maps_at, BridgesAbove.{Tells, tells_root, tells_behind}}, specs.{declared.upstream_windows.UpstreamSupport.UpstreamSupport, Buses.{bus_path, nothing_above, behind, AreAbove}}}
use Rattle.model_board.{specs.{Paths.{Path, path_eq, path_before, is_ancestor_of, parent, last_part, IsPath}, Board.{is_bridge, is_bridge_at, Row, Board, IsBoard}}, proofs.{PathOrder.{path_same, leads_before}, PathEnds.{snoc, length_snoc, leads_self, not_before_itself, no_turn, leads_longer}}}
use Rattle.model_set_up.specs.{Pools.{bridges_above, has_io, has_pref, has_pref64}, FunctionTable.{TableRow, board_in}}
use Rattle.bridge_forward.proofs.Extents.{between}

pub maps_same : {A B C : Type 0} (f : A → C) (g : B → C) (xs : List A) (ys : List B) → length xs ≡ length ys → ((k : ℕ) (x : A) (y : B) → slice_get xs k ≡ Some x → slice_get ys k ≡ Some y → f x ≡ g y) → map f xs ≡ map g ys
maps_same f g [] [] n h = refl
maps_same f g [] (y ∷ ys) n h = absurd (omega arith)
maps_same f g (x ∷ xs) [] n h = absurd (omega arith)
maps_same f g (x ∷ xs) (y ∷ ys) n h = ap₂ (λ z zs. z ∷ zs) (h 0 x y refl refl) (maps_same f g xs ys (omega arith) (λ k u v e l. h (suc k) u v e l))

-- what the loop keeps: the rows so far are told, and at each length of a path stands the last row that no row after it is up to
pub record Followed (b : Board) (i : ℕ) (xs : List UpstreamSupport) (buses : List ℕ) : Type 0 where
  pub count : length xs ≡ i
  pub within : i ≤ length b
  pub tells : (k : ℕ) (r : Row) (x : UpstreamSupport) → slice_get b k ≡ Some r → slice_get xs k ≡ Some x → Tells b r.path x
  pub depths : length buses ≡ 17
  pub root : get_or buses 0 0 ≡ 0
  pub small : (d : ℕ) → get_or buses d 0 ≤ i
  pub last : (k : ℕ) (r : Row) → k < i → slice_get b k ≡ Some r → ((j : ℕ) (s : Row) → k < j → j < i → slice_get b j ≡ Some s → length r.path < length s.path) → get_or buses (length r.path) 0 ≡ suc k

pub all_told : (b : Board) (xs : List UpstreamSupport) (buses : List ℕ) → Followed b (length b) xs buses → AreAbove b xs
all_told b xs buses f = record {
  buses = maps_same (λ (x : UpstreamSupport). bus_path b x.bus) (λ (r : Row). parent r.path) xs b f.count (λ k x r e g. (f.tells k r x g e).bus);
  within = each_by_index (λ (x : UpstreamSupport). x.bus ≤ length b) xs (λ k x e.
      let w = slice_get_within xs k x e in
      let r = at_below b k (omega (arith, w, f.count)) in
      (f.tells k r.0 x r.1 e).within);
  io = maps_same (λ (x : UpstreamSupport). x.io) (λ (r : Row). list_all (λ d. has_io d.io) (bridges_above b r.path)) xs b f.count (λ k x r e g. (f.tells k r x g e).io);
  pref = maps_same (λ (x : UpstreamSupport). x.pref) (λ (r : Row). list_all (λ d. has_pref d.pref) (bridges_above b r.path)) xs b f.count (λ k x r e g. (f.tells k r x g e).pref);
  pref64 = maps_same (λ (x : UpstreamSupport). x.pref64) (λ (r : Row). list_all (λ d. has_pref64 d.pref) (bridges_above b r.path)) xs b f.count (λ k x r e g. (f.tells k r x g e).pref64);
}

-- ---- the bus of the next row

-- bus 0, or the bus behind an earlier row
abbrev pub StandsOn : Board → Row → ℕ → ℕ → Type 0
StandsOn b r i bus = ((bus ≡ 0) × (parent r.path ≡ [])) ⊎ ((k : ℕ) × (q : Row) × (bus ≡ suc k) × (k < i) × (slice_get b k ≡ Some q) × (parent r.path ≡ q.path))

module _ (b : Board) (board : IsBoard b) where
  ordered : (i j : ℕ) (r s : Row) → i < j → slice_get b i ≡ Some r → slice_get b j ≡ Some s → path_before r.path s.path ≡ true
  ordered i j r s l e f = pair_at (λ (x y : Row). IsTrue (path_before x.path y.path)) b i j r s board.in_order l e f

  pub path_at : (i : ℕ) (r : Row) → slice_get b i ≡ Some r → IsPath r.path
  path_at i r e = each_at (λ (x : Row). IsPath x.path) b i r board.paths e

  pub stands_on : (i : ℕ) (xs : List UpstreamSupport) (buses : List ℕ) → Followed b i xs buses → (r : Row) → slice_get b i ≡ Some r → StandsOn b r i (get_or buses (length r.path - 1) 0)
  stands_on i xs buses f r e = by_parent (each_at (λ (s : Row). (parent s.path ≡ []) ⊎ IsTrue (is_bridge_at b (parent s.path))) b i r board.behind_bridges e)
    where
      some : 0 < length r.path
      some = (path_at i r e).some

      split : r.path ≡ parent r.path ++ last_part r.path ∷ []
      split = snoc r.path some

      shorter : length r.path ≡ length (parent r.path) + 1
      shorter = ap length split ∙ length_snoc (parent r.path) (last_part r.path)

      of_row : (k : ℕ) (q : Row) → slice_get b k ≡ Some q → path_eq q.path (parent r.path) ≡ true → StandsOn b r i (get_or buses (length r.path - 1) 0)
      of_row k q g h = inr (k, q, at, below, g, sym same)
        where
          same : q.path ≡ parent r.path
          same = path_same q.path (parent r.path) h

          leads : is_ancestor_of q.path r.path ≡ true
          leads = subst (λ (x : Path). is_ancestor_of q.path x ≡ true) (sym split) (subst (λ (x : Path). is_ancestor_of q.path (x ++ last_part r.path ∷ []) ≡ true) same (leads_self q.path (last_part r.path)))

          first : path_before q.path r.path ≡ true
          first = leads_before q.path r.path leads

          below : k < i
          below = grind (arith, cases_lt, no_turn, ordered, first, same_at, not_before_itself)

          depth : length r.path - 1 ≡ length q.path
          depth = omega (arith, shorter, ap length same)

          at : get_or buses (length r.path - 1) 0 ≡ suc k
          at = ap (λ n. get_or buses n 0) depth ∙ f.last k q below g (λ j s l m n. leads_longer q.path s.path (between q.path s.path r.path leads (ordered k j q s l g n) (ordered j i s r m n e)))

      by_parent : (parent r.path ≡ []) ⊎ IsTrue (is_bridge_at b (parent r.path)) → StandsOn b r i (get_or buses (length r.path - 1) 0)
      by_parent (inl up) =
          let depth : length r.path - 1 ≡ 0 = omega (arith, shorter, ap length up) in
          inl (ap (λ n. get_or buses n 0) depth ∙ f.root, up)
      by_parent (inr h) =
          let w = any_at (λ (s : Row). is_bridge s.decl && path_eq s.path (parent r.path)) b h in
          of_row w.0 w.1.0 w.1.1 (and_parts (is_bridge w.1.0.decl) (path_eq w.1.0.path (parent r.path)) w.1.2).1

  -- ---- and what stands above it

  pub told_at : (i : ℕ) (xs : List UpstreamSupport) (buses : List ℕ) → Followed b i xs buses → (r : Row) → slice_get b i ≡ Some r → (x : UpstreamSupport) → (get_or buses (length r.path - 1) 0 ≡ 0 → x ≡ nothing_above)
      → ((k : ℕ) (q : Row) (up : UpstreamSupport) → get_or buses (length r.path - 1) 0 ≡ suc k → slice_get b k ≡ Some q → slice_get xs k ≡ Some up → x ≡ behind (get_or buses (length r.path - 1) 0) q.decl up) → Tells b r.path x
  told_at i xs buses f r e x root others = by_bus (stands_on i xs buses f r e)
    where
      some : 0 < length r.path
      some = (path_at i r e).some

      by_bus : StandsOn b r i (get_or buses (length r.path - 1) 0) → Tells b r.path x
      by_bus (inl (z, up)) = subst (Tells b r.path) (sym (root z)) (tells_root b board r.path some up)
      by_bus (inr (k, q, is, below, g, up)) =
          let u = at_below xs k (omega (arith, below, f.count)) in
          let same : x ≡ behind (suc k) q.decl u.0 = others k q u.0 is g u.1 ∙ ap (λ n. behind n q.decl u.0) is in
          subst (Tells b r.path) (sym same) (tells_behind b board k q g r.path some up u.0 (f.tells k q u.0 g u.1))

  push_at : (xs : List UpstreamSupport) (x y : UpstreamSupport) (k : ℕ) → slice_get (xs ++ x ∷ []) k ≡ Some y → (slice_get xs k ≡ Some y) ⊎ ((k ≡ length xs) × (y ≡ x))
  push_at [] x y zero e = inr (refl, let s : y ≡ x = cc in s)
  push_at [] x y (suc k) e = absurd (cc)
  push_at (z ∷ xs) x y zero e = inl e
  push_at (z ∷ xs) x y (suc k) e = grind (arith, push_at xs x y k e)

  pub followed_more : (i : ℕ) (xs : List UpstreamSupport) (buses : List ℕ) → Followed b i xs buses → (r : Row) → slice_get b i ≡ Some r → (x : UpstreamSupport) → Tells b r.path x → Followed b (i + 1) (xs ++ x ∷ []) (slice_set buses (length r.path) (i + 1))
  followed_more i xs buses f r e x told = record {
    count = length-append xs (x ∷ []) ∙ ap (λ n. n + 1) f.count;
    within = let w = slice_get_within b i r e in omega (arith, w);
    tells = λ k s y g h. by_push k s y g (push_at xs x y k h);
    depths = length-set buses (length r.path) (i + 1) ∙ f.depths;
    root = let other : 0 ≢ length r.path = omega (arith, some) in rw get_or-set_other f.root;
    small = λ d. by_depth d (cases_eq d (length r.path));
    last = λ k s l g h. by_last k s l g h (cases_lt k i);
  }
    where
      some : 0 < length r.path
      some = (path_at i r e).some

      in_buses : length r.path < length buses
      in_buses = omega (arith, (path_at i r e).few, f.depths)

      by_push : (k : ℕ) (s : Row) (y : UpstreamSupport) → slice_get b k ≡ Some s → (slice_get xs k ≡ Some y) ⊎ ((k ≡ length xs) × (y ≡ x)) → Tells b s.path y
      by_push k s y g (inl h) = f.tells k s y g h
      by_push k s y g (inr (h, same)) =
          let at : slice_get b i ≡ Some s = subst (λ n. slice_get b n ≡ Some s) (h ∙ f.count) g in
          let row : r ≡ s = same_at b i r s e at in
          subst (λ (z : Row). Tells b z.path y) row (subst (Tells b r.path) (sym same) told)

      by_depth : (d : ℕ) → (d ≡ length r.path) ⊎ (d ≢ length r.path) → get_or (slice_set buses (length r.path) (i + 1)) d 0 ≤ i + 1
      by_depth d (inl same) = omega (arith, ap (λ n. get_or (slice_set buses (length r.path) (i + 1)) n 0) same ∙ get_or-set_same buses (length r.path) (i + 1) 0 in_buses)
      by_depth d (inr other) = omega (arith, get_or-set_other buses (length r.path) d (i + 1) 0 other, f.small d)

      by_last : (k : ℕ) (s : Row) → k < i + 1 → slice_get b k ≡ Some s → ((j : ℕ) (t : Row) → k < j → j < i + 1 → slice_get b j ≡ Some t → length s.path < length t.path) → (k < i) ⊎ (i ≤ k) → get_or (slice_set buses (length r.path) (i + 1)) (length s.path) 0 ≡ suc k
      by_last k s l g h (inl below) =
          let longer : length s.path < length r.path = h i r below (omega arith) e in
          let other : length s.path ≢ length r.path = omega arith in
          get_or-set_other buses (length r.path) (length s.path) (i + 1) 0 other ∙ f.last k s below g (λ j t m n q. h j t m (omega arith) q)
      by_last k s l g h (inr above) =
          let eq : k ≡ i = omega arith in
          let row : s ≡ r = same_at b i s r (subst (λ n. slice_get b n ≡ Some s) eq g) e in
          ap (λ (z : Row). get_or (slice_set buses (length r.path) (i + 1)) (length z.path) 0) row ∙ get_or-set_same buses (length r.path) (i + 1) 0 in_buses ∙ let m : i + 1 ≡ suc k = omega arith in m

pub more_rows : (rows : List TableRow) → IsBoard (board_in rows) → (i : ℕ) (xs : List UpstreamSupport) (buses : List ℕ) → Followed (board_in rows) i xs buses → (t : TableRow) → slice_get rows i ≡ Some t → (parts : Path) → parts ≡ t.path → (bus : ℕ)
    → get_or buses (length parts - 1) 0 ≡ bus → (x : UpstreamSupport) → (bus ≡ 0 → x ≡ nothing_above)
    → ((k : ℕ) (q : TableRow) (up : UpstreamSupport) → bus ≡ suc k → slice_get rows k ≡ Some q → slice_get xs k ≡ Some up → x ≡ behind bus q.decl up) → Followed (board_in rows) (i + 1) (xs ++ x ∷ []) (slice_set buses (length parts) (i + 1))
more_rows rows board i xs buses f t e parts path bus is x root others =
    subst (λ (p : Path). Followed (board_in rows) (i + 1) (xs ++ x ∷ []) (slice_set buses (length p) (i + 1))) (sym path)
    (followed_more (board_in rows) board i xs buses f (row_in t) at x (told_at (board_in rows) board i xs buses f (row_in t) at x (λ z. root (sym same ∙ z)) (λ k q up n g h. of_row k up n h (at_map row_in rows k q g))))
  where
    at : slice_get (board_in rows) i ≡ Some (row_in t)
    at = map_at row_in rows i t e

    same : get_or buses (length t.path - 1) 0 ≡ bus
    same = ap (λ (p : Path). get_or buses (length p - 1) 0) (sym path) ∙ is

    of_row : (k : ℕ) {q : Row} (up : UpstreamSupport) → get_or buses (length t.path - 1) 0 ≡ suc k → slice_get xs k ≡ Some up → (s : TableRow) × (slice_get rows k ≡ Some s) × (q ≡ row_in s) → x ≡ behind (get_or buses (length t.path - 1) 0) q.decl up
    of_row k up n h (s, g, e) = others k s up (sym same ∙ n) g h ∙ ap₂ (λ m (r : Row). behind m r.decl up) (sym same) (sym e)

pub length_board : (rows : List TableRow) → length (board_in rows) ≡ length rows
length_board rows = length-map rows row_in

-- what is told at an index
pub tells_at : (b : Board) (xs : List UpstreamSupport) (i : ℕ) (r : Row) (x : UpstreamSupport) → AreAbove b xs → slice_get b i ≡ Some r → slice_get xs i ≡ Some x → Tells b r.path x
tells_at b xs i r x h at there = grind (arith, maps_at, each_at)
