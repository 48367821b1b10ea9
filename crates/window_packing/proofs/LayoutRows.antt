-- The rows of a placement are those of the layout.
use Rattle.std.{proofs.{Common.{◌≡◌, ℕ, zero, suc, ◌+◌, ◌-◌, ◌≤◌, ◌<◌, List, [], ◌∷◌, ◌++◌, length, map, take, Some, refl, sym, ap, ap₂, ◌∙◌, subst, arith, append-nil, append_assoc}, lemmas.{Option.{slice_get-get_or, unwrap_or-slice_get, slice_get_within}, List.{length-map, map-id}, Simd.map-map}}, specs.{Prelude.flat_map, List.slice_get}}
use Rattle.window_packing.{proofs.{BusIndex.{row_in, by_bus}, PlacedBuses.rows_by_bus, PlacedFunctions.{count_pl, count_firsts, first_is, bus_depth, bus_room}}, specs.{Buses.bus_path, Packs.{PackedBus, pack_of}, Placed.{bus_paths, PlacedPool, IsPlaced, Placement, IsPlacement}, LayoutRows.{bus_at, rows_along, rows_in, rows_of, IsListable, AreListable}}}
use Rattle.lists.specs.Elements.{Each}
use Rattle.model_registers.specs.Apertures.{Apertures}
use Rattle.model_board.specs.{Paths.Path, Board.{Row, Board, IsBoard}, Lawful.HasLawfulDecls}
use Rattle.model_set_up.specs.{Pools.{Pool, io_pool, mem_pool, pref_pool}, Placement.bus_first, Layout.{LayoutRow, row_of, bus_rows, pool_rows, layout}, FunctionTable.{TableRow, board_in}}

-- ---- bus by bus

pub path_at : (paths : List Path) (k : ℕ) → k ≤ length paths → slice_get ([] ∷ paths) k ≡ Some (bus_at paths k)
path_at paths k h = slice_get-get_or ([] ∷ paths) k [] (omega arith) ∙ ap (λ (p : Path). Some p) (sym (unwrap_or-slice_get ([] ∷ paths) k []))

pub bus_of_path : (paths : List Path) (bus : ℕ) (p : Path) → (bus ≡ 0 → ⊥) → slice_get paths (bus - 1) ≡ Some p → bus_at paths bus ≡ p
bus_of_path paths bus p some e = grind arith

-- one bus more
along_more : (pool : Pool) (bs : List Path) (ns : List ℕ) (ps : List PackedBus) (k : ℕ) (b : Path) (n : ℕ) (p : PackedBus) → slice_get bs k ≡ Some b → slice_get ns k ≡ Some n → slice_get ps k ≡ Some p
    → rows_along pool (take (suc k) bs) ns ps ≡ rows_along pool (take k bs) ns ps ++ map (row_of pool b n) p.spots
along_more pool [] ns ps k b n p e f g = absurd (cc)
along_more pool (b' ∷ bs) [] ps k b n p e f g = absurd (cc)
along_more pool (b' ∷ bs) (n' ∷ ns) [] k b n p e f g = absurd (cc)
along_more pool (b' ∷ bs) (n' ∷ ns) (p' ∷ ps) zero b n p e f g = grind (arith, append-nil)
along_more pool (b' ∷ bs) (n' ∷ ns) (p' ∷ ps) (suc k) b n p e f g = grind (arith, append_assoc, along_more pool bs ns ps k b n p e f g)

pub rows_more : (pool : Pool) (paths : List Path) (ns : List ℕ) (ps : List PackedBus) (k : ℕ) → k ≤ length paths → (n : ℕ) (p : PackedBus) → slice_get ns k ≡ Some n → slice_get ps k ≡ Some p → (start old new : List LayoutRow)
    → old ≡ start ++ rows_along pool (take k ([] ∷ paths)) ns ps → new ≡ old ++ map (row_of pool (bus_at paths k) n) p.spots → new ≡ start ++ rows_along pool (take (k + 1) ([] ∷ paths)) ns ps
rows_more pool paths ns ps k h n p f g start old new before after = grind (arith, append_assoc, along_more, path_at)

-- ---- of a board

along_all : (b : Board) (a : Apertures) (pool : Pool) (bs : List Path) → rows_along pool bs (map (bus_first b a pool) bs) (map (pack_of b a pool) bs) ≡ flat_map (bus_rows b a pool) bs
along_all b a pool [] = refl
along_all b a pool (p ∷ bs) = ap (λ xs. bus_rows b a pool p ++ xs) (along_all b a pool bs)

bus_same : (b : Board) (k : ℕ) → k ≤ length b → bus_path b k ≡ bus_at (map (λ (r : Row). r.path) b) k
bus_same b k h =
    let same : Some (bus_path b k) ≡ Some (bus_at (map (λ (r : Row). r.path) b) k) =
    sym (by_bus (λ (p : Path). p) b k h) ∙ ap (λ (xs : List Path). slice_get xs k) (map-id (bus_paths b)) ∙ path_at (map (λ (r : Row). r.path) b) k (omega (arith, length-map b (λ (r : Row). r.path))) in cc

module _ (b : Board) (a : Apertures) (board : IsBoard b) (lawful : HasLawfulDecls b) where
  abbrev paths : List Path
  paths = map (λ (r : Row). r.path) b

  pool_rows_of : (pool : Pool) (pl : PlacedPool) → IsPlaced b a pool pl → rows_in pool paths pl ≡ pool_rows b a pool
  pool_rows_of pool pl h = ap₂ (λ (ns : List ℕ) (ps : List PackedBus). rows_along pool (bus_paths b) ns ps) h.firsts h.packs ∙ along_all b a pool (bus_paths b) ∙ rows_by_bus b a pool board lawful

  listable : (pool : Pool) (pl : PlacedPool) → IsPlaced b a pool pl → IsListable paths pl
  listable pool pl h = record {
    firsts = count_firsts h board lawful ∙ ap suc (sym (length-map b (λ (r : Row). r.path)));
    packs = count_pl h board lawful ∙ ap suc (sym (length-map b (λ (r : Row). r.path)));
    deep = λ k p e. subst (λ (q : Path). Each (λ s. length q < 16) p.spots) (bus_same b k (inside k p e)) (bus_depth h board lawful k (inside k p e) p e);
    room = λ k n p f e. bus_room h board lawful k (inside k p e) p e n (first_is h board lawful k (inside k p e) n f);
  }
    where
      inside : (k : ℕ) (p : PackedBus) → slice_get pl.packs k ≡ Some p → k ≤ length b
      inside k p e = let w = slice_get_within pl.packs k p e in omega (arith, w, count_pl h board lawful)

  pub layout_rows : (p : Placement) → IsPlacement b a p → rows_of paths p ≡ layout b a
  layout_rows p h = grind (arith, pool_rows_of, append-nil)

  pub are_listable : (p : Placement) → IsPlacement b a p → AreListable paths p
  are_listable p h = record { io = listable io_pool p.io h.io; mem = listable mem_pool p.mem h.mem; pref = listable pref_pool p.pref h.pref }

-- the paths of a table
pub table_paths : (rows : List TableRow) → map (λ (r : TableRow). r.path) rows ≡ map (λ (r : Row). r.path) (board_in rows)
table_paths rows = sym (map-map (λ (r : Row). r.path) row_in rows)
