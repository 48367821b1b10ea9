-- The first addresses of buses, one after the other.
use Rattle.std.{proofs.{Common.{◌≡◌, ℕ, suc, ◌+◌, ◌≤◌, ◌<◌, ◌⊎◌, inl, inr, List, [], ◌∷◌, ◌++◌, map, length, Some, sym, ap, ◌∙◌, subst, arith, length-append, get_or, add-one}, lemmas.{Option.{get_or_from_slice_get, slice_get_within}, List.same_lists, Bool.cases_lt}}, specs.{Prelude.IsTrue, List.slice_get}}
use Rattle.model_registers.specs.Apertures.{Apertures, IsLawfulApertures}
use Rattle.lists.{specs.Elements.{Each, IsIn}, proofs.Indices.{read_at, same_at, index_in}}
use Rattle.model_board.specs.{Paths.{Part, parent, last_part}, Board.{Row, Board, IsBoard}, Lawful.HasLawfulDecls}
use Rattle.model_set_up.specs.{Pools.Pool, Placement.{a_window, is_item, spots, offset_in, fits, bus_first}}
use Rattle.window_packing.{specs.{declared.upstream_windows.UpstreamSupport.UpstreamSupport, Buses.bus_path, Packs.{PackedBus, pack_of, packs_of}, Placed.{bus_paths, IsAboveAt}}, proofs.{SpotSearch.AreStrict, BusIndex.{by_bus, count_buses, bus_behind}, BusIndices.bus_before, PoolSteps.{IsAboveRow, above_row}, Gathering.{front_at, last_at}, PlacedBuses.{highest, spots_strict, window_align, next_first, first_bound}}}

-- those of the buses up to an index
pub record AreFirsts (b : Board) (a : Apertures) (pool : Pool) (i : ℕ) (xs : List ℕ) : Type 0 where
  pub count : length xs ≡ suc i
  pub within : i ≤ length b
  pub each : (k : ℕ) → k ≤ i → slice_get xs k ≡ Some (bus_first b a pool (bus_path b k))

module _ (b : Board) (a : Apertures) (pool : Pool) where
  pub one_first : (n : ℕ) → n ≡ bus_first b a pool [] → AreFirsts b a pool 0 (n ∷ [])
  one_first n e = grind arith

  pub more_firsts : (i n : ℕ) (xs : List ℕ) → AreFirsts b a pool i xs → i < length b → n ≡ bus_first b a pool (bus_path b (suc i)) → AreFirsts b a pool (suc i) (xs ++ n ∷ [])
  more_firsts i n xs h l e = record {
    count = length-append xs (n ∷ []) ∙ (let c = h.count in let s : length xs + 1 ≡ suc (suc i) = omega (arith, c) in s);
    within = l;
    each = λ k m. by_side k m (cases_lt i k);
  }
    where
      by_side : (k : ℕ) → k ≤ suc i → (i < k) ⊎ (k ≤ i) → slice_get (xs ++ n ∷ []) k ≡ Some (bus_first b a pool (bus_path b k))
      by_side k m (inr u) = front_at xs (n ∷ []) k (bus_first b a pool (bus_path b k)) (h.each k u)
      by_side k m (inl u) =
          let at : length xs ≡ k = omega (arith, h.count) in
          let same : suc i ≡ k = omega arith in
          subst (λ j. slice_get (xs ++ n ∷ []) j ≡ Some (bus_first b a pool (bus_path b k))) at (last_at xs n ∙ ap (λ j. Some j) (e ∙ ap (λ j. bus_first b a pool (bus_path b j)) same))

  pub all_firsts : (xs : List ℕ) → AreFirsts b a pool (length b) xs → xs ≡ map (bus_first b a pool) (bus_paths b)
  all_firsts xs h = same_lists xs (map (bus_first b a pool) (bus_paths b)) (h.count ∙ sym (count_buses (bus_first b a pool) b)) (λ k d l.
      let low : k ≤ length b = omega (arith, l, h.count) in
      get_or_from_slice_get xs k (bus_first b a pool (bus_path b k)) d (h.each k low) ∙ sym (get_or_from_slice_get (map (bus_first b a pool) (bus_paths b)) k (bus_first b a pool (bus_path b k)) d (by_bus (bus_first b a pool) b k low)))

-- ---- the bus of a row

pub pack_is : (b : Board) (a : Apertures) (pool : Pool) (packs : List PackedBus) → packs ≡ packs_of b a pool → (k : ℕ) → k ≤ length b → (p : PackedBus) → slice_get packs k ≡ Some p → p ≡ pack_of b a pool (bus_path b k)
pack_is b a pool packs e k l p at = same_at (packs_of b a pool) k p (pack_of b a pool (bus_path b k)) (subst (λ (ps : List PackedBus). slice_get ps k ≡ Some p) e at) (by_bus (pack_of b a pool) b k l)

pub count_packs : (b : Board) (a : Apertures) (pool : Pool) (packs : List PackedBus) → packs ≡ packs_of b a pool → length packs ≡ suc (length b)
count_packs b a pool packs e = ap length e ∙ count_buses (pack_of b a pool) b

-- a row of a board whose pool fits its aperture, and what stands above it
pub record IsFittingRow (b : Board) (a : Apertures) (pool : Pool) (i : ℕ) (r : Row) (x : UpstreamSupport) : Type 0 where
  pub board : IsBoard b
  pub lawful : HasLawfulDecls b
  pub apertures : IsLawfulApertures a
  pub fit : IsTrue (fits b a pool)
  pub at : slice_get b i ≡ Some r
  pub above : IsAboveAt b i x

module _ {b : Board} {a : Apertures} {pool : Pool} {i : ℕ} {r : Row} {x : UpstreamSupport} (h : IsFittingRow b a pool i r x) where
  there : IsIn r b
  there = index_in b i r h.at

  row : IsAboveRow b r x
  row = above_row b h.above.all i r x h.above.told h.at h.above.there

  pub bus_low : x.bus ≤ i
  bus_low = bus_before b h.board i r x.bus h.at row.bus row.within

  -- the packs of its bus and of the bus behind it, as they are read
  module _ (packs : List PackedBus) (all : packs ≡ packs_of b a pool) where
    pub own_pack : (p : PackedBus) → p ≡ get_or packs x.bus p → p ≡ pack_of b a pool (parent r.path)
    own_pack p is = grind (arith, row, pack_is, read_at, count_packs)

    pub behind_pack : (q : PackedBus) → q ≡ get_or packs (i + 1) q → q ≡ pack_of b a pool r.path
    behind_pack q is =
        let w = slice_get_within b i r h.at in
        pack_is b a pool packs all (suc i) w q (read_at packs (suc i) q (omega (arith, w, count_packs b a pool packs all)) (rw add-one at is))
        ∙ ap (pack_of b a pool) (bus_behind b i r h.at)

  -- the first address of its bus, as it is read
  pub own_first : (xs : List ℕ) → AreFirsts b a pool i xs → (n : ℕ) → n ≡ get_or xs x.bus n → n ≡ bus_first b a pool (parent r.path)
  own_first xs firsts n is = grind (arith, same_at, read_at, bus_low, row)

  module _ (p : PackedBus) (own : p ≡ pack_of b a pool (parent r.path)) where
    pub own_strict : AreStrict p.spots
    own_strict = subst (λ (q : PackedBus). AreStrict q.spots) (sym own) (spots_strict b a pool h.board h.lawful (parent r.path))

    module _ (part : Part) (last : part ≡ last_part r.path) where
      pub own_align : (q : PackedBus) → q ≡ pack_of b a pool r.path → Each (λ s. IsTrue (is_item part a_window s.item) → s.item.align ≡ q.align) p.spots
      own_align q behind = rw (own, last, behind) (window_align b a pool h.board h.lawful r there)

      -- the bus behind it begins where its window stands
      pub behind_first : (n : ℕ) → n ≡ bus_first b a pool (parent r.path) → n + offset_in p.spots part a_window ≡ bus_first b a pool (bus_path b (suc i))
      behind_first n first = grind (arith, next_first b a pool h.board h.lawful h.apertures h.fit r there, bus_behind b i r h.at)

  pub next_bound : bus_first b a pool (bus_path b (suc i)) ≤ highest
  next_bound = first_bound b a pool h.board h.lawful h.apertures h.fit (bus_path b (suc i))
