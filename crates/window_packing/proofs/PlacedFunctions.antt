-- Where the regions and the windows of one function of a placed board stand.
use Rattle.std.{proofs.{Common.{◌≡◌, ℕ, suc, ◌+◌, ◌*◌, ◌^◌, ◌≤◌, ◌<◌, List, [], ◌∷◌, length, map, Some, refl, sym, ap, ◌∙◌, subst, arith, get_or, add-one}, lemmas.Option.slice_get_within}, specs.{Prelude.IsTrue, List.slice_get}}
use Rattle.lists.{specs.Elements.{Each, IsIn}, proofs.{Members.{each_in, each_from}, Indices.{read_at, same_at, index_in}}}
use Rattle.model_registers.specs.{Declarations.Region, Apertures.Apertures}
use Rattle.model_board.specs.{Paths.{Part, parent, last_part, IsPath}, Board.{endpoint, Row, Board, IsBoard}, Lawful.HasLawfulDecls}
use Rattle.model_set_up.{specs.{Pools.{Pool, io_pool, mem_pool, pref_pool, unit_of, bridges_above, pool_of}, Placement.{Placed, a_region, PlacementItem, PlacedItem, is_item, round_up, need, spots, offset_in, items_on, offset_on, bus_first, region_first}, SetUp.{first_of, window_of}}, proofs.Items.item_of}
use Rattle.window_packing.{specs.{declared.upstream_windows.UpstreamSupport.UpstreamSupport, Buses.bus_path, Packs.{PackedBus, pack_of}, Placed.{bus_paths, PlacedPool, IsPlaced, Placement, IsPlacement, pool_in, IsAboveAt, IsRegionAt}}, proofs.{SpotSearch.AreStrict, BusIndex.{by_bus, count_buses, bus_behind}, PackFits.no_items, PoolSteps.{IsAboveRow, above_row}, FirstsSoFar.{pack_is, count_packs}, PlacedBuses.{spots_strict, region_align, spot_bound, window_bound, found_bound, first_bound, depth}}}

pub placed_in : (b : Board) (a : Apertures) (p : Placement) → IsPlacement b a p → (pool : Pool) → IsPlaced b a pool (pool_in p pool)
placed_in b a p h io_pool = h.io
placed_in b a p h mem_pool = h.mem
placed_in b a p h pref_pool = h.pref

-- what holds of each spot, whichever it is, holds where there is one
pub holds_of_some : (P : Type 0) (ss : List PlacedItem) → (ss ≡ [] → ⊥) → Each (λ s. P) ss → P
holds_of_some P [] some h = absurd (some refl)
holds_of_some P (s ∷ ss) some h = h.0

pub span_none : (unit closed first : ℕ) (is : List PlacementItem) → spots is ≡ [] → window_of unit closed first is ≡ record { first = closed * unit; last = 0 }
span_none unit closed first is e = ap (window_of unit closed first) (no_items is e)

module _ {b : Board} {a : Apertures} {pool : Pool} {pl : PlacedPool} (placed : IsPlaced b a pool pl) (board : IsBoard b) (lawful : HasLawfulDecls b) where
  pub count_pl : length pl.packs ≡ suc (length b)
  count_pl = count_packs b a pool pl.packs placed.packs

  pub count_firsts : length pl.firsts ≡ suc (length b)
  count_firsts = ap length placed.firsts ∙ count_buses (bus_first b a pool) b

  pub first_is : (k : ℕ) → k ≤ length b → (n : ℕ) → slice_get pl.firsts k ≡ Some n → n ≡ bus_first b a pool (bus_path b k)
  first_is k l n at = same_at (map (bus_first b a pool) (bus_paths b)) k n (bus_first b a pool (bus_path b k)) (subst (λ (xs : List ℕ). slice_get xs k ≡ Some n) placed.firsts at) (by_bus (bus_first b a pool) b k l)

  pub bus_pack : (k : ℕ) → k ≤ length b → (p : PackedBus) → slice_get pl.packs k ≡ Some p → p ≡ pack_of b a pool (bus_path b k)
  bus_pack k l p at = pack_is b a pool pl.packs placed.packs k l p at

  -- ---- the rows of a bus

  pub bus_depth : (k : ℕ) → k ≤ length b → (p : PackedBus) → slice_get pl.packs k ≡ Some p → Each (λ s. length (bus_path b k) < 16) p.spots
  bus_depth k l p at = subst (λ (q : PackedBus). Each (λ s. length (bus_path b k) < 16) q.spots) (sym (bus_pack k l p at))
      (each_from (λ s. length (bus_path b k) < 16) (spots (items_on b a pool (bus_path b k))) (λ s m. depth b a pool board lawful (bus_path b k) s m))

  pub bus_room : (k : ℕ) → k ≤ length b → (p : PackedBus) → slice_get pl.packs k ≡ Some p → (n : ℕ) → n ≡ bus_first b a pool (bus_path b k) → Each (λ s. n + s.first < 2 ^ 64) p.spots
  bus_room k l p at n e = subst (λ (q : PackedBus). Each (λ s. n + s.first < 2 ^ 64) q.spots) (sym (bus_pack k l p at))
      (each_from (λ s. n + s.first < 2 ^ 64) (spots (items_on b a pool (bus_path b k))) (λ s m. let h = spot_bound b a pool board lawful placed.apertures placed.fit (bus_path b k) s m in omega (arith, h, e)))

  -- ---- a window

  module _ (i : ℕ) {r : Row} (at : slice_get b i ≡ Some r) where
    there : IsIn r b
    there = index_in b i r at

    inside : suc i ≤ length b
    inside = let w = slice_get_within b i r at in omega (arith, w)

    pub behind_first_is : (n : ℕ) → n ≡ get_or pl.firsts (i + 1) n → n ≡ bus_first b a pool r.path
    behind_first_is n e = first_is (suc i) inside n (read_at pl.firsts (suc i) n (omega (arith, inside, count_firsts)) (rw add-one at e)) ∙ ap (bus_first b a pool) (bus_behind b i r at)

    pub behind_pack : (p : PackedBus) → p ≡ get_or pl.packs (i + 1) p → p ≡ pack_of b a pool r.path
    behind_pack p e = bus_pack (suc i) inside p (read_at pl.packs (suc i) p (omega (arith, inside, count_pl)) (rw add-one at e)) ∙ ap (pack_of b a pool) (bus_behind b i r at)

    bounds : (s : PlacedItem) → IsIn s (spots (items_on b a pool r.path)) → (0 < need (unit_of pool) (items_on b a pool r.path)) × (bus_first b a pool r.path + need (unit_of pool) (items_on b a pool r.path) ≤ 2 ^ 63)
    bounds s m = window_bound b a pool board lawful placed.apertures placed.fit r.path (each_in (λ (x : Row). IsPath x.path) r b board.paths there).some (s.item, item_of s (items_on b a pool r.path) m)

    pub window_some : (p : PackedBus) → p ≡ get_or pl.packs (i + 1) p → Each (λ s. 0 < round_up (unit_of pool) p.end) p.spots
    window_some p e = subst (λ (q : PackedBus). Each (λ s. 0 < round_up (unit_of pool) q.end) q.spots) (sym (behind_pack p e))
        (each_from (λ s. 0 < need (unit_of pool) (items_on b a pool r.path)) (spots (items_on b a pool r.path)) (λ s m. (bounds s m).0))

    pub window_room : (p : PackedBus) → p ≡ get_or pl.packs (i + 1) p → (n : ℕ) → n ≡ get_or pl.firsts (i + 1) n → Each (λ s. n + round_up (unit_of pool) p.end ≤ 2 ^ 63) p.spots
    window_room p e n f = subst (λ (q : PackedBus). Each (λ s. n + round_up (unit_of pool) q.end ≤ 2 ^ 63) q.spots) (sym (behind_pack p e))
        (each_from (λ s. n + need (unit_of pool) (items_on b a pool r.path) ≤ 2 ^ 63) (spots (items_on b a pool r.path)) (λ s m. let h = (bounds s m).1 in omega (arith, h, behind_first_is n f)))

    -- ---- a region

    module _ {x : UpstreamSupport} (above : IsAboveAt b i x) where
      row : IsAboveRow b r x
      row = above_row b above.all i r x above.told at above.there

      module _ {p : PackedBus} (e : p ≡ get_or pl.packs x.bus p) where
        own_pack_is : p ≡ pack_of b a pool (parent r.path)
        own_pack_is = let w = row.within in bus_pack x.bus w p (read_at pl.packs x.bus p (omega (arith, w, count_pl)) e) ∙ ap (pack_of b a pool) row.bus

        pub region_strict : AreStrict p.spots
        region_strict = subst (λ (q : PackedBus). AreStrict q.spots) (sym own_pack_is) (spots_strict b a pool board lawful (parent r.path))

        module _ {part : Part} (last : part ≡ last_part r.path) where
          pub region_aligned : (k : Region) → IsRegionAt b i k → Each (λ s. IsTrue (is_item part (a_region k.index) s.item) → s.item.align ≡ k.size) p.spots
          region_aligned k own =
              let same : r ≡ record { path = own.path; decl = endpoint own.decl } = same_at b i r (record { path = own.path; decl = endpoint own.decl }) at own.there in
              rw (own_pack_is, last) (region_align b a pool board lawful r there own.decl (ap (λ (y : Row). y.decl) same) k own.own)

          module _ {n : ℕ} (f : n ≡ get_or pl.firsts x.bus n) where
            sum_is : (w : Placed) → n + offset_in p.spots part w ≡ bus_first b a pool (parent r.path) + offset_on b a pool (parent r.path) (last_part r.path) w
            sum_is w = grind (arith, row, first_is, read_at, count_firsts, own_pack_is)

            pub region_room : (w : Placed) → n + offset_in p.spots part w < 2 ^ 64
            region_room w =
                let high = found_bound b a pool board lawful placed.apertures placed.fit (parent r.path) (last_part r.path) w (first_bound b a pool board lawful placed.apertures placed.fit (parent r.path)) in
                omega (arith, high, sum_is w)

            pub base_is : (k : Region) → pool_of a (bridges_above b r.path) k.kind ≡ pool → n + offset_in p.spots part (a_region k.index) ≡ first_of b a r.path k
            base_is k own = sum_is (a_region k.index) ∙ ap (λ (q : Pool). region_first b a q r.path k.index) (sym own)
