-- The steps by which the buses of a pool are packed.
use Rattle.std.{proofs.{Common.{◌≡◌, ℕ, zero, suc, ◌+◌, ◌-◌, ◌<◌, ◌≤◌, ◌^◌, Option, Some, List, [], ◌∷◌, ◌++◌, length, length-append, sym, ap, ◌∙◌, subst, arith}, lemmas.{List.{length-map, reverse-append}, Simd.map-map}}, specs.{Prelude.{map, reverse, slice_get, option_to_list}, List.Sorted.IsPermutation}}
use Rattle.lists.{specs.Elements.Each, proofs.{EachLemmas.{each_map, each_both}, Indices.{map_at, each_at}}}
use Rattle.model_board.specs.{Paths.{Path, parent}, Board.{Row, Board, IsBoard}, Lawful.HasLawfulDecls}
use Rattle.model_set_up.specs.{Pools.{Pool, bridges_above}, Placement.{PlacementItem, items_on}}
use Rattle.model_registers.specs.Apertures.{Apertures}
use Rattle.window_packing.{specs.{declared.upstream_windows.UpstreamSupport.UpstreamSupport, Buses.{bus_path, AreAbove}, Packs.{PackedBus, pack_of, IsBounded, IsOver}}, proofs.{BusItems.{alignment_bounds, items_align}, Gathering.{IsGathered, root_gathered}}}

-- ---- what is said of the bridges above a row

pub maps_at : {A B D : Type 0} (f : A → D) (g : B → D) (xs : List A) (ys : List B) (i : ℕ) (x : A) (y : B) → map f xs ≡ map g ys → slice_get xs i ≡ Some x → slice_get ys i ≡ Some y → f x ≡ g y
maps_at f g xs ys i x y e at there =
    let same : Some (f x) ≡ Some (g y) = sym (map_at f xs i x at) ∙ ap (λ zs. slice_get zs i) e ∙ map_at g ys i y there in cc

pub above_count : (b : Board) (xs : List UpstreamSupport) → AreAbove b xs → length xs ≡ length b
above_count b xs h = sym (length-map xs (λ (x : UpstreamSupport). bus_path b x.bus)) ∙ ap length h.buses ∙ length-map b (λ (r : Row). parent r.path)

pub record IsAboveRow (b : Board) (r : Row) (x : UpstreamSupport) : Type 0 where
  pub bus : bus_path b x.bus ≡ parent r.path
  pub within : x.bus ≤ length b
  pub over : IsOver (bridges_above b r.path) x

pub above_row : (b : Board) (xs : List UpstreamSupport) (i : ℕ) (r : Row) (x : UpstreamSupport) → AreAbove b xs → slice_get b i ≡ Some r → slice_get xs i ≡ Some x → IsAboveRow b r x
above_row b xs i r x h at there = grind (arith, maps_at, each_at)

-- ---- one bus taken from those that are left

popped : {C : Type 0} (old new : List C) (o : Option C) (v : C) → old ≡ new ++ option_to_list o → o ≡ Some v → old ≡ new ++ v ∷ []
popped {C = C} old new o v e some = e ∙ ap (λ (x : Option C). new ++ option_to_list x) some

module _ (b : Board) (a : Apertures) (pool : Pool) (board : IsBoard b) {C : Type 0} (contents : C → List PlacementItem) where
  pub taken : (i : ℕ) (old new : List C) (o : Option C) (v : C) (packs : List PackedBus) → 0 < i → IsGathered b a pool contents i old packs → old ≡ new ++ option_to_list o → o ≡ Some v
      → IsGathered b a pool contents (i - 1 + 1) (new ++ v ∷ []) packs × (length new ≡ i - 1 + 1)
  taken i old new o v packs some h e is = grind (arith, popped, length-append)

  -- ---- bus 0, when it alone is left

  pub root_is : (i : ℕ) (old new : List C) (o : Option C) (v : C) (packs : List PackedBus) → i ≤ 0 → IsGathered b a pool contents i old packs → old ≡ new ++ option_to_list o → o ≡ Some v
      → IsPermutation (items_on b a pool []) (contents v)
  root_is zero old new o v packs none h e is =
      let left : IsGathered b a pool contents 0 (new ++ v ∷ []) packs = subst (λ (x : List C). IsGathered b a pool contents 0 x packs) (popped old new o v e is) h in
      by_new new left
    where
      by_new : (xs : List C) → IsGathered b a pool contents 0 (xs ++ v ∷ []) packs → IsPermutation (items_on b a pool []) (contents v)
      by_new [] k = root_gathered b a pool board contents v packs k
      by_new (x ∷ xs) k = absurd (omega (arith, k.count, length-append xs (v ∷ [])))
  root_is (suc i) old new o v packs none h e is = absurd (omega arith)

  pub all_packed : (i : ℕ) (old : List C) (packs : List PackedBus) (pack : PackedBus) → i ≤ 0 → IsGathered b a pool contents i old packs → pack ≡ pack_of b a pool []
      → reverse (packs ++ pack ∷ []) ≡ map (pack_of b a pool) ([] ∷ map (λ (r : Row). r.path) b)
  all_packed i old packs pack none h is = grind (arith, reverse-append, map-map)

  pub all_bounded : HasLawfulDecls b → (i : ℕ) (old : List C) (packs : List PackedBus) (pack : PackedBus) → i ≤ 0 → IsGathered b a pool contents i old packs → pack ≡ pack_of b a pool [] → pack.end ≤ 2 ^ 63
      → Each IsBounded (reverse (packs ++ pack ∷ []))
  all_bounded lawful i old packs pack none h is end =
      each_map (λ (p : PackedBus). ((0 < p.align) × (p.align ≤ 2 ^ 40)) × (p.end ≤ 2 ^ 63)) IsBounded (reverse (packs ++ pack ∷ [])) (λ p k. record { some = k.0.0; aligned = k.0.1; ends = k.1 })
      (each_both (λ (p : PackedBus). (0 < p.align) × (p.align ≤ 2 ^ 40)) (λ p. p.end ≤ 2 ^ 63) (reverse (packs ++ pack ∷ [])) aligns ends)
    where
      each_aligned : (buses : List Path) → Each (λ (p : PackedBus). (0 < p.align) × (p.align ≤ 2 ^ 40)) (map (pack_of b a pool) buses)
      each_aligned [] = tt
      each_aligned (bus ∷ buses) = (alignment_bounds pool (items_on b a pool bus) (items_align b a pool lawful bus), each_aligned buses)

      aligns : Each (λ (p : PackedBus). (0 < p.align) × (p.align ≤ 2 ^ 40)) (reverse (packs ++ pack ∷ []))
      aligns = subst (Each (λ (p : PackedBus). (0 < p.align) × (p.align ≤ 2 ^ 40))) (sym (all_packed i old packs pack none h is)) (each_aligned ([] ∷ map (λ (r : Row). r.path) b))

      ends : Each (λ (p : PackedBus). p.end ≤ 2 ^ 63) (reverse (packs ++ pack ∷ []))
      ends = subst (Each (λ (p : PackedBus). p.end ≤ 2 ^ 63)) (sym (reverse-append packs (pack ∷ []))) (end, h.ends)
