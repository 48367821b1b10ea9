-- Rows of places that are told anew, one after the other.
--     put_next      one more row is told
use Rattle.std.{proofs.Common.{◌≡◌, ℕ, zero, suc, ◌+◌, ◌<◌, List, [], ◌∷◌, ◌++◌, length, take, drop, get_or, refl, sym, ap, ◌∙◌, arith, add-one}, specs.Prelude.slice_set}
use Rattle.model_guests.specs.WorldNow.{WorldNow}
use Rattle.pciguest_c.specs.{declared.{machine.regions.RegionTold.RegionTold, machine.moved_regions.PlaceRow.PlaceRow}, MovesTold.{region_of_row_or_zeros, region_change_row, places_from}}

module _ (w : WorldNow) (guest : ℕ) where
  abbrev told : ℕ → PlaceRow → PlaceRow
  told n p = region_change_row (region_of_row_or_zeros w guest n) p.now

  abbrev so_far : ℕ → ℕ → List PlaceRow → List PlaceRow
  so_far j k ps = places_from w guest j (take k ps) ++ drop k ps

  stands : (ps : List PlaceRow) (j k : ℕ) (d : PlaceRow) → k < length ps → get_or (so_far j k ps) k d ≡ get_or ps k d
  stands [] j k d inside = absurd (omega arith)
  stands (p ∷ ps) j zero d inside = refl
  stands (p ∷ ps) j (suc k) d inside = stands ps (j + 1) k d (omega arith)

  put_one : (ps : List PlaceRow) (j k n : ℕ) (d : PlaceRow) → n ≡ j + k → k < length ps → slice_set (so_far j k ps) k (told n (get_or ps k d)) ≡ so_far j (suc k) ps
  put_one [] j k n d is inside = absurd (omega arith)
  put_one (q ∷ qs) j zero n d is inside = let same : n ≡ j = omega arith in ap (λ m. told m q ∷ qs) same
  put_one (q ∷ qs) j (suc k) n d is inside = ap (λ zs. told j q ∷ zs) (put_one qs (j + 1) k n d (omega arith) (omega arith))

  pub put_next : (ps now : List PlaceRow) (k : ℕ) (here : RegionTold) (d row : PlaceRow) → k < length ps → now ≡ so_far 0 k ps → here ≡ region_of_row_or_zeros w guest k
      → row ≡ region_change_row here (get_or now k d).now → slice_set now k row ≡ so_far 0 (k + 1) ps
  put_next ps now k here d row inside before is put =
      let there : get_or now k d ≡ get_or ps k d = ap (λ zs. get_or zs k d) before ∙ stands ps 0 k d inside in
      ap (λ zs. slice_set zs k row) before
      ∙ ap (slice_set (so_far 0 k ps) k) (put ∙ ap (λ r. region_change_row r (get_or now k d).now) is ∙ ap (told k) there)
      ∙ put_one ps 0 k k d (omega arith) inside
      ∙ ap (λ n. so_far 0 n ps) (sym (add-one k))
