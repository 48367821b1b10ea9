-- Where a pool fits, none of its buses ends above 2 ^ 63; where one does, bus 0 does.
use Rattle.std.{proofs.{Common.{ℕ, ◌≡◌, ◌<◌, ◌≤◌, ◌^◌, ◌⊎◌, inl, true, List, [], ◌∷◌, refl, arith}, lemmas.Bool.leb-true}, specs.{Prelude.IsFalse, List.Sorted.IsPermutation}}
use Rattle.model_registers.specs.Apertures.{IsLawfulApertures, Apertures}
use Rattle.lists.specs.Elements.{IsIn}
use Rattle.model_board.specs.{Paths.{Path, is_ancestor_of}, Board.{Board, IsBoard}, Lawful.HasLawfulDecls}
use Rattle.model_set_up.{specs.{Pools.Pool, Placement.{PlacementItem, in_order, end_from, aperture_end_or_zero, fits_items, fits, items_on}}, proofs.Nesting.{HasItems, nested, IsWithin, root_has}}
use Rattle.window_packing.proofs.BusItems.{end_is}

ends_below : (a : Apertures) → IsLawfulApertures a → (pool : Pool) → aperture_end_or_zero a pool ≤ 2 ^ 63
ends_below a h pool = grind arith

-- a bus without items ends where it begins
ends_within : (is : List PlacementItem) (limit : ℕ) → ((i : PlacementItem) × IsIn i is → end_from 0 (in_order is) ≤ limit) → end_from 0 (in_order is) ≤ limit
ends_within [] limit f = omega arith
ends_within (i ∷ is) limit f = f (i, inl refl)

module _ (b : Board) (a : Apertures) (pool : Pool) (board : IsBoard b) (lawful : HasLawfulDecls b) (apertures : IsLawfulApertures a) where
  root_ends : (is : List PlacementItem) → ((i : PlacementItem) × IsIn i is) → fits_items a pool is ≡ true → end_from 0 (in_order is) ≤ 2 ^ 63
  root_ends is m h = grind (arith, leb-true, ends_below)

  from_root : (bus : Path) → ([] ≡ bus) ⊎ (is_ancestor_of [] bus ≡ true)
  from_root bus = grind arith

  bus_ends : fits b a pool ≡ true → (bus : Path) → HasItems b a pool bus → end_from 0 (in_order (items_on b a pool bus)) ≤ 2 ^ 63
  bus_ends h bus has =
      let inside : IsWithin b a pool board lawful [] bus = nested b a pool board lawful bus has [] (from_root bus) in
      let root = root_ends (items_on b a pool []) (root_has b a pool board lawful bus has) h in
      omega (arith, inside.begins, inside.ends, root)

  all_end : fits b a pool ≡ true → (bus : Path) → end_from 0 (in_order (items_on b a pool bus)) ≤ 2 ^ 63
  all_end h bus = ends_within (items_on b a pool bus) (2 ^ 63) (bus_ends h bus)

  -- so a pool with a bus that does doesn't fit
  no_fit : (bus : Path) → 2 ^ 63 < end_from 0 (in_order (items_on b a pool bus)) → IsFalse (fits b a pool)
  no_fit bus h = grind (arith, all_end)

  -- bus 0 ends where the buses behind its bridges do, or above
  root_past : (bus : Path) → 2 ^ 63 < end_from 0 (in_order (items_on b a pool bus)) → 2 ^ 63 < end_from 0 (in_order (items_on b a pool []))
  root_past bus h = omega (arith, h, ends_within (items_on b a pool bus) (end_from 0 (in_order (items_on b a pool []))) below)
    where
      below : HasItems b a pool bus → end_from 0 (in_order (items_on b a pool bus)) ≤ end_from 0 (in_order (items_on b a pool []))
      below has = let inside : IsWithin b a pool board lawful [] bus = nested b a pool board lawful bus has [] (from_root bus) in omega (arith, inside.begins, inside.ends)

  -- so what is gathered for a bus and ends above says that the pool doesn't fit
  pub too_large : (bus : Path) (is : List PlacementItem) → IsPermutation (items_on b a pool bus) is → 2 ^ 63 < end_from 0 (in_order is)
      → IsFalse (fits b a pool) × (2 ^ 63 < end_from 0 (in_order (items_on b a pool [])))
  too_large bus is same h = let past = rw (end_is b a pool lawful board bus is same) at h in (no_fit bus past, root_past bus past)
