-- A pool fits where it takes no more than its aperture has for it.
use Rattle.std.{proofs.{Common.{◌≡◌, ◌+◌, ◌-◌, ◌<◌, ◌^◌, inl, Bool, List, [], ◌∷◌, Some, None, refl, sym, ap, ◌∙◌, arith, ℕ}, lemmas.Bool.{le-leb, Decides.nat_tests}}, specs.Prelude.{ℕ, nat_le, if◌then◌else◌}}
use Rattle.lists.specs.Elements.{Each}
use Rattle.model_board.specs.{Board.Board, Lawful.HasLawfulDecls}
use Rattle.model_set_up.{specs.{Pools.{Pool, unit_of}, Placement.{PlacementItem, in_order, end_from, root_bus_start, aperture_end_or_zero, fits_items, fits, items_on}}, proofs.Items.{IsPlaceable, some_end, items_placeable}}
use Rattle.model_registers.specs.Apertures.{Apertures}
use Rattle.window_packing.specs.{declared.pool_uses.PoolUse.PoolUse, Uses.{use_by, told_use}}

room : (first end limit : ℕ) → 0 < end → nat_le (first + end) limit ≡ nat_le end (limit - first)
room first end limit some = grind (arith, nat_tests)

by_items : (a : Apertures) (pool : Pool) (is : List PlacementItem) → Each (IsPlaceable (unit_of pool)) is → fits_items a pool is ≡ nat_le (use_by a pool is).extent (use_by a pool is).room
by_items a pool [] placeable = sym (le-leb 0 (aperture_end_or_zero a pool - root_bus_start a pool []) (omega arith))
by_items a pool (i ∷ is) placeable =
    room (root_bus_start a pool (i ∷ is)) (end_from 0 (in_order (i ∷ is))) (aperture_end_or_zero a pool) (some_end (unit_of pool) i (i ∷ is) placeable (inl refl))

told : (t : Bool) (u w : PoolUse) → Some u ≡ (if t then Some w else None) → u ≡ w
told t u w e = grind arith

pub use_fits : (b : Board) (a : Apertures) (pool : Pool) → HasLawfulDecls b → (u : PoolUse) → Some u ≡ told_use b a pool → fits b a pool ≡ nat_le u.extent u.room
use_fits b a pool lawful u e =
    let is = items_on b a pool [] in
    let same : u ≡ use_by a pool is = told (nat_le (end_from 0 (in_order is)) (2 ^ 63)) u (use_by a pool is) e in
    by_items a pool is (items_placeable b a pool lawful []) ∙ ap (λ (w : PoolUse). nat_le w.extent w.room) (sym same)
