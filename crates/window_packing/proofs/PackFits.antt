-- Whether a pool fits, by the pack of bus 0.
use Rattle.std.proofs.Common.{◌≡◌, inl, true, List, [], ◌∷◌, refl, ap, subst}
use Rattle.lists.specs.Elements.{IsIn}
use Rattle.model_set_up.{specs.{Pools.Pool, Placement.{PlacementItem, spots, fits_items}}, proofs.Items.spot_of}
use Rattle.model_registers.specs.Apertures.{Apertures}

-- a bus has spots where it has items
pub no_items : (is : List PlacementItem) → spots is ≡ [] → is ≡ []
no_items [] e = refl
no_items (i ∷ is) e = let s = spot_of i (i ∷ is) (inl refl) in absurd (subst (IsIn s.0) e s.1)

pub fits_empty : (a : Apertures) (pool : Pool) (is : List PlacementItem) → spots is ≡ [] → fits_items a pool is ≡ true
fits_empty a pool is e = ap (fits_items a pool) (no_items is e)
