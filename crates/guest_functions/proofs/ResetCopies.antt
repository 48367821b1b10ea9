-- Base address registers whose bases are set to 0.
use Rattle.std.proofs.Common.{◌≡◌, List, [], ◌∷◌, map, refl, sym, ap, ◌∙◌}
use Rattle.model_registers.specs.{Declarations.Region, EndpointTable.{BaseAddress, opened, closed}, OwnCopies.bare}
use Rattle.bars.specs.Resets.{with_no_base}

-- they open what they opened
closed_opened : (bs : List BaseAddress) → map closed (map opened bs) ≡ map with_no_base bs
closed_opened [] = refl
closed_opened (b ∷ bs) = ap (λ (cs : List BaseAddress). with_no_base b ∷ cs) (closed_opened bs)

closed_bare : (rs : List Region) → map closed (map bare rs) ≡ map closed rs
closed_bare [] = refl
closed_bare (r ∷ rs) = ap (λ (cs : List BaseAddress). closed r ∷ cs) (closed_bare rs)

-- of the regions of a declaration, they are its registers at reset
pub closed_as_opened : (rs : List Region) (bs : List BaseAddress) → map bare rs ≡ map opened bs → map closed rs ≡ map with_no_base bs
closed_as_opened rs bs same = sym (closed_bare rs) ∙ ap (map closed) same ∙ closed_opened bs
