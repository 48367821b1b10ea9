-- The table of an endpoint after set-up and at reset: the same places, and the same cells but for those of which a guest has copies.
use Rattle.std.{proofs.Common.{◌≡◌, ℕ, Bool, false, List, [], ◌∷◌, ◌++◌, refl, ap₂, arith}, specs.Prelude.{flat_map, ⊤, IsFalse}}
use Rattle.lists.specs.Elements.{Each}
use Rattle.model_registers.{proofs.Owned.base_is_own, specs.{Registers.{Place, place_eq, PlacedCell, File, cell_at}, Declarations.{Region, Endpoint, IsLawfulRegion}, EndpointTable.{region_cells, endpoint_file, endpoint_reset}, OwnCopies.is_own, CopiedFiles.{agreed_file, places_of}}}
use Rattle.model_guests.proofs.{DistinctPlaces.HasDistinctPlaces, AgreedFiles.place_self}

-- entry by entry: the same place, and the same cell unless the guest has a copy of it
pub record AlikeEntries (own left : PlacedCell) : Type 0 where
  pub place : own.place ≡ left.place
  pub cell : is_own left.place ≡ false → own.cell ≡ left.cell

abbrev pub Alike : File → File → Type 0
Alike [] [] = ⊤
Alike [] (l ∷ ls) = ⊥
Alike (o ∷ os) [] = ⊥
Alike (o ∷ os) (l ∷ ls) = AlikeEntries o l × Alike os ls

alike_append : (a b c d : File) → Alike a b → Alike c d → Alike (a ++ c) (b ++ d)
alike_append [] l c d h k = grind arith
alike_append (o ∷ os) [] c d h k = absurd h
alike_append (o ∷ os) (l ∷ ls) c d h k = (h.0, alike_append os ls c d h.1 k)

alike_self : (file : File) → Alike file file
alike_self [] = tt
alike_self (e ∷ es) = (record { place = refl; cell = λ h. refl }, alike_self es)

pub alike_places : (a b : File) → Alike a b → places_of a ≡ places_of b
alike_places [] l h = grind arith
alike_places (o ∷ os) [] h = absurd h
alike_places (o ∷ os) (l ∷ ls) h = ap₂ (λ (p : Place) (ps : List Place). p ∷ ps) h.0.place (alike_places os ls h.1)

alike_regions : (bases : Region → ℕ) (rs : List Region) → Each IsLawfulRegion rs → Alike (flat_map (region_cells (λ r. 0)) rs) (flat_map (region_cells bases) rs)
alike_regions bases [] all = tt
alike_regions bases (r ∷ rs) all = grind (arith, alike_regions bases rs, alike_append, base_is_own, alike_self)

pub alike_tables : (d : Endpoint) (multifunction : Bool) (command : ℕ) (bases : Region → ℕ) → Each IsLawfulRegion d.regions
    → Alike (endpoint_reset d false) (endpoint_file d multifunction command bases)
alike_tables d multifunction command bases registers = grind (arith, alike_append, alike_self, alike_regions)

-- ---- a file at reset, put into the table that set-up left

-- where no place stands twice, each entry is found by its place
pub found_entries : (file : File) → HasDistinctPlaces file → Each (λ e. cell_at file e.place ≡ e.cell) file
found_entries [] distinct = tt
found_entries (e ∷ es) distinct = (rw (place_self e.place), later es distinct.0 (found_entries es distinct.1))
  where
    later : (ds : File) → Each (λ p. IsFalse (place_eq e.place p)) (places_of ds) → Each (λ d. cell_at es d.place ≡ d.cell) ds → Each (λ d. cell_at (e ∷ es) d.place ≡ d.cell) ds
    later [] apart found = tt
    later (d ∷ ds) apart found = let other : place_eq e.place d.place ≡ false = apart.0 in (rw other found.0, later ds apart.1 found.1)

agreed_entries : (full own left : File) → Alike own left → Each (λ e. cell_at full e.place ≡ e.cell) own → agreed_file left full ≡ left
agreed_entries full [] l alike found = grind arith
agreed_entries full (o ∷ os) [] alike found = absurd alike
agreed_entries full (o ∷ os) (l ∷ ls) alike found = grind (arith, agreed_entries full os ls)

pub agreed_at_reset : (own left : File) → HasDistinctPlaces own → Alike own left → agreed_file left own ≡ left
agreed_at_reset own left distinct alike = agreed_entries own own left alike (found_entries own distinct)
