-- Cells listed by their offsets.
use Rattle.std.{proofs.{Common.{◌≡◌, ◌≢◌, ℕ, zero, suc, ◌+◌, ◌/◌, ◌<◌, ◌≤◌, inr, Bool, false, Option, Some, None, List, [], ◌∷◌, ◌++◌, map, length, refl, ap, ap₂, sym, ◌∙◌, subst, arith, rules, take, add-one}, lemmas.{Bool.{ne_eqb, eq-eqb, Decides.nat_tests}, Simd.map-map}}, specs.{Prelude.{◌==◌, flat_map}, List.slice_get, Option.option_map_or}}
use Rattle.lists.{specs.Elements.{Each, EachPair}, proofs.{EachLemmas.{each_append, each_map, pairs_map}, Indices.{each_at, pair_at, find_at, each_by_index, found_at}}}
use Rattle.model_registers.{specs.{Cell.Cell, Registers.{Place, config, PlacedCell, File, field, cells_from}, FileLaws.{has_place, IsConfig, IsConfigFile}, Declarations.{Bar, Region, registers_of, IsLawfulRegion, HasLawfulRegions, ConfigBlock, Endpoint}, DeclarationRules.{IsConfigBlock, IsLawfulEndpoint}, EndpointTable.{BaseAddress, opened, closed, region_cells, block_cells, header_cells, config_reset, endpoint_reset}}, proofs.{Files.region_cells as cells_in_region, Parts.IsOutside, BareRegions.bare_lawful, Bases.registers_positive}}
use Rattle.config_bytes.specs.CellFile.{CellFile, offsets_from}
use Rattle.bars.specs.Resets.{reset_from, at_reset}
use Rattle.bridge_forward.{specs.EndpointParts.{block_at, region_parts, IsElsewhere, AreParts, region_at, declared_bar, declared_block, as_made}, proofs.{RegionParts.config_field, EndpointAccess.no_block}}

next : (xs : List Cell) (a i : ℕ) (x : Cell) → slice_get xs i ≡ Some x → offsets_from a (take (suc i) xs) ≡ offsets_from a (take i xs) ++ (a + i, x) ∷ []
next [] a i x e = absurd (cc)
next (y ∷ ys) a zero x e = let same : y ≡ x = cc in let here : a ≡ a + 0 = omega arith in ap₂ (λ n z. (n, z) ∷ []) here same
next (y ∷ ys) a (suc i) x e = ap (λ (cs : List (ℕ × Cell)). (a, y) ∷ cs) (next ys (a + 1) i x e ∙ (let here : a + 1 + i ≡ a + suc i = omega arith in ap (λ n. offsets_from (a + 1) (take i ys) ++ (n, x) ∷ []) here))

pub offsets_next : (xs : List Cell) (i : ℕ) (x : Cell) → slice_get xs i ≡ Some x → offsets_from 0 (take (i + 1) xs) ≡ offsets_from 0 (take i xs) ++ (i, x) ∷ []
offsets_next xs i x e = grind (arith, add-one i, next xs 0 i x e)

-- what holds of each region holds of the one at a register
pub found_each : (P : Region → Type 0) (rs : List Region) (n : ℕ) (r : Region) → Each P rs → region_at rs n ≡ Some r → P r
found_each P rs n r h e = let at = found_at (λ (s : Region). s.index == n) rs r e in each_at P rs at.1.0 r h at.1.1

-- ---- the parts of an endpoint at reset

-- ---- where the header and the device's own registers stand

pub none_field : (q w a v m c : ℕ) → IsOutside q a w → has_place (field (config a) w v m c) (config q) ≡ false
none_field q zero a v m c h = refl
none_field q (suc w) a v m c h = grind (arith, nat_tests, none_field q w (a + 1) (v / 256) (m / 256) (c / 256))

pub none_cells : (q a : ℕ) (cs : List Cell) → IsOutside q a (length cs) → has_place (cells_from (config a) cs) (config q) ≡ false
none_cells q a [] h = refl
none_cells q a (c ∷ cs) h = grind (arith, nat_tests, none_cells q (a + 1) cs)

pub none_joined : (p : Place) (xs ys : File) → has_place xs p ≡ false → has_place ys p ≡ false → has_place (xs ++ ys) p ≡ false
none_joined p [] ys h k = k
none_joined p (x ∷ xs) ys h k = grind (arith, none_joined p xs ys)

config_cells_from : (a : ℕ) (cs : List Cell) → IsConfigFile (cells_from (config a) cs)
config_cells_from a [] = tt
config_cells_from a (c ∷ cs) = (tt, config_cells_from (a + 1) cs)

config_blocks : (bs : List ConfigBlock) → IsConfigFile (flat_map block_cells bs)
config_blocks [] = tt
config_blocks (b ∷ bs) = each_append (λ (e : PlacedCell). IsConfig e.place) (block_cells b) (flat_map block_cells bs) (config_cells_from b.offset b.cells) (config_blocks bs)

block_outside : (q a w : ℕ) → IsElsewhere q → 0x34 ≤ a → a + w ≤ 0x100 → IsOutside q a w
block_outside q a w h low high = grind arith

none_blocks : (q : ℕ) (bs : List ConfigBlock) → Each IsConfigBlock bs → IsElsewhere q → has_place (flat_map block_cells bs) (config q) ≡ false
none_blocks q [] l h = refl
none_blocks q (b ∷ bs) l h = grind (arith, none_joined, none_cells, block_outside, none_blocks q bs)

-- configuration cells, none at a base address register or beyond configuration space
pub record IsAway (xs : File) : Type 0 where
  pub places : IsConfigFile xs
  pub none : (q : ℕ) → IsElsewhere q → has_place xs (config q) ≡ false

join : {xs ys : File} → IsAway xs → IsAway ys → IsAway (xs ++ ys)
join {xs} {ys} a b = record { places = each_append (λ (e : PlacedCell). IsConfig e.place) xs ys a.places b.places; none = λ q h. none_joined (config q) xs ys (a.none q h) (b.none q h) }

low : (a w v m c : ℕ) → a + w ≤ 0x10 → IsAway (field (config a) w v m c)
low a w v m c l = search (rules, config_field, none_field)

high : (a w v m c : ℕ) → 0x28 ≤ a → a + w ≤ 0x100 → IsAway (field (config a) w v m c)
high a w v m c l k = search (rules, config_field, none_field)

header_away : (d : Endpoint) (multifunction : Bool) → IsAway (header_cells d multifunction 0)
header_away d multifunction = search (rules, join, low, high)

pub reset_away : (d : Endpoint) (multifunction : Bool) → Each IsConfigBlock d.blocks → IsAway (config_reset d multifunction)
reset_away d multifunction h = join (header_away d multifunction) (record { places = config_blocks d.blocks; none = λ q e. none_blocks q d.blocks h e })

-- ---- regions by register

abbrev Rising : Region → Region → Type 0
Rising r s = r.index < s.index

rising : (rs : List Region) → EachPair (λ r s. r.index + registers_of r.kind ≤ s.index) rs → EachPair Rising rs
rising rs h = pairs_map (λ r s. r.index + registers_of r.kind ≤ s.index) Rising rs (λ r s l. let some = registers_positive r.kind in omega arith) h

-- k values from n on
abbrev values_from : {A : Type 0} → ℕ → ℕ → (ℕ → A) → List A
values_from n zero f = []
values_from n (suc k) f = f n ∷ values_from (n + 1) k f

abbrev Between : ℕ → ℕ → Region → Type 0
Between n k r = (n ≤ r.index) × (r.index < n + k)

same_values : {A : Type 0} (f g : ℕ → A) (n k : ℕ) → ((m : ℕ) → n ≤ m → f m ≡ g m) → values_from n k f ≡ values_from n k g
same_values f g n zero h = refl
same_values f g n (suc k) h = ap₂ (λ x xs. x ∷ xs) (h n (omega arith)) (same_values f g (n + 1) k (λ m l. h m (omega arith)))

not_at : (n : ℕ) (rs : List Region) → Each (λ r. n < r.index) rs → region_at rs n ≡ None
not_at n [] h = refl
not_at n (r ∷ rs) h = grind (arith, nat_tests, not_at n rs h.1)

above_head : (r : Region) (rs : List Region) (n : ℕ) → n ≤ r.index → Each (Rising r) rs → Each (λ s. n < s.index) rs
above_head r rs n l h = each_map (Rising r) (λ s. n < s.index) rs (λ s k. omega arith) h

narrowed : (n k : ℕ) (rs : List Region) → Each (λ r. n < r.index) rs → Each (Between n (suc k)) rs → Each (Between (n + 1) k) rs
narrowed n k [] a b = tt
narrowed n k (r ∷ rs) a b = ((omega (arith, a.0), omega (arith, b.0.1)), narrowed n k rs a.1 b.1)

-- the registers that are declared by index, at reset
bars_from : (k n : ℕ) (rs : List Region) → Each (Between n k) rs → EachPair Rising rs → reset_from n (values_from n k (declared_bar rs)) ≡ map closed rs
bars_from zero n [] b o = refl
bars_from zero n (r ∷ rs) b o = absurd (omega (arith, b.0.0, b.0.1))
bars_from (suc k) n [] b o = bars_from k (n + 1) [] tt tt
bars_from (suc k) n (r ∷ rs) b o = grind (arith, eq-eqb, same_values, ne_eqb, narrowed, above_head, not_at, bars_from k (n + 1) rs, bars_from k (n + 1) (r ∷ rs))

between_six : (rs : List Region) → Each IsLawfulRegion rs → Each (Between 0 6) rs
between_six rs h = each_map IsLawfulRegion (Between 0 6) rs (λ r l. let some = registers_positive r.kind in let within = l.registers in (omega arith, omega arith)) h

bars_at_reset : (rs : List Region) → HasLawfulRegions rs → at_reset (map (declared_bar rs) (0 ∷ 1 ∷ 2 ∷ 3 ∷ 4 ∷ 5 ∷ [])) ≡ map closed rs
bars_at_reset rs h = bars_from 6 0 rs (between_six rs h.each) (rising rs h.in_order)

-- the same for any list that is those regions
pub bars_declared : (d : Endpoint) → IsLawfulEndpoint d → (rs : List Region) → rs ≡ d.regions → (bars : List (Option Bar)) → bars ≡ map (declared_bar rs) (0 ∷ 1 ∷ 2 ∷ 3 ∷ 4 ∷ 5 ∷ []) → at_reset bars ≡ map closed d.regions
bars_declared d lawful rs same bars is = grind (arith, bars_at_reset d.regions lawful.regions)

pub opens_lawful : (d : Endpoint) → IsLawfulEndpoint d → (bars : List BaseAddress) → bars ≡ map closed d.regions → HasLawfulRegions (map opened bars)
opens_lawful d lawful bars is = subst HasLawfulRegions (sym (ap (map opened) is ∙ map-map opened closed d.regions)) (bare_lawful d.regions lawful.regions)

-- ---- blocks by register

-- each region is the one at its register
own_region : (rs : List Region) → EachPair Rising rs → (i : ℕ) (r : Region) → slice_get rs i ≡ Some r → region_at rs r.index ≡ Some r
own_region rs o i r e = grind (arith, find_at, eq-eqb, ne_eqb, pair_at)

parts_of : (rs : List Region) (g : ℕ → File) → Each (λ r. g r.index ≡ cells_from (config 0) r.cells) rs → region_parts (map closed rs) g ≡ flat_map (region_cells (λ r. 0)) rs
parts_of [] g h = refl
parts_of (r ∷ rs) g h = grind (arith, cells_in_region, parts_of rs g)

none_at : (rs : List Region) (n : ℕ) → Each (λ (b : BaseAddress). b.index ≢ n) (map closed rs) → region_at rs n ≡ None
none_at [] n h = refl
none_at (r ∷ rs) n h = grind (arith, nat_tests, none_at rs n h.1)

module _ (d : Endpoint) (lawful : IsLawfulEndpoint d) (blocks : List CellFile) (six : length blocks ≡ 6) (filled : (n : ℕ) → n < 6 → block_at blocks n ≡ declared_block d.regions n) where
  -- each block is none, or the cells that a region declares
  block_is : (P : File → Type 0) → P [] → ((r : Region) → length r.cells ≤ 4096 → P (cells_from (config 0) r.cells)) → (n : ℕ) → P (block_at blocks n)
  block_is P none some n = search (rules, found_each, no_block)

  -- no block stands where no region begins
  unused : (n : ℕ) → Each (λ (b : BaseAddress). b.index ≢ n) (map closed d.regions) → block_at blocks n ≡ []
  unused n u = grind (arith, filled n, no_block blocks n, none_at d.regions n u)

  parts_at_reset : (multifunction : Bool) → AreParts d (config_reset d multifunction) (map closed d.regions) (block_at blocks)
  parts_at_reset multifunction =
      let away = reset_away d multifunction lawful.config_blocks in
      record {
        lawful = lawful.regions;
        registers = map-map opened closed d.regions;
        config_places = away.places;
        config_within = away.none;
        block_places = λ n. block_is IsConfigFile tt (λ r l. config_cells_from 0 r.cells) n;
        block_within = λ n q h. block_is (λ (xs : File). has_place xs (config q) ≡ false) refl (λ r l. none_cells q 0 r.cells (inr (omega (arith, l, h)))) n;
        unused = unused;
      }

  file_at_reset : (multifunction : Bool) → config_reset d multifunction ++ region_parts (map closed d.regions) (block_at blocks) ≡ endpoint_reset d multifunction
  file_at_reset multifunction = search (rules, parts_of, each_by_index, each_at, registers_positive, own_region, rising)

  -- the same for any parts that are those
  module _ (multifunction : Bool) (cells : File) (bars : List BaseAddress) (cells_are : cells ≡ config_reset d multifunction) (bars_are : bars ≡ map closed d.regions) where
    pub parts_new : AreParts d cells bars (block_at blocks)
    parts_new = subst (λ (xs : File). AreParts d xs bars (block_at blocks)) (sym cells_are) (subst (λ (bs : List BaseAddress). AreParts d (config_reset d multifunction) bs (block_at blocks)) (sym bars_are) (parts_at_reset multifunction))

    pub file_new : cells ++ region_parts bars (block_at blocks) ≡ endpoint_reset d multifunction
    file_new = ap₂ (λ (xs : File) (bs : List BaseAddress). xs ++ region_parts bs (block_at blocks)) cells_are bars_are ∙ file_at_reset multifunction

-- blocks declared by any list that is those regions
pub blocks_declared : (d : Endpoint) (rs : List Region) → rs ≡ d.regions → (blocks : List CellFile) → ((n : ℕ) → n < 6 → slice_get blocks n ≡ Some (as_made (declared_block rs n))) → (n : ℕ) → n < 6 → slice_get blocks n ≡ Some (as_made (declared_block d.regions n))
blocks_declared d rs same blocks filled n l = filled n l ∙ ap (λ xs. Some (as_made (declared_block xs n))) same

pub blocks_filled : (d : Endpoint) (blocks : List CellFile) → ((n : ℕ) → n < 6 → slice_get blocks n ≡ Some (as_made (declared_block d.regions n))) → (n : ℕ) → n < 6 → block_at blocks n ≡ declared_block d.regions n
blocks_filled d blocks filled n l = ap (λ o. option_map_or (λ (f : CellFile). f.now) o []) (filled n l)
