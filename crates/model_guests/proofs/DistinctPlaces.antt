-- No place of an endpoint's file stands twice: registers and blocks are runs of places, and no two runs meet.
use Rattle.std.{proofs.{Common.{◌≡◌, ℕ, zero, suc, ◌+◌, ◌*◌, ◌≤◌, ◌<◌, ◌⊎◌, inl, inr, Bool, false, List, [], ◌∷◌, ◌++◌, length, refl, sym, ap, ap₂, ◌∙◌, subst, arith}, lemmas.Bool.{leb-true, Decides.nat_tests}}, specs.Prelude.{flat_map, IsFalse}}
use Rattle.model_registers.{specs.{Cell.Cell, Registers.{Place, config, block, place_eq, after, File, cells_from}, Declarations.{registers_of, Region, ConfigBlock, Endpoint, IsLawfulRegion, HasLawfulRegions}, DeclarationRules.{IsInPlace, IsConfigBlock, IsLawfulEndpoint}, EndpointTable.{base_register, region_cells, block_cells, endpoint_file}, CopiedFiles.places_of}, proofs.Bases.registers_positive}
use Rattle.lists.{specs.Elements.{Each, EachPair}, proofs.EachLemmas.{each_map, pairs_map, each_append}}

-- ---- what a lawful declaration says of places

abbrev BlocksApart : ConfigBlock → ConfigBlock → Type 0
BlocksApart b c = (b.offset + length b.cells ≤ c.offset) ⊎ (c.offset + length c.cells ≤ b.offset)

abbrev InPlace : ConfigBlock → Type 0
InPlace b = IsInPlace b.offset (length b.cells)

record HasLawfulPlaces (d : Endpoint) : Type 0 where
  regions : HasLawfulRegions d.regions
  blocks : Each (λ b. 0x34 ≤ b.offset) d.blocks
  in_place : Each InPlace d.blocks
  blocks_apart : EachPair BlocksApart d.blocks

pub own_blocks : (d : Endpoint) → IsLawfulEndpoint d → Each (λ b. 0x34 ≤ b.offset) d.blocks
own_blocks d lawful = each_map IsConfigBlock (λ b. 0x34 ≤ b.offset) d.blocks (λ b h. h.begins) lawful.config_blocks

placed_blocks : (d : Endpoint) → IsLawfulEndpoint d → Each InPlace d.blocks
placed_blocks d lawful = each_map IsConfigBlock InPlace d.blocks (λ b h. h.in_place) lawful.config_blocks

lawful_places : (d : Endpoint) → IsLawfulEndpoint d → HasLawfulPlaces d
lawful_places d lawful = grind (arith, own_blocks, placed_blocks, pairs_map, leb-true)

-- ---- runs of places

-- n places, one after the other
abbrev run : Place → ℕ → List Place
run p zero = []
run p (suc n) = p ∷ run (after p) n

abbrev pub Apart : Place → Place → Type 0
Apart p q = IsFalse (place_eq p q)

-- none of the first stands among the second
abbrev AllApart : List Place → List Place → Type 0
AllApart ps qs = Each (λ p. Each (Apart p) qs) ps

abbrev pub HasDistinctPlaces : File → Type 0
HasDistinctPlaces file = EachPair Apart (places_of file)

-- ---- runs that do not meet

config_from : (a b n : ℕ) → a < b → Each (Apart (config a)) (run (config b) n)
config_from a b zero h = tt
config_from a b (suc n) h = grind (arith, config_from a (b + 1) n, nat_tests)

config_before : (a b n : ℕ) → b + n ≤ a → Each (Apart (config a)) (run (config b) n)
config_before a b zero h = tt
config_before a b (suc n) h = grind (arith, config_before a (b + 1) n, nat_tests)

configs_apart : (a m b n : ℕ) → (a + m ≤ b) ⊎ (b + n ≤ a) → AllApart (run (config a) m) (run (config b) n)
configs_apart a zero b n h = tt
configs_apart a (suc m) b n (inl h) = (config_from a b n (omega arith), configs_apart (a + 1) m b n (inl (omega arith)))
configs_apart a (suc m) b n (inr h) = (config_before a b n h, configs_apart (a + 1) m b n (inr (omega arith)))

config_and_block : (a m r b n : ℕ) → AllApart (run (config a) m) (run (block r b) n)
config_and_block a zero r b n = tt
config_and_block a (suc m) r b n = (one n b, config_and_block (a + 1) m r b n)
  where
    one : (n b : ℕ) → Each (Apart (config a)) (run (block r b) n)
    one zero b = tt
    one (suc n) b = (refl, one n (b + 1))

block_and_config : (r a m b n : ℕ) → AllApart (run (block r a) m) (run (config b) n)
block_and_config r a zero b n = tt
block_and_config r a (suc m) b n = (one n b, block_and_config r (a + 1) m b n)
  where
    one : (n b : ℕ) → Each (Apart (block r a)) (run (config b) n)
    one zero b = tt
    one (suc n) b = (refl, one n (b + 1))

runs_apart : (r a m s b n : ℕ) → r < s → AllApart (run (block r a) m) (run (block s b) n)
runs_apart r a zero s b n h = tt
runs_apart r a (suc m) s b n h = (one n b, runs_apart r (a + 1) m s b n h)
  where
    not_same : (r s a b : ℕ) → r < s → place_eq (block r a) (block s b) ≡ false
    not_same r s a b h = grind (arith, nat_tests)

    one : (n b : ℕ) → Each (Apart (block r a)) (run (block s b) n)
    one zero b = tt
    one (suc n) b = (not_same r s a b h, one n (b + 1))

config_run : (a n : ℕ) → EachPair Apart (run (config a) n)
config_run a zero = tt
config_run a (suc n) = (config_from a (a + 1) n (omega arith), config_run (a + 1) n)

block_run : (r a n : ℕ) → EachPair Apart (run (block r a) n)
block_run r a zero = tt
block_run r a (suc n) = (above a (a + 1) n (omega arith), block_run r (a + 1) n)
  where
    not_same : (r a b : ℕ) → a < b → place_eq (block r a) (block r b) ≡ false
    not_same r a b h = grind (arith, nat_tests)

    above : (a b n : ℕ) → a < b → Each (Apart (block r a)) (run (block r b) n)
    above a b zero h = tt
    above a b (suc n) h = (not_same r a b h, above a (b + 1) n (omega arith))

-- ---- lists of runs

-- apart from both is apart from the two together
apart_from_both : (ps qs rs : List Place) → AllApart ps qs → AllApart ps rs → AllApart ps (qs ++ rs)
apart_from_both [] qs rs h k = tt
apart_from_both (p ∷ ps) qs rs h k = (each_append (Apart p) qs rs h.0 k.0, apart_from_both ps qs rs h.1 k.1)

both_apart : (ps qs rs : List Place) → AllApart ps rs → AllApart qs rs → AllApart (ps ++ qs) rs
both_apart ps qs rs h k = each_append (λ p. Each (Apart p) rs) ps qs h k

nothing_apart : (ps : List Place) → AllApart ps []
nothing_apart [] = tt
nothing_apart (p ∷ ps) = (tt, nothing_apart ps)

apart_from_all : {X : Type 0} (f : X → List Place) (ps : List Place) (xs : List X) → Each (λ x. AllApart ps (f x)) xs → AllApart ps (flat_map f xs)
apart_from_all f ps [] h = nothing_apart ps
apart_from_all f ps (x ∷ xs) h = apart_from_both ps (f x) (flat_map f xs) h.0 (apart_from_all f ps xs h.1)

pairs_append : (ps qs : List Place) → EachPair Apart ps → EachPair Apart qs → AllApart ps qs → EachPair Apart (ps ++ qs)
pairs_append [] qs h k apart = k
pairs_append (p ∷ ps) qs h k apart = (each_append (Apart p) ps qs h.0 apart.0, pairs_append ps qs h.1 k apart.1)

-- ---- the runs of an endpoint

pub places_append : (a b : File) → places_of (a ++ b) ≡ places_of a ++ places_of b
places_append [] b = refl
places_append (e ∷ es) b = ap (λ (ps : List Place). e.place ∷ ps) (places_append es b)

cells_run : (p : Place) (cs : List Cell) → places_of (cells_from p cs) ≡ run p (length cs)
cells_run p [] = refl
cells_run p (c ∷ cs) = ap (λ (ps : List Place). p ∷ ps) (cells_run (after p) cs)

-- 00h to 0Eh, 2Ch to 2Fh and 3Ch to 3Fh
abbrev header_run : List Place
header_run = run (config 0) 15 ++ run (config 0x2c) 4 ++ run (config 0x3c) 4

abbrev block_run_of : ConfigBlock → List Place
block_run_of b = run (config b.offset) (length b.cells)

abbrev base_run_of : Region → List Place
base_run_of r = run (base_register r.index) (4 * registers_of r.kind)

abbrev region_run_of : Region → List Place
region_run_of r = base_run_of r ++ run (block r.index 0) (length r.cells)

blocks_places : (bs : List ConfigBlock) → places_of (flat_map block_cells bs) ≡ flat_map block_run_of bs
blocks_places [] = refl
blocks_places (b ∷ bs) = places_append (block_cells b) (flat_map block_cells bs) ∙ ap₂ (λ (ps qs : List Place). ps ++ qs) (cells_run (config b.offset) b.cells) (blocks_places bs)

regions_places : (bases : Region → ℕ) (rs : List Region) → places_of (flat_map (region_cells bases) rs) ≡ flat_map region_run_of rs
regions_places bases [] = refl
regions_places bases (r ∷ rs) = grind (arith, regions_places bases rs, places_append, cells_run)

endpoint_places : (d : Endpoint) (multifunction : Bool) (command : ℕ) (bases : Region → ℕ)
    → places_of (endpoint_file d multifunction command bases) ≡ (header_run ++ flat_map block_run_of d.blocks) ++ flat_map region_run_of d.regions
endpoint_places d multifunction command bases = grind (arith, places_append, blocks_places, regions_places)

-- ---- no two of them meet

header_distinct : EachPair Apart header_run
header_distinct = grind (arith, pairs_append, config_run, configs_apart, both_apart)

-- what each part of the header is apart from
header_apart : (ps : List Place) → AllApart (run (config 0) 15) ps → AllApart (run (config 0x2c) 4) ps → AllApart (run (config 0x3c) 4) ps → AllApart header_run ps
header_apart ps f g h = both_apart (run (config 0) 15 ++ run (config 0x2c) 4) (run (config 0x3c) 4) ps (both_apart (run (config 0) 15) (run (config 0x2c) 4) ps f g) h

behind_ids : (b : ConfigBlock) → InPlace b → 0x34 ≤ b.offset
behind_ids b (inl low) = omega arith
behind_ids b (inr is) = omega (arith, is.0)

-- the pointer is before 3Ch, and all other blocks are behind 3Fh
beside_last : (b : ConfigBlock) → InPlace b → (0x3c + 4 ≤ b.offset) ⊎ (b.offset + length b.cells ≤ 0x3c)
beside_last b (inl low) = inl (omega arith)
beside_last b (inr is) = inr (omega (arith, is.0, is.1))

header_and_block : (b : ConfigBlock) → InPlace b → AllApart header_run (block_run_of b)
header_and_block b h =
    let behind = behind_ids b h in
    header_apart (block_run_of b) (configs_apart 0 15 b.offset (length b.cells) (inl (omega (arith, behind)))) (configs_apart 0x2c 4 b.offset (length b.cells) (inl (omega (arith, behind))))
    (configs_apart 0x3c 4 b.offset (length b.cells) (beside_last b h))

header_and_base : (i n : ℕ) → i + n ≤ 6 → AllApart header_run (run (base_register i) (4 * n))
header_and_base i n h =
    header_apart (run (base_register i) (4 * n)) (configs_apart 0 15 (0x10 + 4 * i) (4 * n) (inl (omega arith))) (configs_apart 0x2c 4 (0x10 + 4 * i) (4 * n) (inr (omega arith)))
    (configs_apart 0x3c 4 (0x10 + 4 * i) (4 * n) (inr (omega arith)))

header_and_region : (r : Region) → IsLawfulRegion r → AllApart header_run (region_run_of r)
header_and_region r h =
    let cells : List Place = run (block r.index 0) (length r.cells) in
    apart_from_both header_run (base_run_of r) cells (header_and_base r.index (registers_of r.kind) h.registers)
    (header_apart cells (config_and_block 0 15 r.index 0 (length r.cells)) (config_and_block 0x2c 4 r.index 0 (length r.cells)) (config_and_block 0x3c 4 r.index 0 (length r.cells)))

block_and_base : (a m i n : ℕ) → 0x34 ≤ a → i + n ≤ 6 → AllApart (run (config a) m) (run (base_register i) (4 * n))
block_and_base a m i n h k = configs_apart a m (0x10 + 4 * i) (4 * n) (inr (omega arith))

block_and_region : (b : ConfigBlock) (r : Region) → 0x34 ≤ b.offset → IsLawfulRegion r → AllApart (block_run_of b) (region_run_of r)
block_and_region b r h k =
    apart_from_both (block_run_of b) (base_run_of r) (run (block r.index 0) (length r.cells))
    (block_and_base b.offset (length b.cells) r.index (registers_of r.kind) h k.registers) (config_and_block b.offset (length b.cells) r.index 0 (length r.cells))

bases_apart : (i m j n : ℕ) → i + m ≤ j → AllApart (run (base_register i) (4 * m)) (run (base_register j) (4 * n))
bases_apart i m j n h = configs_apart (0x10 + 4 * i) (4 * m) (0x10 + 4 * j) (4 * n) (inl (omega arith))

regions_apart : (r s : Region) → r.index + registers_of r.kind ≤ s.index → AllApart (region_run_of r) (region_run_of s)
regions_apart r s h =
    let own : List Place = run (block r.index 0) (length r.cells) in
    let other : List Place = run (block s.index 0) (length s.cells) in
    let later : r.index < s.index = omega (arith, registers_positive r.kind) in
    both_apart (base_run_of r) own (region_run_of s)
    (apart_from_both (base_run_of r) (base_run_of s) other (bases_apart r.index (registers_of r.kind) s.index (registers_of s.kind) h)
    (config_and_block (0x10 + 4 * r.index) (4 * registers_of r.kind) s.index 0 (length s.cells)))
    (apart_from_both own (base_run_of s) other (block_and_config r.index 0 (length r.cells) (0x10 + 4 * s.index) (4 * registers_of s.kind))
    (runs_apart r.index 0 (length r.cells) s.index 0 (length s.cells) later))

blocks_distinct : (bs : List ConfigBlock) → EachPair BlocksApart bs → EachPair Apart (flat_map block_run_of bs)
blocks_distinct [] apart = tt
blocks_distinct (b ∷ bs) apart =
    pairs_append (block_run_of b) (flat_map block_run_of bs) (config_run b.offset (length b.cells)) (blocks_distinct bs apart.1)
    (apart_from_all block_run_of (block_run_of b) bs (each_map (BlocksApart b) (λ c. AllApart (block_run_of b) (block_run_of c)) bs (λ c h. configs_apart b.offset (length b.cells) c.offset (length c.cells) h) apart.0))

regions_distinct : (rs : List Region) → EachPair (λ r s. r.index + registers_of r.kind ≤ s.index) rs → EachPair Apart (flat_map region_run_of rs)
regions_distinct [] apart = tt
regions_distinct (r ∷ rs) apart =
    pairs_append (region_run_of r) (flat_map region_run_of rs)
    (pairs_append (base_run_of r) (run (block r.index 0) (length r.cells)) (config_run (0x10 + 4 * r.index) (4 * registers_of r.kind)) (block_run r.index 0 (length r.cells))
    (config_and_block (0x10 + 4 * r.index) (4 * registers_of r.kind) r.index 0 (length r.cells)))
    (regions_distinct rs apart.1)
    (apart_from_all region_run_of (region_run_of r) rs (each_map (λ s. r.index + registers_of r.kind ≤ s.index) (λ s. AllApart (region_run_of r) (region_run_of s)) rs (λ s h. regions_apart r s h) apart.0))

blocks_and_regions : (bs : List ConfigBlock) (rs : List Region) → Each (λ b. 0x34 ≤ b.offset) bs → Each IsLawfulRegion rs → AllApart (flat_map block_run_of bs) (flat_map region_run_of rs)
blocks_and_regions [] rs h k = tt
blocks_and_regions (b ∷ bs) rs h k = grind (arith, blocks_and_regions bs rs, both_apart, apart_from_all, each_map, block_and_region)

distinct : (d : Endpoint) → HasLawfulPlaces d → (multifunction : Bool) (command : ℕ) (bases : Region → ℕ) → HasDistinctPlaces (endpoint_file d multifunction command bases)
distinct d lawful multifunction command bases = subst (EachPair Apart) (sym (endpoint_places d multifunction command bases)) all
  where
    blocks : List Place
    blocks = flat_map block_run_of d.blocks

    all : EachPair Apart ((header_run ++ blocks) ++ flat_map region_run_of d.regions)
    all =
        pairs_append (header_run ++ blocks) (flat_map region_run_of d.regions)
        (pairs_append header_run blocks header_distinct (blocks_distinct d.blocks lawful.blocks_apart)
        (apart_from_all block_run_of header_run d.blocks (each_map InPlace (λ b. AllApart header_run (block_run_of b)) d.blocks (λ b h. header_and_block b h) lawful.in_place)))
        (regions_distinct d.regions lawful.regions.in_order)
        (both_apart header_run blocks (flat_map region_run_of d.regions)
        (apart_from_all region_run_of header_run d.regions (each_map IsLawfulRegion (λ r. AllApart header_run (region_run_of r)) d.regions (λ r h. header_and_region r h) lawful.regions.each))
        (blocks_and_regions d.blocks d.regions lawful.blocks lawful.regions.each))

pub distinct_places : (d : Endpoint) → IsLawfulEndpoint d → (multifunction : Bool) (command : ℕ) (bases : Region → ℕ) → HasDistinctPlaces (endpoint_file d multifunction command bases)
distinct_places d lawful multifunction command bases = distinct d (lawful_places d lawful) multifunction command bases
