-- The image of a guest of lawful functions, which hold what they can, has bytes.
use Rattle.std.{proofs.{Common.{◌≡◌, ℕ, ◌+◌, ◌^◌, ◌<◌, ◌≤◌, Bool, true, false, cond, ◌&&◌, List, [], ◌∷◌, length, map, Some, None, refl, ap, ◌∙◌, subst, arith}, lemmas.{Bool.{and_from, lt-ltb, eq-eqb}, List.length-map, Nat.{and_le_r, or_of_16}}}, specs.{Prelude.{option_map, bit_and}, List.list_any}}
use Rattle.lists.{specs.Elements.{Each, EachPair}, proofs.EachLemmas.each_map}
use Rattle.model_registers.{specs.{Cell.{Cell, IsCell}, Registers.File, AccessLaws.HoldsBytes, ConfigAddress.latched, CopiedFiles.shape_of, Declarations.{Kind, registers_of, greatest_size, Region, IsLawfulRegion, ConfigBlock, Endpoint}, DeclarationRules.{is_capabilities_pointer, capabilities_list_bit, IsConfigBlock, IsLawfulEndpoint}, EndpointTable.endpoint_reset, Decoding.Function}, proofs.Bases.registers_positive}
use Rattle.model_guests.specs.Slots.{Slots}
use Rattle.model_images.specs.{Images.{values_of, saved, fit_cells}, Layouts.{Layout, number, fit_times, counted, optional}, ImageBytes.{cell_layout, kind_layout, region_layout, block_layout, endpoint_layout, function_layout, latch_layout}, ByteLaws.{IsDeclared, IsSavable, HoldsSavable, GuestsHaveBytes}}
use Rattle.model_images.proofs.BlockCounts.{block_count}

-- ---- lists

pub times_fit : {A : Type 0} (fits : A → Bool) (xs : List A) → Each (λ x. fits x ≡ true) xs → fit_times fits (length xs) xs ≡ true
times_fit fits [] h = refl
times_fit fits (x ∷ xs) h = and_from (fits x) (fit_times fits (length xs) xs) h.0 (times_fit fits xs h.1)

pub counted_fit : {A : Type 0} (k : ℕ) (L : Layout A) (xs : List A) → length xs < 256 ^ k → Each (λ x. L.fits x ≡ true) xs → (counted k L).fits xs ≡ true
counted_fit k L xs few h = and_from ((number k).fits (length xs)) (fit_times L.fits (length xs) xs) (lt-ltb (length xs) (256 ^ k) few) (times_fit L.fits xs h)

-- ---- cells, regions and blocks

cell_fits : (c : Cell) → IsCell c → cell_layout.fits c ≡ true
cell_fits c h = let value = h.value_fits in let writable = h.writable_fits in let clearable = h.clearable_fits in grind (arith, lt-ltb, value, writable, clearable)

kind_fits : (k : Kind) → kind_layout.fits k ≡ true
kind_fits k = grind arith

greatest_fits : (k : Kind) → greatest_size k < 256 ^ 8
greatest_fits k = grind arith

record IsWritten (r : Region) : Type 0 where
  pub lawful : IsLawfulRegion r
  pub short : length r.cells ≤ 4096
  pub cells : Each IsCell r.cells

region_fits : (r : Region) → IsWritten r → region_layout.fits r ≡ true
region_fits r h =
    grind (arith, greatest_fits r.kind, counted_fit 2 cell_layout, each_map IsCell, cell_fits, lt-ltb, and_from (kind_layout.fits r.kind), kind_fits r.kind)

block_fits : (b : ConfigBlock) → IsConfigBlock b → Each IsCell b.cells → block_layout.fits b ≡ true
block_fits b h k = grind (arith, and_from, lt-ltb, counted_fit 1 cell_layout b.cells, each_map IsCell, cell_layout.fits, cell_fits)

-- ---- how many there are

few_regions : (rs : List Region) (n : ℕ) → n ≤ 6 → Each IsLawfulRegion rs → EachPair (λ r s. r.index + registers_of r.kind ≤ s.index) rs → Each (λ r. n ≤ r.index) rs → length rs + n ≤ 6
few_regions [] n low all order above = omega arith
few_regions (r ∷ rs) n low all order above = grind (arith, registers_positive, each_map, few_regions rs (r.index + 1))

pub all_above : (rs : List Region) → Each (λ r. 0 ≤ r.index) rs
all_above [] = tt
all_above (r ∷ rs) = (omega arith, all_above rs)

pub region_count : (d : Endpoint) → IsLawfulEndpoint d → length d.regions ≤ 6
region_count d h = let a = few_regions d.regions 0 (omega arith) h.regions.each h.regions.in_order (all_above d.regions) in omega arith

-- ---- declarations

-- what has bits of a mask alone is not greater
masked : (n m : ℕ) → bit_and n m ≡ n → n < m + 1
masked n m h = let a = and_le_r n m in let low : n ≤ m = subst (λ x. x ≤ m) h a in omega arith

-- Status has 16 bits
status_small : (d : Endpoint) → IsLawfulEndpoint d → d.status < 2 ^ 16
status_small d h =
    let masked = and_le_r d.status 0xffe0 in
    subst (λ n. n < 2 ^ 16) h.status (or_of_16 (bit_and d.status 0xffe0) (capabilities_list_bit d.blocks) (omega (arith, masked)) (bit_small (list_any is_capabilities_pointer d.blocks)))
  where
    bit_small : (t : Bool) → cond t 0x10 0 < 2 ^ 16
    bit_small t = grind arith

pub endpoint_fits : (d : Endpoint) → IsDeclared d → endpoint_layout.fits d ≡ true
endpoint_fits d h = grind (arith, region_count d h.lawful, block_count d h.lawful, counted_fit 1 region_layout, regions_fit, counted_fit 1 block_layout, blocks_fit, numbers)
  where
    regions_fit : (rs : List Region) → Each IsLawfulRegion rs → Each (λ r. length r.cells ≤ 4096) rs → Each (λ (r : Region). Each IsCell r.cells) rs → Each (λ r. region_layout.fits r ≡ true) rs
    regions_fit [] a b c = tt
    regions_fit (r ∷ rs) a b c = (region_fits r (record { lawful = a.0; short = b.0; cells = c.0 }), regions_fit rs a.1 b.1 c.1)

    blocks_fit : (bs : List ConfigBlock) → Each IsConfigBlock bs → Each (λ (b : ConfigBlock). Each IsCell b.cells) bs → Each (λ b. block_layout.fits b ≡ true) bs
    blocks_fit [] a b = tt
    blocks_fit (x ∷ xs) a b = (block_fits x a.0 b.0, blocks_fit xs a.1 b.1)

    numbers : (counted 1 region_layout).fits d.regions ≡ true → (counted 1 block_layout).fits d.blocks ≡ true → endpoint_layout.fits d ≡ true
    numbers r b = grind (arith, lt-ltb, status_small)

-- ---- guests

pub values_fit : (file : File) → HoldsBytes file → Each (λ n. (number 1).fits n ≡ true) (values_of file)
values_fit [] h = tt
values_fit (e ∷ es) h = (lt-ltb e.cell.value 256 h.0, values_fit es h.1)

pub as_long : (f g : File) → shape_of f ≡ shape_of g → length (values_of f) ≡ length g
as_long f g same = grind (arith, length-map)

pub function_fits : (f : Function) → IsSavable f → function_layout.fits (saved f) ≡ true
function_fits f h =
    let reset = endpoint_reset f.decl false in
    let many = fit_times (number 1).fits (length reset) (values_of f.file) in
    let values = subst (λ n. fit_times (number 1).fits n (values_of f.file) ≡ true) (as_long f.file reset h.fits.shape) (times_fit (number 1).fits (values_of f.file) (values_fit f.file h.bytes)) in
    and_from (endpoint_layout.fits f.decl) (many && fit_cells reset (values_of f.file)) (endpoint_fits f.decl h.declared) (and_from many (fit_cells reset (values_of f.file)) values h.fits.values)

slots_fit : (fs : Slots) → Each HoldsSavable fs → Each (λ s. (optional function_layout).fits s ≡ true) (map (option_map saved) fs)
slots_fit [] h = tt
slots_fit (None ∷ fs) h = (refl, slots_fit fs h.1)
slots_fit (Some f ∷ fs) h = (ap (λ t. (t && true) && true) (function_fits f h.0), slots_fit fs h.1)

pub latch_fits : (n : ℕ) → latched n ≡ n → latch_layout.fits n ≡ true
latch_fits n h = grind (arith, masked, and_from, lt-ltb, eq-eqb)

pub lawful_guest_has_encoding : GuestsHaveBytes
lawful_guest_has_encoding g h =
    let slots = map (option_map saved) g.slots in
    let many : length slots ≡ 32 = length-map g.slots (option_map saved) ∙ h.count in
    and_from (latch_layout.fits g.latch) (fit_times (optional function_layout).fits 32 slots) (latch_fits g.latch h.latch)
    (subst (λ n. fit_times (optional function_layout).fits n slots ≡ true) many (times_fit (optional function_layout).fits slots (slots_fit g.slots h.functions)))
