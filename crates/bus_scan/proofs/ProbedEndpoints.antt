-- What the base address registers of an endpoint at reset read after all ones.
--     mask_at      what the register at an index reads
use Rattle.std.{proofs.{lemmas.Bool.{Decides.nat_tests, cases_eq}, Common.{◌≡◌, ℕ, ◌+◌, ◌*◌, ◌/◌, ◌%◌, ◌^◌, ◌<◌, ◌≤◌, ◌⊎◌, inl, Bool, false, ◌&&◌, cond, List, [], ◌∷◌, refl, sym, subst, arith, eqb}}, specs.Prelude.flat_map}
use Rattle.lists.{specs.Elements.{Each, EachPair}, proofs.EachLemmas.each_map}
use Rattle.model_registers.{specs.{Cell.Cell, Registers.{config, block, cells_from}, FileLaws.has_place, Declarations.{registers_of, Bar, Region, IsLawfulRegion, Endpoint}, DeclarationRules.IsLawfulEndpoint, EndpointTable.{base_register, base_cells, region_cells, config_cells, endpoint_reset}, Sizing.mask_of}, proofs.Bases.{registers_positive, one_or_two}}
use Rattle.bridge_forward.proofs.{EndpointAccess.none_from, EndpointReset.{none_field, none_joined, reset_away}}
use Rattle.bus_scan.proofs.ProbedFiles.{all_four, Probed, probed_none, probed_first, probed_second, probed_low, probed_high}

-- ---- places without cells

pub region_block_lacks : (cs : List Cell) (n a q : ℕ) → has_place (cells_from (block n a) cs) (config q) ≡ false
region_block_lacks [] n a q = refl
region_block_lacks (c ∷ cs) n a q = region_block_lacks cs n (a + 1) q

-- ---- regions

abbrev pub bar_of : Region → Bar
bar_of r = record { kind = r.kind; size = r.size }

abbrev pub mask_at : ℕ → List Region → ℕ
mask_at n [] = 0
mask_at n (r ∷ rs) = cond (eqb n r.index) (mask_of (bar_of r) % 2 ^ 32) (cond (eqb (registers_of r.kind) 2 && eqb n (r.index + 1)) (mask_of (bar_of r) / 2 ^ 32) (mask_at n rs))

-- where a register lies in a region's registers
pub data Side (n : ℕ) (r : Region) : Type 0 where
  at_low : n ≡ r.index → Side n r
  at_high : n ≡ r.index + 1 → registers_of r.kind ≡ 2 → Side n r
  elsewhere : (n ≡ r.index → ⊥) → (registers_of r.kind ≡ 2 → n ≡ r.index + 1 → ⊥) → Side n r

pub side : (n : ℕ) (r : Region) → Side n r
side n r = grind (arith, cases_eq, one_or_two)

pub mask_low : (n : ℕ) (r : Region) (rs : List Region) → n ≡ r.index → mask_at n (r ∷ rs) ≡ mask_of (bar_of r) % 2 ^ 32
mask_low n r rs e = grind (arith, nat_tests)

pub mask_high : (n : ℕ) (r : Region) (rs : List Region) → n ≡ r.index + 1 → registers_of r.kind ≡ 2 → mask_at n (r ∷ rs) ≡ mask_of (bar_of r) / 2 ^ 32
mask_high n r rs e two = grind (arith, nat_tests)

pub not_wide : (n : ℕ) (r : Region) → (registers_of r.kind ≡ 2 → n ≡ r.index + 1 → ⊥) → (eqb (registers_of r.kind) 2 && eqb n (r.index + 1)) ≡ false
not_wide n r m = grind (arith, nat_tests)

pub mask_apart : (n : ℕ) (r : Region) (rs : List Region) → (n ≡ r.index → ⊥) → (registers_of r.kind ≡ 2 → n ≡ r.index + 1 → ⊥) → mask_at n (r ∷ rs) ≡ mask_at n rs
mask_apart n r rs other m = grind (arith, nat_tests)

abbrev no_bases : Region → ℕ
no_bases r = 0

region_lacks : (r : Region) (q : ℕ) → (q < 0x10 + 4 * r.index) ⊎ (0x10 + 4 * r.index + 4 * registers_of r.kind ≤ q) → has_place (region_cells no_bases r) (config q) ≡ false
region_lacks r q h = grind (arith, none_joined, none_field, region_block_lacks)

later_lack : (n : ℕ) (rs : List Region) → Each (λ r. n < r.index) rs → (q : ℕ) → q < 0x10 + 4 * n + 4 → has_place (flat_map (region_cells no_bases) rs) (config q) ≡ false
later_lack n [] h q k = refl
later_lack n (r ∷ rs) h q k = none_joined (config q) (region_cells no_bases r) (flat_map (region_cells no_bases) rs) (region_lacks r q (inl (omega (arith, h.0)))) (later_lack n rs h.1 q k)

apart_lacks : (n : ℕ) (r : Region) → (n ≡ r.index → ⊥) → (registers_of r.kind ≡ 2 → n ≡ r.index + 1 → ⊥) → (q : ℕ) → 0x10 + 4 * n ≤ q → q < 0x10 + 4 * n + 4 → has_place (region_cells no_bases r) (config q) ≡ false
apart_lacks n r other m q from to = region_lacks r q (grind (arith, one_or_two r.kind))

-- the first region has the register
own_register : (n : ℕ) (r : Region) (rs : List Region) (mask : ℕ) → Each (λ s. n < s.index) rs → Probed all_four (base_register n) (base_cells r.index r.kind r.size 0) mask
    → Probed all_four (base_register n) (flat_map (region_cells no_bases) (r ∷ rs)) mask
own_register n r rs mask later h =
    probed_first all_four (base_register n) (region_cells no_bases r) (flat_map (region_cells no_bases) rs) mask
    (none_from (flat_map (region_cells no_bases) rs) all_four (0x10 + 4 * n) (λ q from to. later_lack n rs later q to))
    (probed_first all_four (base_register n) (base_cells r.index r.kind r.size 0) (cells_from (block r.index 0) r.cells) mask
    (none_from (cells_from (block r.index 0) r.cells) all_four (0x10 + 4 * n) (λ q from to. region_block_lacks r.cells r.index 0 q)) h)

probed_regions : (n : ℕ) (rs : List Region) → Each IsLawfulRegion rs → EachPair (λ r s. r.index + registers_of r.kind ≤ s.index) rs
    → Probed all_four (base_register n) (flat_map (region_cells no_bases) rs) (mask_at n rs)
probed_regions n [] lawful order = probed_none all_four (base_register n) [] (none_from [] all_four (0x10 + 4 * n) (λ q from to. refl))
probed_regions n (r ∷ rs) lawful order = elim (side n r) [
  | at_low e ↦
      subst (λ (m : ℕ). Probed all_four (base_register n) (flat_map (region_cells no_bases) (r ∷ rs)) m) (sym (mask_low n r rs e))
      (own_register n r rs (mask_of (bar_of r) % 2 ^ 32)
      (each_map (λ s. r.index + registers_of r.kind ≤ s.index) (λ s. n < s.index) rs (λ s h. omega (arith, registers_positive r.kind)) order.0)
      (subst (λ (m : ℕ). Probed all_four (base_register m) (base_cells r.index r.kind r.size 0) (mask_of (bar_of r) % 2 ^ 32)) (sym e) (probed_low r.index (bar_of r) lawful.0.size_is_lawful)))
  | at_high e two ↦
      subst (λ (m : ℕ). Probed all_four (base_register n) (flat_map (region_cells no_bases) (r ∷ rs)) m) (sym (mask_high n r rs e two))
      (own_register n r rs (mask_of (bar_of r) / 2 ^ 32)
      (each_map (λ s. r.index + registers_of r.kind ≤ s.index) (λ s. n < s.index) rs (λ s h. omega arith) order.0)
      (subst (λ (m : ℕ). Probed all_four (base_register m) (base_cells r.index r.kind r.size 0) (mask_of (bar_of r) / 2 ^ 32)) (sym e) (probed_high r.index (bar_of r) lawful.0.size_is_lawful two)))
  | elsewhere other m ↦
      subst (λ (k : ℕ). Probed all_four (base_register n) (flat_map (region_cells no_bases) (r ∷ rs)) k) (sym (mask_apart n r rs other m))
      (probed_second all_four (base_register n) (region_cells no_bases r) (flat_map (region_cells no_bases) rs) (mask_at n rs)
      (none_from (region_cells no_bases r) all_four (0x10 + 4 * n) (apart_lacks n r other m)) (probed_regions n rs lawful.1 order.1))
]

pub probed_endpoint : (n : ℕ) (d : Endpoint) (multifunction : Bool) → n < 6 → IsLawfulEndpoint d → Probed all_four (base_register n) (endpoint_reset d multifunction) (mask_at n d.regions)
probed_endpoint n d multifunction h lawful =
    probed_second all_four (base_register n) (config_cells d multifunction 0) (flat_map (region_cells no_bases) d.regions) (mask_at n d.regions)
    (none_from (config_cells d multifunction 0) all_four (0x10 + 4 * n) (λ q from to. (reset_away d multifunction lawful.config_blocks).none q (inl (omega arith, omega arith))))
    (probed_regions n d.regions lawful.regions.each lawful.regions.in_order)
