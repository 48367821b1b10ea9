-- A declaration that breaks no rule is lawful, and a lawful one breaks none.
use Rattle.std.{proofs.{Common.{◌≡◌, ℕ, ◌+◌, ◌<◌, ◌≤◌, ◌^◌, ◌⊎◌, inl, inr, Bool, true, ◌&&◌, ◌||◌, List, [], ◌∷◌, length, eqb, leb, ltb, None, ap, arith}, lemmas.Bool.{leb-true, ltb-true, eqb-true, le-leb, lt-ltb, eq-eqb, and_from, or_cases, or_right}}, specs.{Prelude.IsTrue, List.{list_all, Sorted.{IsPermutation, IsNonDecreasingBy}}}}
use Rattle.lists.{specs.Elements.{Each, all_pairs}, proofs.{Tests.{left_true, right_true}, EachLemmas.{each_map, each_both, each_test, each_permutation, pairs_test, test_each, test_pairs}}}
use Rattle.model_registers.{specs.{Declarations.{Region, registers_of, IsLawfulSize, IsLawfulRegion, ConfigBlock, Endpoint}, DeclarationRules.{first_broken, is_read_only, is_capabilities_pointer, is_config_block, status_with, has_own_registers, has_values_in_range, blocks_apart, endpoint_rules, IsInPlace, IsConfigBlock, FitsRegisters, IsLawfulEndpoint}}, proofs.RegisterOrder.{in_header, sorted_are_lawful, lawful_have_own_registers}}

-- the four tests of an endpoint
record Passes (d : Endpoint) : Type 0 where
  numbers : has_values_in_range d ≡ true
  registers : has_own_registers d.regions ≡ true
  sizes : list_all (λ r. leb (length r.cells) r.size) d.regions ≡ true
  blocks : all_pairs blocks_apart d.blocks ≡ true

four_hold : (a b c e : Bool) → first_broken ((104, a) ∷ (106, b) ∷ (107, c) ∷ (112, e) ∷ []) ≡ None → (a ≡ true) × ((b ≡ true) × ((c ≡ true) × (e ≡ true)))
four_hold a b c e h = grind arith

passes : (d : Endpoint) → first_broken (endpoint_rules d) ≡ None → Passes d
passes d h =
    let p = four_hold (has_values_in_range d) (has_own_registers d.regions) (list_all (λ r. leb (length r.cells) r.size) d.regions) (all_pairs blocks_apart d.blocks) h in
    record { numbers = p.0; registers = p.1.0; sizes = p.1.1.0; blocks = p.1.1.1 }

pub own_registers : (d : Endpoint) → first_broken (endpoint_rules d) ≡ None → has_own_registers d.regions ≡ true
own_registers d h = (passes d h).registers

record Numbers (d : Endpoint) : Type 0 where
  vendor : d.vendor < 0xffff
  class : d.class < 2 ^ 24
  pin : d.pin ≤ 4
  status : status_with d.blocks d.status ≡ d.status
  short : Each (λ r. length r.cells ≤ 4096) d.regions
  blocks : Each IsConfigBlock d.blocks

where_placed : (b : ConfigBlock) → (leb 0x40 b.offset || is_capabilities_pointer b) ≡ true → IsInPlace b.offset (length b.cells)
where_placed b h = grind (arith, or_cases, leb-true, left_true, right_true, eqb-true)

pointer_kept : (b : ConfigBlock) → (leb 0x40 b.offset || is_capabilities_pointer b) ≡ true → b.offset ≡ 0x34 → list_all is_read_only b.cells ≡ true
pointer_kept b h at = grind (arith, or_cases, leb-true, right_true)

-- a byte of a block
pub byte_in_place : (o n a : ℕ) → IsInPlace o n → o ≤ a → a < o + n → (0x40 ≤ a) ⊎ (a ≡ 0x34)
byte_in_place o n a (inl low) from to = inl (omega arith)
byte_in_place o n a (inr is) from to = inr (omega (arith, is.0, is.1))

begins_behind : (o n : ℕ) → IsInPlace o n → 0x34 ≤ o
begins_behind o n (inl low) = omega arith
begins_behind o n (inr is) = omega (arith, is.0)

config_block : (b : ConfigBlock) → is_config_block b ≡ true → IsConfigBlock b
config_block b h =
    let placed = leb 0x40 b.offset || is_capabilities_pointer b in
    let some = ltb 0 (length b.cells) in
    let both = left_true (placed && some) (leb (b.offset + length b.cells) 0x100) h in
    let at = where_placed b (left_true placed some both) in
    record {
      begins = begins_behind b.offset (length b.cells) at;
      in_place = at;
      read_only = pointer_kept b (left_true placed some both);
      not_empty = ltb-true _ _ (right_true placed some both);
      ends = leb-true _ _ (right_true (placed && some) (leb (b.offset + length b.cells) 0x100) h);
    }

numbers : (d : Endpoint) → has_values_in_range d ≡ true → Numbers d
numbers d h =
    let a = ltb d.vendor 0xffff in
    let b = ltb d.class (2 ^ 24) in
    let c = leb d.pin 4 in
    let e = eqb (status_with d.blocks d.status) d.status in
    let f = list_all (λ r. leb (length r.cells) 4096) d.regions in
    let g = list_all is_config_block d.blocks in
    let abcef = left_true (a && b && c && e && f) g h in
    let abce = left_true (a && b && c && e) f abcef in
    let abc = left_true (a && b && c) e abce in
    let ab = left_true (a && b) c abc in
    record {
      vendor = ltb-true _ _ (left_true a b ab);
      class = ltb-true _ _ (right_true a b ab);
      pin = leb-true _ _ (right_true (a && b) c abc);
      status = eqb-true _ _ (right_true (a && b && c) e abce);
      short =
          each_map (λ (r : Region). IsTrue (leb (length r.cells) 4096)) (λ r. length r.cells ≤ 4096) d.regions (λ r p. leb-true _ _ p)
          (each_test (λ r. leb (length r.cells) 4096) d.regions (right_true (a && b && c && e) f abcef));
      blocks =
          grind (arith, each_map, config_block, each_test is_config_block d.blocks (right_true (a && b && c && e && f) g h), right_true (a && b && c && e && f) g h);
    }

lawful_regions : (rs : List Region) → has_own_registers rs ≡ true → list_all (λ r. leb (length r.cells) r.size) rs ≡ true → Each (λ (r : Region). IsLawfulSize r.kind r.size) rs → Each IsLawfulRegion rs
lawful_regions rs own fit sizes =
    each_map (λ (r : Region). (r.index + registers_of r.kind ≤ 6) × (IsLawfulSize r.kind r.size × IsTrue (leb (length r.cells) r.size))) IsLawfulRegion rs
    (λ r p. record { registers = p.0; size_is_lawful = p.1.0; block_fits = leb-true _ _ p.1.1 })
    (each_both (λ (r : Region). r.index + registers_of r.kind ≤ 6) (λ r. IsLawfulSize r.kind r.size × IsTrue (leb (length r.cells) r.size)) rs (in_header rs own)
    (each_both (λ (r : Region). IsLawfulSize r.kind r.size) (λ r. IsTrue (leb (length r.cells) r.size)) rs sizes (each_test (λ r. leb (length r.cells) r.size) rs fit)))

-- an endpoint that breaks no rule, with its regions sorted
pub sorted_is_lawful : (d : Endpoint) (ys : List Region) → FitsRegisters d → Each (λ (r : Region). IsLawfulSize r.kind r.size) d.regions → first_broken (endpoint_rules d) ≡ None
    → IsPermutation d.regions ys → IsNonDecreasingBy (λ (r : Region). r.index) ys → IsLawfulEndpoint (record d { regions = ys })
sorted_is_lawful d ys fits sizes none perm sorted =
    let p = passes d none in
    let n = numbers d p.numbers in
    record {
      fits = grind arith;
      vendor = n.vendor;
      class = n.class;
      pin = n.pin;
      status = n.status;
      regions = sorted_are_lawful d.regions ys perm sorted p.registers (lawful_regions d.regions p.registers p.sizes sizes);
      region_blocks = each_permutation (λ (r : Region). length r.cells ≤ 4096) d.regions ys perm n.short;
      config_blocks = n.blocks;
      blocks_apart = pairs_test blocks_apart d.blocks p.blocks;
    }

-- ---- a lawful declaration breaks no rule

pub pointer_test : (b : ConfigBlock) → b.offset ≡ 0x34 → length b.cells ≡ 1 → list_all is_read_only b.cells ≡ true → is_capabilities_pointer b ≡ true
pointer_test b at one kept = and_from _ _ (and_from _ _ (eq-eqb b.offset 0x34 at) (eq-eqb (length b.cells) 1 one)) kept

placed_test : (b : ConfigBlock) → IsInPlace b.offset (length b.cells) → (b.offset ≡ 0x34 → IsTrue (list_all is_read_only b.cells)) → (leb 0x40 b.offset || is_capabilities_pointer b) ≡ true
placed_test b (inl low) kept = ap (λ t. t || is_capabilities_pointer b) (le-leb 0x40 b.offset low)
placed_test b (inr is) kept = or_right (leb 0x40 b.offset) (is_capabilities_pointer b) (pointer_test b is.0 is.1 (kept is.0))

block_test : (b : ConfigBlock) → IsConfigBlock b → is_config_block b ≡ true
block_test b h = and_from _ _ (and_from _ _ (placed_test b h.in_place h.read_only) (lt-ltb 0 (length b.cells) h.not_empty)) (le-leb (b.offset + length b.cells) 0x100 h.ends)

numbers_test : (d : Endpoint) → IsLawfulEndpoint d → has_values_in_range d ≡ true
numbers_test d h = grind (arith, and_from, lt-ltb, le-leb, eq-eqb, block_test, test_each, each_map)

sizes_test : (rs : List Region) → Each IsLawfulRegion rs → list_all (λ r. leb (length r.cells) r.size) rs ≡ true
sizes_test rs h = grind (arith, test_each, each_map, le-leb)

pub lawful_breaks_none : (d : Endpoint) → IsLawfulEndpoint d → first_broken (endpoint_rules d) ≡ None
lawful_breaks_none d h = grind (arith, numbers_test, lawful_have_own_registers, sizes_test, test_pairs)
