-- A judged endpoint breaks no rule of declarations but that of blocks that overlap, and it breaks that one where two blocks of its
-- tables overlap.
use Rattle.std.{proofs.{Common.{◌≡◌, inl, inr, ℕ, ◌+◌, ◌<◌, ◌≤◌, ◌^◌, ◌==◌, ℤ, pos, ◌+ℤ◌, nat_abs, Bool, true, false, cond, ◌&&◌, ◌||◌, List, [], ◌∷◌, ◌++◌, map, length, nat_le, bit_and, bit_or, refl, ◌∙◌, sym, ap, ap₂, arith, leb-true, le-leb, lt-ltb, append-nil}, lemmas.{Bool.{and_parts, eqb-true, eq-eqb, ne_eqb}, Nat.{and_le_r, or_of_16, Bits.{bit_at_and, bit_at_or, same_from_bits_below}}, List.{map-append, FromFn.length-map-range_with_len, Folds.{list_all-map, list_all-append}}}}, specs.{Prelude.{int_le, is_none}, Int.{bit_at, Bits.or_zero_r}, List.{list_all, list_any}}}
use Rattle.lists.{specs.Elements.{Each, all_pairs}, proofs.{EachLemmas.each_test, Tests.{left_true, right_true, asked_true}}}
use Rattle.model_registers.{specs.{Cell.Cell, Declarations.ConfigBlock, DeclarationRules.{first_broken, endpoint_rules, blocks_apart, is_read_only, is_capabilities_pointer, status_with, is_fixed_status}, Capabilities.{first_offset_or_zero, structure, structures, pointer, with_capabilities}}, proofs.Capabilities.status_with_list}
use Rattle.board_file.{specs.{Bars.{Bar, region, bar_rules, is_region}, Configs.{Config, config_block, config_extent, is_config_block}, Capabilities.{Capability, declared_capability as capability, capability_extent, is_capability}, Endpoints.{Endpoint, plain_values, endpoint_values, extents, endpoint_numbers, keeps, is_declarable, HasSmallNumbers}, Values.Patterns, Entries.{Bridge, File}, EntryRules.bridge_rules, Blocks.block_cells, Rules.{is_between, has_only_fixed_bits, is_device_count, is_valid_bar_size, are_apart, kept}, Judged.{is_lawful_bridge, is_judged}, declared.{rule.Rule.Rule, functions.blocks.ByteRange.ByteRange}}, proofs.{Asked.{unbroken, numbers, registers, sizes}, Tests.{first_three, imply_all, all-both, pairs-map, pairs-swap}}}
use Rattle.model_registers.specs.DeclarationRules as rules
use Rattle.model_registers.specs.Capabilities as listed
use Rattle.board_file.specs.Endpoints as asked
use Rattle.board_file.specs.declared.fault.BoardFault.TheVariants as fault

-- ---- tests

-- the parts of a test of three
three_parts : (a b c : Bool) → (a && b && c) ≡ true → (a ≡ true) × (b ≡ true) × (c ≡ true)
three_parts a b c h = (search left_true, search (left_true, right_true), right_true (a && b) c h)

four_parts : (a b c d : Bool) → (a && b && c && d) ≡ true → (a ≡ true) × (b ≡ true) × (c ≡ true) × (d ≡ true)
four_parts a b c d h = grind (arith, and_parts)

all_three : {A : Type 0} (p q r : A → Bool) (xs : List A) → list_all p xs ≡ true → list_all q xs ≡ true → list_all r xs ≡ true → list_all (λ x. p x && q x && r x) xs ≡ true
all_three p q r xs h k l = simp (all-both, h, k, l)

-- ---- numbers

pub within_le : (first last : ℕ) (n : ℤ) → is_between first last n ≡ true → nat_abs n ≤ last
within_le first last n h = grind (arith, leb-true, and_parts)

within_ge : (first last : ℕ) (n : ℤ) → is_between first last n ≡ true → first ≤ nat_abs n
within_ge first last n h = grind (arith, leb-true, and_parts)

below : (last : ℕ) (n : ℤ) → is_between 0 last n ≡ true → nat_abs n < last + 1
below last n h = let le = within_le 0 last n h in omega (arith, le)

-- bits that a device sets together with read-only bits
status_bits : (a b : ℕ) → bit_and a 0xf900 ≡ a → bit_and b 0x06e0 ≡ b → bit_and (bit_or a b) 0xffe0 ≡ bit_or a b
status_bits a b h k =
    same_from_bits_below 16 (bit_and (bit_or a b) 0xffe0) (bit_or a b) (omega (arith, and_le_r (bit_or a b) 0xffe0))
    (or_of_16 a b (omega (arith, h, and_le_r a 0xf900)) (omega (arith, k, and_le_r b 0x06e0)))
    (λ i l. omega (
      arith,
      bit_at_and (bit_or a b) 0xffe0 i,
      bit_at_or a b i,
      sym (bit_at_and a 0xf900 i) ∙ ap (λ n. bit_at n i) h,
      sym (bit_at_and b 0x06e0 i) ∙ ap (λ n. bit_at n i) k,
      bit_at_and 0xf900 0xffe0 i,
      bit_at_and 0x06e0 0xffe0 i,
    ))

module _ (e : Endpoint) (h : is_declarable e ≡ true) where
  parts_of : (keeps fault.Number e ≡ true) × (keeps fault.Register e ≡ true) × (keeps fault.Size e ≡ true)
  parts_of = three_parts (keeps fault.Number e) (keeps fault.Register e) (keeps fault.Size e) h

  -- the rules of its regions
  abbrev keep_all : (Bar → List (Rule × Bool)) → Bool
  keep_all rules = list_all (λ b. kept (rules b)) e.bars

  numbers_of : (kept (endpoint_numbers e) ≡ true) × (keep_all (bar_rules fault.Number 0) ≡ true) × (list_all is_config_block e.configs ≡ true) × (list_all is_capability e.capabilities ≡ true)
  numbers_of =
      four_parts (kept (endpoint_numbers e)) (keep_all (bar_rules fault.Number 0)) (list_all is_config_block e.configs)
      (list_all is_capability e.capabilities) parts_of.0

  numbers_kept : Each (λ (r : Rule × Bool). r.1 ≡ true) (endpoint_numbers e)
  numbers_kept = each_test (λ r. r.1) (endpoint_numbers e) numbers_of.0

  status_of : (is_between 0 0xffff e.status ≡ true) × ((bit_and (nat_abs e.status) 0xf900 == nat_abs e.status) ≡ true)
  status_of = grind (arith, and_parts, numbers_kept)

  fixed_of : (is_between 0 0xffff e.fixed_status ≡ true) × ((bit_and (nat_abs e.fixed_status) 0x06e0 == nat_abs e.fixed_status) ≡ true)
  fixed_of = grind (arith, and_parts, numbers_kept)

  pub small : HasSmallNumbers e
  small = grind (arith, below, within_le, numbers_kept, status_of, fixed_of)

  declared_status : bit_and (plain_values e).status 0xffe0 ≡ (plain_values e).status
  declared_status = status_bits (nat_abs e.status) (nat_abs e.fixed_status) (eqb-true _ _ status_of.1) (eqb-true _ _ fixed_of.1)

  registers_of : (kept (asked.endpoint_rules fault.Register e) ≡ true) × (keep_all (bar_rules fault.Register 0) ≡ true)
  registers_of = and_parts _ _ (left_true (kept (asked.endpoint_rules fault.Register e) && keep_all (bar_rules fault.Register 0)) _ (left_true _ _ parts_of.1))

  pub regions_of : list_all is_region e.bars ≡ true
  regions_of =
      all_three (λ b. kept (bar_rules fault.Number 0 b)) (λ b. kept (bar_rules fault.Register 0 b)) (λ b. kept (bar_rules fault.Size 0 b)) e.bars
      numbers_of.1 registers_of.1 (left_true _ _ (left_true _ _ parts_of.2))

  pub configs_of : list_all is_config_block e.configs ≡ true
  configs_of = numbers_of.2

  pub capabilities_of : list_all is_capability e.capabilities ≡ true
  capabilities_of = numbers_of.3

  own_of : rules.has_own_registers (map region e.bars) ≡ true
  own_of = grind (arith, asked_true, imply_all, left_true, registers_of)

-- ---- regions and own registers

pub region_parts : (b : Bar) → is_region b ≡ true → (nat_abs b.block ≤ 4096) × (nat_abs b.index ≤ 5) × (is_valid_bar_size b.kind b.size ≡ true)
region_parts b h = grind (arith, three_parts, left_true, within_le)

pub config_off : (c : Config) → is_config_block c ≡ true → nat_abs c.off < 2 ^ 16
config_off c h = let off = within_le 0x40 0xff c.off (left_true (is_between 0x40 0xff c.off) _ h) in omega (arith, off)

capability_parts : (c : Capability) → is_capability c ≡ true
    → (is_between 1 0xff c.id ≡ true) × (is_between 0x40 0xfc c.config.off ≡ true) × (is_between 1 190 c.config.block ≡ true)
    × (int_le (c.config.off +ℤ c.config.block) (pos 254) ≡ true)
capability_parts c h = let (id, off, block, ends) = first_three _ _ _ _ h in (id, left_true _ _ off, block, left_true _ true ends)

pub capability_fits : (c : Capability) → is_capability c ≡ true → (nat_abs c.id < 2 ^ 8) × (nat_abs c.config.off < 2 ^ 8)
capability_fits c h =
    let (id, off, block, ends) = capability_parts c h in
    let id_le = within_le 1 0xff c.id id in let off_le = within_le 0x40 0xfc c.config.off off in
    (omega (arith, id_le), omega (arith, off_le))

length_cells : (n : ℕ) (p : Patterns) → length (block_cells n p) ≡ n
length_cells n p = simp length-map-range_with_len

short : (b : Bar) → is_region b ≡ true → nat_le (length (region b).cells) 4096 ≡ true
short b h = rw (length_cells (nat_abs b.block) b.patterns) (le-leb (nat_abs b.block) 4096 (region_parts b h).0)

fits : (b : Bar) → is_region b ≡ true → nat_le (length (region b).cells) (region b).size ≡ true
fits b h = grind (arith, length_cells, nat_abs, three_parts, left_true, right_true, and_parts)

-- a block that is behind the header of configuration space and ends in it
lawful_block : (off : ℕ) (cells : List Cell) (n : ℕ) → length cells ≡ n → 0x40 ≤ off → 0 < n → off + n ≤ 0x100
    → rules.is_config_block (record { offset = off; cells = cells }) ≡ true
lawful_block off cells n same begins some ends = rw (same, le-leb 0x40 off begins, lt-ltb 0 n some, le-leb (off + n) 0x100 ends) refl

config_parts : (c : Config) → is_config_block c ≡ true
    → (is_between 0x40 0xff c.off ≡ true) × (is_between 1 192 c.block ≡ true) × (int_le (c.off +ℤ c.block) (pos 256) ≡ true)
config_parts c h = let (off, block, ends, none) = first_three _ _ _ _ h in (off, block, ends)

-- the sum of two numbers that are not negative
ends_by : (a b c d last : ℕ) (off len : ℤ) → is_between a b off ≡ true → is_between c d len ≡ true → int_le (off +ℤ len) (pos last) ≡ true
    → nat_abs off + nat_abs len ≤ last
ends_by a b c d last off len h k l = grind (arith, leb-true, and_parts, nat_abs)

lawful_config : (c : Config) → is_config_block c ≡ true → rules.is_config_block (config_block c) ≡ true
lawful_config c h =
    let (off, block, ends) = config_parts c h in
    lawful_block (nat_abs c.off) (config_block c).cells (nat_abs c.block) (length_cells (nat_abs c.block) c.patterns)
    (within_ge 0x40 0xff c.off off) (within_ge 1 192 c.block block) (ends_by 0x40 0xff 1 192 256 c.off c.block off block ends)

-- ---- the structures of a capability list

-- the header has two bytes
structure_length : (c : Capability) (next : ℕ) → length (structure (capability c) next).cells ≡ 2 + nat_abs c.config.block
structure_length c next = grind (arith, length_cells (nat_abs c.config.block) c.config.patterns)

lawful_structure : (c : Capability) (next : ℕ) → is_capability c ≡ true → rules.is_config_block (structure (capability c) next) ≡ true
lawful_structure c next h =
    let (id, off, block, ends) = capability_parts c h in
    let sum = ends_by 0x40 0xfc 1 190 254 c.config.off c.config.block off block ends in
    lawful_block (nat_abs c.config.off) (structure (capability c) next).cells (2 + nat_abs c.config.block) (structure_length c next)
    (within_ge 0x40 0xfc c.config.off off) (omega arith) (omega (arith, sum))

lawful_structures : (cs : List Capability) → list_all is_capability cs ≡ true → list_all rules.is_config_block (structures (map capability cs)) ≡ true
lawful_structures [] h = refl
lawful_structures (c ∷ cs) h =
    let (here, more) = and_parts (is_capability c) (list_all is_capability cs) h in
    ap₂ (λ (a b : Bool). a && b) (lawful_structure c (first_offset_or_zero (map capability cs)) here) (lawful_structures cs more)

-- ---- where blocks are

abbrev range : ℕ → ℕ → ByteRange
range off len = record { off = off; len = len }

abbrev extent_of : ConfigBlock → ByteRange
extent_of b = range b.offset (length b.cells)

config_extents : (cs : List Config) → map extent_of (map config_block cs) ≡ map config_extent cs
config_extents [] = refl
config_extents (c ∷ cs) =
    ap₂ (λ (x : ByteRange) (xs : List ByteRange). x ∷ xs) (ap (range (nat_abs c.off)) (length_cells (nat_abs c.block) c.patterns)) (config_extents cs)

structure_extents : (cs : List Capability) → map extent_of (structures (map capability cs)) ≡ map capability_extent cs
structure_extents [] = refl
structure_extents (c ∷ cs) =
    ap₂ (λ (x : ByteRange) (xs : List ByteRange). x ∷ xs) (ap (range (nat_abs c.config.off)) (structure_length c (first_offset_or_zero (map capability cs))))
    (structure_extents cs)

-- a range that is behind the Capabilities Pointer
abbrev is_behind : ByteRange → Bool
is_behind x = nat_le 0x40 x.off

apart_from_pointer : (x : ByteRange) → is_behind x ≡ true → are_apart (range 0x34 1) x ≡ true
apart_from_pointer x h =
    let begins = leb-true 0x40 x.off h in
    ap (λ (t : Bool). t || nat_le (x.off + x.len) 0x34) (le-leb 0x35 x.off (omega (arith, begins)))

apart_turn : (x y : ByteRange) → are_apart x y ≡ are_apart y x
apart_turn x y = or_turn (nat_le (x.off + x.len) y.off) (nat_le (y.off + y.len) x.off)
  where
    or_turn : (a b : Bool) → (a || b) ≡ (b || a)
    or_turn a b = grind arith

configs_behind : (c : Config) → is_config_block c ≡ true → is_behind (config_extent c) ≡ true
configs_behind c h = let (off, block, ends) = config_parts c h in le-leb 0x40 (nat_abs c.off) (within_ge 0x40 0xff c.off off)

capabilities_behind : (c : Capability) → is_capability c ≡ true → is_behind (capability_extent c) ≡ true
capabilities_behind c h =
    let (id, off, block, ends) = capability_parts c h in le-leb 0x40 (nat_abs c.config.off) (within_ge 0x40 0xfc c.config.off off)

all_behind : (cs : List Config) (ds : List Capability) → list_all is_config_block cs ≡ true → list_all is_capability ds ≡ true
    → list_all is_behind (map capability_extent ds ++ map config_extent cs) ≡ true
all_behind cs ds h k =
    list_all-append is_behind (map capability_extent ds) (map config_extent cs)
    ∙ ap₂ (λ (a b : Bool). a && b)
    (list_all-map is_behind capability_extent ds ∙ imply_all is_capability (λ d. is_behind (capability_extent d)) capabilities_behind ds k)
    (list_all-map is_behind config_extent cs ∙ imply_all is_config_block (λ c. is_behind (config_extent c)) configs_behind cs h)

abbrev blocks_with : List Config → List Capability → List ConfigBlock
blocks_with cs ds = pointer (map capability ds) ∷ structures (map capability ds) ++ map config_block cs

plain_apart : (cs : List Config) → all_pairs blocks_apart (map config_block cs) ≡ all_pairs are_apart (map config_extent cs ++ map capability_extent [])
plain_apart cs =
    sym (pairs-map are_apart extent_of (map config_block cs))
    ∙ ap (all_pairs are_apart) (config_extents cs ∙ sym (append-nil (map config_extent cs)))

listed_apart : (cs : List Config) (ds : List Capability) → list_all is_config_block cs ≡ true → list_all is_capability ds ≡ true
    → all_pairs blocks_apart (blocks_with cs ds) ≡ all_pairs are_apart (map config_extent cs ++ map capability_extent ds)
listed_apart cs ds h k =
    let behind : List ByteRange = map capability_extent ds ++ map config_extent cs in
    let more : List ConfigBlock = structures (map capability ds) ++ map config_block cs in
    let at : map extent_of more ≡ behind =
    map-append extent_of (structures (map capability ds)) (map config_block cs)
    ∙ ap₂ (λ (xs ys : List ByteRange). xs ++ ys) (structure_extents ds) (config_extents cs) in
    let apart : list_all (are_apart (range 0x34 1)) behind ≡ true =
    imply_all is_behind (are_apart (range 0x34 1)) apart_from_pointer behind (all_behind cs ds h k) in
    sym (pairs-map are_apart extent_of (blocks_with cs ds))
    ∙ ap (λ (xs : List ByteRange). list_all (are_apart (range 0x34 1)) xs && all_pairs are_apart xs) at
    ∙ ap (λ (t : Bool). t && all_pairs are_apart behind) apart
    ∙ pairs-swap are_apart apart_turn (map capability_extent ds) (map config_extent cs)

-- ---- the rules

lawful_configs : (cs : List Config) → list_all is_config_block cs ≡ true → list_all rules.is_config_block (map config_block cs) ≡ true
lawful_configs cs h =
    list_all-map rules.is_config_block config_block cs
    ∙ imply_all is_config_block (λ c. rules.is_config_block (config_block c)) lawful_config cs h

lawful_blocks : (cs : List Config) (ds : List Capability) → list_all is_config_block cs ≡ true → list_all is_capability ds ≡ true
    → list_all rules.is_config_block (blocks_with cs ds) ≡ true
lawful_blocks cs ds h k =
    list_all-append rules.is_config_block (structures (map capability ds)) (map config_block cs)
    ∙ ap₂ (λ (a b : Bool). a && b) (lawful_structures ds k) (lawful_configs cs h)

-- a block at 40h or above isn't the pointer
no_pointer : (c : Config) → is_config_block c ≡ true → is_capabilities_pointer (config_block c) ≡ false
no_pointer c h =
    let (off, block, ends) = config_parts c h in
    let begins = within_ge 0x40 0xff c.off off in
    ap (λ t. t && length (config_block c).cells == 1 && list_all is_read_only (config_block c).cells) (ne_eqb (nat_abs c.off) 0x34 (λ at. omega (arith, begins, at)))

no_list : (cs : List Config) → list_all is_config_block cs ≡ true → list_any is_capabilities_pointer (map config_block cs) ≡ false
no_list [] h = refl
no_list (c ∷ cs) h =
    let (here, more) = and_parts (is_config_block c) (list_all is_config_block cs) h in
    ap₂ (λ (a b : Bool). a || b) (no_pointer c here) (no_list cs more)

plain_status : (s : ℕ) (cs : List Config) → bit_and s 0xffe0 ≡ s → list_all is_config_block cs ≡ true → status_with (map config_block cs) s ≡ s
plain_status s cs h k = ap (λ (t : Bool). bit_or (bit_and s 0xffe0) (cond t 0x10 0)) (no_list cs k) ∙ or_zero_r (bit_and s 0xffe0) ∙ h

-- whatever Status and blocks it declares, as long as they are lawful
lawful_numbers : (e : Endpoint) → is_declarable e ≡ true → (s : ℕ) (bs : List ConfigBlock)
    → status_with bs s ≡ s → list_all rules.is_config_block bs ≡ true
    → rules.has_values_in_range (record (plain_values e) { status = s; blocks = bs }) ≡ true
lawful_numbers e h s bs status blocks =
    let own = small e h in
    let vendor = lt-ltb (nat_abs e.vendor) 0xffff own.vendor in
    let class = lt-ltb (nat_abs e.class) (2 ^ 24) own.class in
    let pin = le-leb (nat_abs e.pin) 4 own.pin in
    let short_cells = list_all-map (λ r. nat_le (length r.cells) 4096) region e.bars ∙ imply_all is_region (λ b. nat_le (length (region b).cells) 4096) short e.bars (regions_of e h) in
    rw (vendor, class, pin, eq-eqb (status_with bs s) s status, short_cells, blocks) refl

fitting : (e : Endpoint) → is_declarable e ≡ true → list_all (λ r. nat_le (length r.cells) r.size) (map region e.bars) ≡ true
fitting e h =
    list_all-map (λ r. nat_le (length r.cells) r.size) region e.bars
    ∙ imply_all is_region (λ b. nat_le (length (region b).cells) (region b).size) fits e.bars (regions_of e h)

-- the last of four tests, where the others hold
by_last : (a b c d : Bool) → a ≡ true → b ≡ true → c ≡ true → is_none (first_broken ((104, a) ∷ (106, b) ∷ (107, c) ∷ (112, d) ∷ [])) ≡ d
by_last a b c d h k l = grind arith

by_blocks : (e : Endpoint) → is_declarable e ≡ true → (s : ℕ) (bs : List ConfigBlock)
    → status_with bs s ≡ s → list_all rules.is_config_block bs ≡ true
    → is_none (first_broken (endpoint_rules (record (plain_values e) { status = s; blocks = bs }))) ≡ all_pairs blocks_apart bs
by_blocks e h s bs status blocks =
    by_last (rules.has_values_in_range (record (plain_values e) { status = s; blocks = bs })) (rules.has_own_registers (map region e.bars))
    (list_all (λ r. nat_le (length r.cells) r.size) (map region e.bars)) (all_pairs blocks_apart bs) (lawful_numbers e h s bs status blocks)
    (own_of e h) (fitting e h)

with_list : (e : Endpoint) → is_declarable e ≡ true → (ds : List Capability) → list_all is_capability ds ≡ true
    → is_none (first_broken (endpoint_rules (with_capabilities (map capability ds) (plain_values e))))
    ≡ all_pairs are_apart (map config_extent e.configs ++ map capability_extent ds)
with_list e h [] k =
    let status = plain_status (plain_values e).status e.configs (declared_status e h) (configs_of e h) in
    by_blocks e h (plain_values e).status (map config_block e.configs) status (lawful_configs e.configs (configs_of e h)) ∙ plain_apart e.configs
with_list e h (d ∷ ds) k =
    let status = ap (λ n. bit_or n 0x10) (status_with_list (plain_values e).status (declared_status e h)) in
    let blocks = lawful_blocks e.configs (d ∷ ds) (configs_of e h) k in
    by_blocks e h (bit_or (plain_values e).status 0x10) (blocks_with e.configs (d ∷ ds)) status blocks
    ∙ listed_apart e.configs (d ∷ ds) (configs_of e h) k

pub decided : (e : Endpoint) → is_declarable e ≡ true → is_none (first_broken (endpoint_rules (endpoint_values e))) ≡ all_pairs are_apart (extents e)
decided e h = with_list e h e.capabilities (capabilities_of e h)

-- a capability list changes no region
pub declared_regions : (e : Endpoint) → (endpoint_values e).regions ≡ map region e.bars
declared_regions e = same (map capability e.capabilities)
  where
    same : (cs : List listed.Capability) → (with_capabilities cs (plain_values e)).regions ≡ map region e.bars
    same [] = refl
    same (c ∷ cs) = refl

-- ---- bridges

pub fixed_bits : (n : ℤ) → has_only_fixed_bits n ≡ true → is_fixed_status (nat_abs n) ≡ true
fixed_bits n h = right_true (is_between 0 0xffff n) _ h

pub fixed_secondary : (b : Bridge) → is_lawful_bridge b ≡ true → has_only_fixed_bits b.fixed_secondary_status ≡ true
fixed_secondary b h = (each_test (λ r. r.1) (bridge_rules fault.Number b) h).1.1.1.1.0

-- ---- all functions

functions_of : (f : File) → is_judged f ≡ true → (list_all (keeps fault.Number) f.endpoints ≡ true) × (list_all is_lawful_bridge f.bridges ≡ true)
functions_of f j =
    and_parts _ _ (right_true (is_device_count f.devices) (list_all (keeps fault.Number) f.endpoints && list_all is_lawful_bridge f.bridges) (sym (numbers f) ∙ unbroken f j fault.Number (inl refl)))

pub all_declarable : (f : File) → is_judged f ≡ true → list_all is_declarable f.endpoints ≡ true
all_declarable f j =
    all_three (keeps fault.Number) (keeps fault.Register) (keeps fault.Size) f.endpoints (functions_of f j).0
    (sym (registers f) ∙ unbroken f j fault.Register (inr (inr (inr (inl refl))))) (sym (sizes f) ∙ unbroken f j fault.Size (inr (inr (inr (inr (inl refl))))))

pub all_bridges : (f : File) → is_judged f ≡ true → list_all is_lawful_bridge f.bridges ≡ true
all_bridges f j = (functions_of f j).1
