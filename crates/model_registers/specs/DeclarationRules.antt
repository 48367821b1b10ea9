-- The rules for declarations, and the first rule that a declaration breaks. The numbers are the error numbers of board
-- files.
--     first_broken      the number of the first rule whose test fails
--     is_capabilities_pointer b      whether a block is the Capabilities Pointer
--     capabilities_list_bit bs      bit 4 of Status, which is set if there is a Capabilities Pointer
--     status_with bs s      the bits of Status that a declaration may set, and bit 4
--     is_fixed_status s      only the read-only bits of Status that a declaration may set
--     endpoint_rules, bridge_rules      the rules for a declaration, in the order in which they are checked
--     in_register_order      regions in the order of their registers
--     IsLawfulEndpoint, IsLawfulBridge      the properties of a declaration that follows the rules
use Rattle.std.specs.{Prelude.{List, [], ◌∷◌, ◌≡◌, ℕ, ◌+◌, ◌^◌, ◌<◌, ◌≤◌, ◌==◌, Bool, ◌&&◌, ◌||◌, ◌⊎◌, nat_lt, nat_le, IsTrue, if◌then◌else◌, Option, Some, None, length, filter, flat_map, count_by, bit_and, bit_or}, List.{list_all, list_any}}
use Rattle.lists.specs.Elements.{Each, EachPair, all_pairs}
use Rattle.model_registers.specs.{Cell.Cell, Declarations.{registers_of, Region, HasLawfulRegions, ConfigBlock, Endpoint, Bridge}}

abbrev pub first_broken : List (ℕ × Bool) → Option ℕ
first_broken [] = None
first_broken (rule ∷ rules) = if rule.1 then first_broken rules else Some rule.0

abbrev pub is_read_only : Cell → Bool
is_read_only c = c.writable == 0 && c.clearable == 0

-- the Capabilities Pointer is the read-only byte at 34h
abbrev pub is_capabilities_pointer : ConfigBlock → Bool
is_capabilities_pointer b = b.offset == 0x34 && length b.cells == 1 && list_all is_read_only b.cells

-- device-specific registers are at 40h to FFh
abbrev pub is_config_block : ConfigBlock → Bool
is_config_block b =
    (nat_le 0x40 b.offset || is_capabilities_pointer b) && nat_lt 0 (length b.cells) && nat_le (b.offset + length b.cells) 0x100

abbrev pub capabilities_list_bit : List ConfigBlock → ℕ
capabilities_list_bit bs = if list_any is_capabilities_pointer bs then 0x10 else 0

-- the bits that a function sets and software clears, 8 and 11 to 15; the read-only bits 5 to 7, 9 and 10; and bit 4
abbrev pub status_with : List ConfigBlock → ℕ → ℕ
status_with bs s = bit_or (bit_and s 0xffe0) (capabilities_list_bit bs)

-- only read-only bits of Status
abbrev pub is_fixed_status : ℕ → Bool
is_fixed_status s = bit_and s 0x06e0 == s

-- Vendor ID FFFFh means that no function is present
abbrev pub has_values_in_range : Endpoint → Bool
has_values_in_range d =
    nat_lt d.vendor 0xffff && nat_lt d.class (2 ^ 24) && nat_le d.pin 4 && (status_with d.blocks d.status == d.status)
    && list_all (λ r. nat_le (length r.cells) 4096) d.regions && list_all is_config_block d.blocks

-- a 64-bit region uses two registers
abbrev pub uses : ℕ → Region → Bool
uses n r = nat_le r.index n && nat_lt n (r.index + registers_of r.kind)

-- each region's registers are among the six, and no register is used twice
abbrev pub has_own_registers : List Region → Bool
has_own_registers rs =
    list_all (λ r. nat_le (r.index + registers_of r.kind) 6) rs
    && list_all (λ n. nat_le (count_by (uses n) rs) 1) (0 ∷ 1 ∷ 2 ∷ 3 ∷ 4 ∷ 5 ∷ [])

abbrev pub blocks_apart : ConfigBlock → ConfigBlock → Bool
blocks_apart b c = nat_le (b.offset + length b.cells) c.offset || nat_le (c.offset + length c.cells) b.offset

abbrev pub endpoint_rules : Endpoint → List (ℕ × Bool)
endpoint_rules d =
    (104, has_values_in_range d) ∷ (106, has_own_registers d.regions)
    ∷ (107, list_all (λ r. nat_le (length r.cells) r.size) d.regions) ∷ (112, all_pairs blocks_apart d.blocks) ∷ []

abbrev pub bridge_rules : Bridge → List (ℕ × Bool)
bridge_rules d =
    (104, nat_lt d.vendor 0xffff && is_fixed_status d.status && is_fixed_status d.secondary_status) ∷ []

-- the region of register 0, then the region of register 1, and so on
abbrev pub in_register_order : List Region → List Region
in_register_order rs = flat_map (λ n. filter (λ r. r.index == n) rs) (0 ∷ 1 ∷ 2 ∷ 3 ∷ 4 ∷ 5 ∷ [])

abbrev pub with_ordered_regions : Endpoint → Endpoint
with_ordered_regions d = record d { regions = in_register_order d.regions }

-- at 40h or above, or the byte at 34h
abbrev pub IsInPlace : ℕ → ℕ → Type 0
IsInPlace offset size = (0x40 ≤ offset) ⊎ ((offset ≡ 0x34) × (size ≡ 1))

pub record IsConfigBlock (b : ConfigBlock) : Type 0 where
  pub begins : 0x34 ≤ b.offset
  pub in_place : IsInPlace b.offset (length b.cells)
  pub read_only : b.offset ≡ 0x34 → IsTrue (list_all is_read_only b.cells)
  pub not_empty : 0 < length b.cells
  pub ends : b.offset + length b.cells ≤ 0x100

-- numbers that may have any value that fits their registers
pub record FitsRegisters (d : Endpoint) : Type 0 where
  pub device : d.device < 2 ^ 16
  pub revision : d.revision < 2 ^ 8
  pub subvendor : d.subvendor < 2 ^ 16
  pub subsystem : d.subsystem < 2 ^ 16
  pub min_gnt : d.min_gnt < 2 ^ 8
  pub max_lat : d.max_lat < 2 ^ 8

pub record IsLawfulEndpoint (d : Endpoint) : Type 0 where
  pub fits : FitsRegisters d
  pub vendor : d.vendor < 0xffff
  pub class : d.class < 2 ^ 24
  pub pin : d.pin ≤ 4
  pub status : status_with d.blocks d.status ≡ d.status
  pub regions : HasLawfulRegions d.regions
  pub region_blocks : Each (λ r. length r.cells ≤ 4096) d.regions
  pub config_blocks : Each IsConfigBlock d.blocks
  pub blocks_apart : EachPair (λ b c. IsTrue (blocks_apart b c)) d.blocks

pub record IsLawfulBridge (d : Bridge) : Type 0 where
  pub vendor : d.vendor < 0xffff
  pub device : d.device < 2 ^ 16
  pub revision : d.revision < 2 ^ 8
  pub status : IsTrue (is_fixed_status d.status)
  pub secondary_status : IsTrue (is_fixed_status d.secondary_status)
