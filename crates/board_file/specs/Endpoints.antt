-- The `endpoint` tables of a board file.
--     Endpoint, endpoint      what such a table says, with the tables inside it
--     part_count p e      how many tables of a kind are inside it
--     endpoint_rules fault e      its own rules with a fault
--     extents e, masks_hold e      where its blocks and structures are; they have lawful patterns, and no two overlap
--     plain_values, endpoint_values, declared_endpoint      what it declares: without its capability list, with it, and with
--         regions in order
--     keeps fault e, is_declarable e      it and the tables inside it keep the rules with a fault; all rules but those of patterns
--     HasSmallNumbers e      its values fit their registers
use Rattle.std.specs.{Prelude.{ℕ, ℤ, ◌<◌, ◌≤◌, ◌^◌, nat_abs, bit_or, codes, Bool, not, ◌&&◌, ◌||◌, List, [], ◌∷◌, ◌++◌, map, length}, List.list_all}
use Rattle.toml.specs.Data.{Members}
use Rattle.lists.specs.Elements.{all_pairs}
use Rattle.model_registers.specs.{DeclarationRules.{has_own_registers, with_ordered_regions}, Capabilities.with_capabilities}
use Rattle.board_file.specs.{Values.{number, boolean_or_true, text, tables}, Bars.{Bar, bar, bar_holds, bar_rules, region}, Configs.{Config, config, config_extent, config_holds, config_rules, config_block}, Capabilities.{Capability, capability, capability_extent, capability_holds, capability_rules, declared_capability}, Rules.{is_between, fits_byte_rule, fits_half_word_rule, has_only_bits, has_at_most_15_slashes, identity_rules, fixed_status_rule, multifunction_rule, are_apart, kept}, declared.{functions.blocks.ByteRange.ByteRange, entry.EndpointPart.EndpointPart, rule.Rule.Rule, fault.BoardFault.BoardFault}}
use Rattle.model_registers.specs.Declarations as declared
use Rattle.board_file.specs.declared.entry.EndpointPart.TheVariants as part
use Rattle.board_file.specs.declared.fault.BoardFault.TheVariants as fault
use Rattle.board_file.specs.declared.document.keys.RegisterKey.TheVariants as register
use Rattle.board_file.specs.declared.rule.Rule.TheVariants as rule

-- ---- what the table says

pub record Endpoint : Type 0 where
  pub at : List ℕ
  pub vendor : ℤ
  pub device : ℤ
  pub revision : ℤ
  pub class : ℤ
  pub subvendor : ℤ
  pub subsystem : ℤ
  pub pin : ℤ
  pub min_gnt : ℤ
  pub max_lat : ℤ
  pub status : ℤ
  pub fixed_status : ℤ
  pub multifunction : Bool
  pub bars : List Bar
  pub configs : List Config
  pub capabilities : List Capability

abbrev pub endpoint : Members → Endpoint
endpoint ms = record {
  at = text (codes "at") ms;
  vendor = number (codes "vendor") ms;
  device = number (codes "device") ms;
  revision = number (codes "revision") ms;
  class = number (codes "class") ms;
  subvendor = number (codes "subvendor") ms;
  subsystem = number (codes "subsystem") ms;
  pin = number (codes "pin") ms;
  min_gnt = number (codes "min_gnt") ms;
  max_lat = number (codes "max_lat") ms;
  status = number (codes "status") ms;
  fixed_status = number (codes "fixed_status") ms;
  multifunction = boolean_or_true (codes "multifunction") ms;
  bars = map bar (tables (codes "bar") ms);
  configs = map config (tables (codes "config") ms);
  capabilities = map capability (tables (codes "capability") ms);
}

abbrev pub part_count : EndpointPart → Endpoint → ℕ
part_count part.Bar e = length e.bars
part_count part.Config e = length e.configs
part_count part.Capability e = length e.capabilities

-- ---- rules

abbrev pub has_valid_bar_indices : Endpoint → Bool
has_valid_bar_indices e = list_all (λ b. is_between 0 5 b.index) e.bars

abbrev pub value_rules : Endpoint → List (Rule × Bool)
value_rules e =
    (rule.Class, is_between 0 0xffffff e.class)
    ∷ fits_half_word_rule register.Subvendor e.subvendor
    ∷ fits_half_word_rule register.Subsystem e.subsystem
    ∷ (rule.Pin, is_between 0 4 e.pin)
    ∷ fits_byte_rule register.MinGnt e.min_gnt
    ∷ fits_byte_rule register.MaxLat e.max_lat
    ∷ (rule.Status, has_only_bits 0xf900 e.status)
    ∷ fixed_status_rule e.fixed_status
    ∷ multifunction_rule e.at e.multifunction ∷ []

abbrev pub endpoint_numbers : Endpoint → List (Rule × Bool)
endpoint_numbers e = identity_rules e.vendor e.device e.revision ++ value_rules e

abbrev pub endpoint_rules : BoardFault → Endpoint → List (Rule × Bool)
endpoint_rules fault.Number e = endpoint_numbers e
endpoint_rules fault.TooMany e = (rule.Slashes, has_at_most_15_slashes e.at) ∷ []
endpoint_rules fault.Register e =
    (rule.OwnRegisters, not (has_valid_bar_indices e) || has_own_registers (map region e.bars)) ∷ []
endpoint_rules _ e = []

-- these rules of own registers and structures don't look at others
abbrev pub keeps : BoardFault → Endpoint → Bool
keeps fault e =
    kept (endpoint_rules fault e) && list_all (λ b. kept (bar_rules fault 0 b)) e.bars
    && list_all (λ c. kept (config_rules fault [] 0 c)) e.configs
    && list_all (λ c. kept (capability_rules fault [] [] 0 c)) e.capabilities

abbrev pub is_declarable : Endpoint → Bool
is_declarable e = keeps fault.Number e && keeps fault.Register e && keeps fault.Size e

-- the declared values fit their registers
pub record HasSmallNumbers (e : Endpoint) : Type 0 where
  pub vendor : nat_abs e.vendor < 0xffff
  pub device : nat_abs e.device < 2 ^ 16
  pub revision : nat_abs e.revision < 2 ^ 8
  pub class : nat_abs e.class < 2 ^ 24
  pub subvendor : nat_abs e.subvendor < 2 ^ 16
  pub subsystem : nat_abs e.subsystem < 2 ^ 16
  pub pin : nat_abs e.pin ≤ 4
  pub min_gnt : nat_abs e.min_gnt < 2 ^ 8
  pub max_lat : nat_abs e.max_lat < 2 ^ 8
  pub status : nat_abs e.status < 2 ^ 16
  pub fixed_status : nat_abs e.fixed_status < 2 ^ 16

-- ---- blocks and structures

abbrev pub extents : Endpoint → List ByteRange
extents e = map config_extent e.configs ++ map capability_extent e.capabilities

abbrev pub masks_hold : Endpoint → Bool
masks_hold e =
    list_all bar_holds e.bars && list_all config_holds e.configs && list_all capability_holds e.capabilities
    && all_pairs are_apart (extents e)

-- ---- what it declares

-- regions in the order of the file
abbrev pub plain_values : Endpoint → declared.Endpoint
plain_values e = record {
  vendor = nat_abs e.vendor;
  device = nat_abs e.device;
  revision = nat_abs e.revision;
  class = nat_abs e.class;
  subvendor = nat_abs e.subvendor;
  subsystem = nat_abs e.subsystem;
  pin = nat_abs e.pin;
  min_gnt = nat_abs e.min_gnt;
  max_lat = nat_abs e.max_lat;
  status = bit_or (nat_abs e.status) (nat_abs e.fixed_status);
  multifunction = e.multifunction;
  regions = map region e.bars;
  blocks = map config_block e.configs;
}

abbrev pub endpoint_values : Endpoint → declared.Endpoint
endpoint_values e = with_capabilities (map declared_capability e.capabilities) (plain_values e)

abbrev pub declared_endpoint : Endpoint → declared.Endpoint
declared_endpoint e = with_ordered_regions (endpoint_values e)
