-- The `capability` tables of an endpoint: the structures of its capability list.
--     Capability, capability      what such a table says
--     capability_extent      where its structure is, with the header
--     capability_rules fault cs ds n c, is_capability c      the rules with a fault of a structure that comes after all blocks of own
--         registers and n other structures; all rules but those of patterns, blocks and other structures are kept
--     capability_holds, declared_capability      its patterns are lawful; the structure that it declares
use Rattle.std.specs.{Prelude.{ℕ, ◌+◌, ◌%◌, ◌==◌, ℤ, pos, nat_abs, int_le, ◌+ℤ◌, codes, Bool, ◌&&◌, List, [], ◌∷◌, take}, List.list_all}
use Rattle.toml.specs.Data.{Members}
use Rattle.board_file.specs.{Values.number, Configs.{Config, config, config_extent, config_holds, config_block}, Rules.{is_between, are_apart, kept}, declared.{functions.blocks.ByteRange.ByteRange, rule.Rule.Rule, fault.BoardFault.BoardFault}}
use Rattle.model_registers.specs.Capabilities as listed
use Rattle.board_file.specs.declared.fault.BoardFault.TheVariants as fault
use Rattle.board_file.specs.declared.rule.Rule.TheVariants as rule

-- a structure of a capability list; its block comes after the two bytes of its header
pub record Capability : Type 0 where
  pub id : ℤ
  pub config : Config

abbrev pub capability : Members → Capability
capability ms = record { id = number (codes "id") ms; config = config ms }

-- with the two bytes of the header
abbrev pub capability_extent : Capability → ByteRange
capability_extent c = record { off = nat_abs c.config.off; len = 2 + nat_abs c.config.block }

abbrev pub capability_holds : Capability → Bool
capability_holds c = config_holds c.config

-- of a structure that comes after all blocks of own registers and n others of a device; its header has two bytes
abbrev pub capability_rules : BoardFault → List Config → List Capability → ℕ → Capability → List (Rule × Bool)
capability_rules fault.Number cs ds n c =
    (rule.CapabilityId, is_between 1 0xff c.id)
    ∷ (rule.CapabilityOff, is_between 0x40 0xfc c.config.off && (nat_abs c.config.off % 4 == 0))
    ∷ (rule.CapabilityBlock, is_between 1 190 c.config.block)
    ∷ (rule.ConfigEnd, int_le (c.config.off +ℤ c.config.block) (pos 254)) ∷ []
capability_rules fault.CellMasks cs ds n c =
    (rule.ConfigMasks, capability_holds c)
    ∷ (
      rule.OwnOffsets,
      list_all (λ d. are_apart (config_extent d) (capability_extent c)) cs
          && list_all (λ d. are_apart (capability_extent d) (capability_extent c)) (take n ds),
    ) ∷ []
capability_rules _ cs ds n c = []

abbrev pub is_capability : Capability → Bool
is_capability c = kept (capability_rules fault.Number [] [] 0 c)

abbrev pub declared_capability : Capability → listed.Capability
declared_capability c = record { id = nat_abs c.id; offset = nat_abs c.config.off; cells = (config_block c.config).cells }
