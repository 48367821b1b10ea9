-- The `config` tables of an endpoint: blocks of own registers.
--     Config, config      what such a table says
--     config_extent      where its block is
--     config_rules fault cs n c, is_config_block c      the rules with a fault of a block that comes after n others; all rules but
--         those of patterns and of other blocks are kept
--     config_holds, config_block      its patterns are lawful; the block that it declares
use Rattle.std.specs.{Prelude.{ℕ, ℤ, pos, nat_abs, int_le, ◌+ℤ◌, codes, Bool, List, [], ◌∷◌, take}, List.list_all}
use Rattle.toml.specs.Data.{Members}
use Rattle.model_registers.specs.Declarations.{ConfigBlock}
use Rattle.board_file.specs.{Values.{number, Patterns, patterns}, Blocks.{are_patterns_valid, block_cells}, Rules.{is_between, are_apart, kept}, declared.{functions.blocks.ByteRange.ByteRange, rule.Rule.Rule, fault.BoardFault.BoardFault}}
use Rattle.board_file.specs.declared.fault.BoardFault.TheVariants as fault
use Rattle.board_file.specs.declared.rule.Rule.TheVariants as rule

pub record Config : Type 0 where
  pub off : ℤ
  pub block : ℤ
  pub patterns : Patterns

abbrev pub config : Members → Config
config ms = record { off = number (codes "off") ms; block = number (codes "block") ms; patterns = patterns ms }

abbrev pub config_extent : Config → ByteRange
config_extent c = record { off = nat_abs c.off; len = nat_abs c.block }

abbrev pub config_holds : Config → Bool
config_holds c = are_patterns_valid (nat_abs c.block) c.patterns

-- of a block of own registers that comes after n others of a device
abbrev pub config_rules : BoardFault → List Config → ℕ → Config → List (Rule × Bool)
config_rules fault.Number cs n c =
    (rule.ConfigOff, is_between 0x40 0xff c.off)
    ∷ (rule.ConfigBlock, is_between 1 192 c.block)
    ∷ (rule.ConfigEnd, int_le (c.off +ℤ c.block) (pos 256)) ∷ []
config_rules fault.CellMasks cs n c =
    (rule.ConfigMasks, config_holds c)
    ∷ (rule.OwnOffsets, list_all (λ d. are_apart (config_extent d) (config_extent c)) (take n cs)) ∷ []
config_rules _ cs n c = []

abbrev pub is_config_block : Config → Bool
is_config_block c = kept (config_rules fault.Number [] 0 c)

abbrev pub config_block : Config → ConfigBlock
config_block c = record { offset = nat_abs c.off; cells = block_cells (nat_abs c.block) c.patterns }
