-- The `bar` tables of an endpoint: its base address registers.
--     Bar, bar      what such a table says
--     bar_rules fault n b, is_region b      the rules with a fault of the table at index n; all rules but that of patterns are kept
--     bar_holds, region      its patterns are lawful; the region that it declares
use Rattle.std.specs.Prelude.{ℕ, ℤ, nat_abs, int_le, codes, Bool, ◌&&◌, List, [], ◌∷◌, unwrap_or}
use Rattle.toml.specs.Data.{Members}
use Rattle.model_registers.specs.Declarations.{Kind, io_kind, Region}
use Rattle.board_file.specs.{Texts.parse_region_kind, Values.{number, text, Patterns, patterns}, Blocks.{are_patterns_valid, block_cells}, Rules.{is_between, is_valid_bar_size, kept}, declared.{rule.Rule.Rule, fault.BoardFault.BoardFault}}
use Rattle.board_file.specs.declared.fault.BoardFault.TheVariants as fault
use Rattle.board_file.specs.declared.rule.Rule.TheVariants as rule

pub record Bar : Type 0 where
  pub index : ℤ
  pub kind : Kind
  pub size : ℤ
  pub block : ℤ
  pub patterns : Patterns

abbrev pub bar : Members → Bar
bar ms = record {
  index = number (codes "index") ms;
  kind = unwrap_or (parse_region_kind (text (codes "kind") ms)) io_kind;
  size = number (codes "size") ms;
  block = number (codes "block") ms;
  patterns = patterns ms;
}

abbrev pub bar_holds : Bar → Bool
bar_holds b = are_patterns_valid (nat_abs b.block) b.patterns

abbrev pub bar_rules : BoardFault → ℕ → Bar → List (Rule × Bool)
bar_rules fault.Number n b = (rule.BarBlock, is_between 0 4096 b.block) ∷ []
bar_rules fault.Register n b = (rule.Index, is_between 0 5 b.index) ∷ []
bar_rules fault.Size n b = (rule.Size, is_valid_bar_size b.kind b.size) ∷ (rule.BlockFits, int_le b.block b.size) ∷ []
bar_rules fault.CellMasks n b = (rule.BarMasks, bar_holds b) ∷ []
bar_rules _ n b = []

abbrev pub is_region : Bar → Bool
is_region b = kept (bar_rules fault.Number 0 b) && kept (bar_rules fault.Register 0 b) && kept (bar_rules fault.Size 0 b)

abbrev pub region : Bar → Region
region b = record {
  index = nat_abs b.index;
  kind = b.kind;
  size = nat_abs b.size;
  cells = block_cells (nat_abs b.block) b.patterns;
}
