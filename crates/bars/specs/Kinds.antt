-- Converts kinds and spaces between the program's types and the formal model.
--     kind_of, named_kind      a kind of region, from the program's type and back
--     named_bar      a kind with a size
--     named_space      a space, from the program's type
use Rattle.std.specs.Prelude.{ℕ}
use Rattle.model_registers.specs.Declarations.{io_kind, mem32, mem64}
use Rattle.bars.specs.declared.decl.{Kind.Kind, Space.Space}
use Rattle.model_registers.specs.Declarations as model
use Rattle.model_registers.specs.Decoding as decoding
use Rattle.bars.specs.declared.decl.Kind.TheVariants as kind
use Rattle.bars.specs.declared.decl.Space.TheVariants as space

abbrev pub kind_of : Kind → model.Kind
kind_of kind.Io = io_kind
kind_of (kind.Mem32 pref) = mem32 pref
kind_of (kind.Mem64 pref) = mem64 pref

abbrev pub named_kind : model.Kind → Kind
named_kind io_kind = kind.Io
named_kind (mem32 pref) = kind.Mem32 pref
named_kind (mem64 pref) = kind.Mem64 pref

abbrev pub named_bar : Kind × ℕ → model.Bar
named_bar b = record { kind = kind_of b.0; size = b.1 }

abbrev pub named_space : Space → decoding.Space
named_space space.Io = decoding.io
named_space space.Mem = decoding.memory
