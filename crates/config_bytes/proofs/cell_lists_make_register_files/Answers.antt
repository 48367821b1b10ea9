use Rattle.std.proofs.Common.{arith}
use Rattle.config_bytes.proofs.Offsets.{
  file_of-append,
  file_of-offsets_from,
  IsWithin-wider,
  IsWithin-append,
  IsWithin-offsets_from,
  HasDistinctOffsets-append,
  HasDistinctOffsets-push,
  HasDistinctOffsets-offsets_from,
}
use Rattle.config_bytes.proofs.Tables.{IsConfigFile-of}
use Rattle.config_bytes.proofs.cell_lists_make_register_files.Goals as goal

pub returns : goal.returns
returns c = grind (arith, file_of-append, file_of-offsets_from, IsConfigFile-of, IsWithin-wider, IsWithin-append, IsWithin-offsets_from, HasDistinctOffsets-append, HasDistinctOffsets-push, HasDistinctOffsets-offsets_from)
