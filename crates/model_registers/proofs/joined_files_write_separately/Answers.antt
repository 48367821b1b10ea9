use Rattle.std.proofs.Common.{arith}
use Rattle.model_registers.proofs.Files.{joined_cell, joined_change, joined_write, read_none, write_none, read_second, read_first, places_stay}
use Rattle.model_registers.proofs.joined_files_write_separately.Goals as goal

pub returns : goal.returns
returns c = grind (arith, joined_cell, joined_change, joined_write, read_none, write_none, read_second, read_first, places_stay)
