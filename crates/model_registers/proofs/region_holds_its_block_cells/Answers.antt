use Rattle.std.proofs.Common.{arith}
use Rattle.model_registers.proofs.Files.{region_cells, region_cell, region_read, region_change, region_write, region_has_no_config, region_has_no_other, config_has_no_block, config_stays}
use Rattle.model_registers.proofs.region_holds_its_block_cells.Goals as goal

pub returns : goal.returns
returns c = grind (arith, region_cells, region_cell, region_read, region_change, region_write, region_has_no_config, region_has_no_other, config_has_no_block, config_stays)
