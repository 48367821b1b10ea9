use Rattle.std.proofs.Common.{arith}
use Rattle.model_board.proofs.{ClaimLanes.claims_keep_lanes, ConfigAccesses.{config_read_by_lanes, config_write_by_lanes, ports_while_not_enabled}}
use Rattle.model_board.proofs.bus_accesses_select_byte_lanes.Goals as goal

pub returns : goal.returns
returns c = grind (arith, config_read_by_lanes, config_write_by_lanes, claims_keep_lanes, ports_while_not_enabled)
