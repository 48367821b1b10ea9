use Rattle.model_board.proofs.BusNumbers.{bus_range_equals_bridges_below}
use Rattle.model_board.proofs.bus_range_equals_bridges_below.Goals as goal

pub returns : goal.returns
returns c = bus_range_equals_bridges_below
