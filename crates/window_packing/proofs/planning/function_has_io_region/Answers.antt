use Rattle.std.proofs.Common.{arith}
use Rattle.window_packing.proofs.BarLists.{any_port}
use Rattle.window_packing.proofs.planning.function_has_io_region.Goals as goal

pub returns-in-Endpoint : goal.returns-in-Endpoint
returns-in-Endpoint c = grind (arith, any_port)
