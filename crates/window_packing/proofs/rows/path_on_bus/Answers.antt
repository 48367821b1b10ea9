use Rattle.std.proofs.Common.{arith}
use Rattle.lists.proofs.Indices.{read_at}
use Rattle.window_packing.proofs.LayoutRows.{bus_of_path}
use Rattle.window_packing.proofs.rows.path_on_bus.Goals as goal

pub push-requires : goal.push-requires
push-requires c = grind (arith, read_at, bus_of_path)

pub returns : goal.returns
returns c = grind (arith, read_at, bus_of_path)
