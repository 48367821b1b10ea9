-- A board at reset is a handoff: each cell is as it is declared, whatever it holds.
use Rattle.std.proofs.Common.{◌≡◌, arith}
use Rattle.lists.proofs.EachLemmas.{each_of_map, each_map}
use Rattle.model_registers.specs.CopiedFiles.{shape_of}
use Rattle.model_board.specs.{Paths.Path, Board.{Decl, Board}, AtReset.reset_file}
use Rattle.model_handoff.{specs.{Handoffs.declared_cells, ResetCase.ResetIsHandoff}, proofs.Shapes.{endpoint_shape, bridge_shape}}

reset_shape : (b : Board) (p : Path) (d : Decl) → shape_of (reset_file b p d) ≡ shape_of (declared_cells d)
reset_shape b p d = grind (arith, endpoint_shape, bridge_shape)

pub reset_is_handoff : ResetIsHandoff
reset_is_handoff s h = grind (arith, each_of_map, each_map, reset_shape)
