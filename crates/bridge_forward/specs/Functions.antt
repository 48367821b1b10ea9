-- One function of the tree, in the terms of the formal model.
--     decl_of, file_of      the declaration of a function, and its cells
--     with_cells      the function with other cells
--     reset_cells      the cells of a declared function at reset
--     endpoint_in      the endpoint, if the function is an endpoint
use Rattle.std.specs.{Prelude.{Bool, Option, Some, None}, Borrow.{LendsIf, MutBor, Fml}}
use Rattle.model_registers.specs.{Registers.File, EndpointTable.endpoint_reset, BridgeTable.bridge_reset}
use Rattle.model_board.specs.Board.{Decl, endpoint, bridge}
use Rattle.bridge_forward.specs.declared.function.Function.{Function, TheVariants.{Endpoint, Bridge}}
use Rattle.model_registers.specs.Decoding as decoding
use Rattle.bridge_forward.specs.contracts.function.Function as function
use Rattle.bridge_forward.specs.contracts.endpoint.EndpointFn as endpoint_fn

abbrev pub decl_of : Function → Decl
decl_of (Endpoint e) = endpoint e.decl
decl_of (Bridge b) = bridge b.decl

abbrev pub file_of : Function → File
file_of (Endpoint e) = e.file
file_of (Bridge b) = b.file

abbrev pub with_cells : Function → File → Function
with_cells (Endpoint e) file = Endpoint (record e { file = file })
with_cells (Bridge b) file = Bridge (record b { file = file })

abbrev pub reset_cells : Decl → Bool → File
reset_cells (endpoint d) multifunction = endpoint_reset d multifunction
reset_cells (bridge d) multifunction = bridge_reset d multifunction

abbrev pub endpoint_in : Function → Option decoding.Function
endpoint_in (Endpoint e) = Some e
endpoint_in (Bridge b) = None

-- an endpoint ends in the state that the borrow r leaves, and a bridge doesn't change
abbrev pub LendsLeaf : MutBor Function → Option (MutBor decoding.Function) → Fml
LendsLeaf f r = LendsIf function.the_row endpoint_fn.the_row f r Endpoint f.now
