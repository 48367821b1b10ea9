-- The list is the reset file of a bridge, so its offsets are distinct.
use Rattle.std.proofs.Common.{◌≡◌, arith}
use Rattle.model_registers.specs.BridgeTable.{bridge_reset}
use Rattle.config_bytes.specs.CellFile.{file_of}
use Rattle.headers.proofs.{Files.appended, DistinctOffsets.bridge_offsets}
use Rattle.headers.proofs.bridge.Bridge.cells.Goals as goal

pub new-requires : goal.new-requires
new-requires c =
    let d = c.args.decl.now in
    let is : file_of c.deref.result.now ≡ bridge_reset d c.args.multifunction = grind (arith, appended) in
    bridge_offsets d c.args.multifunction c.deref.result.now is
