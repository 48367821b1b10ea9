use Rattle.std.proofs.Common.{sym, arith}
use Rattle.model_registers.specs.ByteEnables.{lanes}
use Rattle.bridge_forward.proofs.EndpointAccess.{read_past}
use Rattle.bridge_forward.proofs.offsets.read_or_zero.Goals as goal

pub returns-in-Err : goal.returns-in-Err
returns-in-Err c = sym (read_past c.args.cells.now.now c.requires.short c.args.off (lanes c.args.enables) (omega (arith, c.in-Err.ensures)))
