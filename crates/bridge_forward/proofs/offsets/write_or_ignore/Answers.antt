use Rattle.std.proofs.Common.{sym, ap, arith}
use Rattle.model_registers.specs.{Registers.File, ByteEnables.lanes}
use Rattle.bridge_forward.proofs.EndpointAccess.{write_past}
use Rattle.bridge_forward.proofs.offsets.write_or_ignore.Goals as goal

pub returns-in_default : goal.returns-in_default
returns-in_default c =
    ap (λ (xs : File). record c.args.cells.now { now = xs })
    (sym (write_past c.args.cells.now.now c.requires.short c.args.off c.args.data (lanes c.args.enables) (omega (arith, c.in_default.ensures))))
