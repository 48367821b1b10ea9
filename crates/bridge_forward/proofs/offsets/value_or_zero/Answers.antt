use Rattle.std.proofs.Common.{sym, arith}
use Rattle.bridge_forward.proofs.EndpointAccess.{value_past}
use Rattle.bridge_forward.proofs.offsets.value_or_zero.Goals as goal

pub returns-in_default : goal.returns-in_default
returns-in_default c = sym (value_past c.args.cells.now.now c.requires c.args.off (omega (arith, c.in_default.ensures)))
