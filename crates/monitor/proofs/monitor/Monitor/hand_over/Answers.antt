use Rattle.std.proofs.Common.{arith}
use Rattle.model_handoff.proofs.Served.{fault_decides}
use Rattle.monitor.proofs.monitor.Monitor.hand_over.Goals as goal

pub hand_over_checked-requires-clause-given : goal.hand_over_checked-requires-clause-given
hand_over_checked-requires-clause-given c = grind (arith, fault_decides)
