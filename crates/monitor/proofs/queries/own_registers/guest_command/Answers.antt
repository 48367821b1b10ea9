use Rattle.std.proofs.Common.{arith}
use Rattle.monitor.proofs.queries.own_registers.guest_command.Goals as goal

-- the bytes that are not enabled read 0
pub overflow_cast-result : goal.overflow_cast-result
overflow_cast-result c = omega (arith, c.config_read-command.ensures.own)
