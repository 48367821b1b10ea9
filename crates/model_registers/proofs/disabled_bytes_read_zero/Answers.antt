use Rattle.model_registers.proofs.ByteAccesses.{number_fits, reads_enabled}
use Rattle.model_registers.proofs.disabled_bytes_read_zero.Goals as goal

pub returns : goal.returns
returns c = record { number = number_fits; read = reads_enabled }
