use Rattle.model_registers.proofs.EnabledBytes.{read_field, write_field}
use Rattle.model_registers.proofs.byte_enables_select_bytes.Goals as goal

pub returns : goal.returns
returns c = record { reads = read_field; writes = write_field }
