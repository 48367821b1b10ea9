use Rattle.model_registers.proofs.RegisterFiles.{change_at_place, field_reads, field_writes}
use Rattle.model_registers.proofs.registers_obey_write_masks.Goals as goal

pub returns : goal.returns
returns c = record { change = change_at_place; reads = field_reads; writes = field_writes }
