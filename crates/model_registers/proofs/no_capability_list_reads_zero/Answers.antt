use Rattle.model_registers.proofs.NoLists.{no_list_stays}
use Rattle.model_registers.proofs.no_capability_list_reads_zero.Goals as goal

pub returns : goal.returns
returns c = no_list_stays
