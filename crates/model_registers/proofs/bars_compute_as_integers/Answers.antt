use Rattle.model_registers.proofs.{Bases.{reads_of_bases, writes_of_bases}, Sizes.sizes_read}
use Rattle.model_registers.proofs.bars_compute_as_integers.Goals as goal

pub returns : goal.returns
returns c = record { reads = reads_of_bases; writes = writes_of_bases; sizes = sizes_read }
