use Rattle.model_registers.proofs.{HitRegions.hit_is_of_region, Hits.{hits_by_bases, hits_of_registers}}
use Rattle.model_registers.proofs.decode_uses_command_and_bars.Goals as goal

pub returns : goal.returns
returns c = record { by_bases = hits_by_bases; of_registers = hits_of_registers; of_region = hit_is_of_region }
