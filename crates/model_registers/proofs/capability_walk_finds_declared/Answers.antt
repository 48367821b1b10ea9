use Rattle.model_registers.proofs.Capabilities.{list_stays}
use Rattle.model_registers.proofs.capability_walk_finds_declared.Goals as goal

pub returns : goal.returns
returns c = list_stays
