use Rattle.model_registers.proofs.ListedCapabilities.{lists_declared}
use Rattle.model_registers.proofs.listed_capabilities_match_decl.Goals as goal

pub returns : goal.returns
returns c = lists_declared
