use Rattle.model_set_up.proofs.MultifunctionBits.{only_function_0_decides_multifunction}
use Rattle.model_set_up.proofs.only_function_0_decides_multifunction.Goals as goal

pub returns : goal.returns
returns c = only_function_0_decides_multifunction
