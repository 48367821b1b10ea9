use Rattle.std.proofs.{Common.arith, lemmas.Bool.{ltb-true, ltb-false}}
use Rattle.model_registers.proofs.DeviceBytes.{device_away}
use Rattle.bridge_forward.proofs.EndpointAccess.{cell_of_block, cell_of_config, block_there, block_short, no_block}
use Rattle.bridge_forward.proofs.endpoint.EndpointFn.value.Goals as goal

pub returns-in-Cfg : goal.returns-in-Cfg
returns-in-Cfg c = grind (arith, cell_of_config, device_away)

pub value_or_zero-requires-in-Some : goal.value_or_zero-requires-in-Some
value_or_zero-requires-in-Some c = grind (arith, block_there, ltb-true, block_short)

pub returns-in-Some : goal.returns-in-Some
returns-in-Some c = grind (arith, block_there, ltb-true, cell_of_block)

pub returns-in-None : goal.returns-in-None
returns-in-None c = grind (arith, no_block, ltb-false, cell_of_block)
