use Rattle.std.proofs.Common.{arith}
use Rattle.model_registers.proofs.ByteAccesses.{aligned_lies_in_word, number_by_lanes, lanes_fit, number_from_word, all_ones_by_lanes, write_by_lanes, disabled_read, disabled_stay}
use Rattle.model_registers.proofs.accesses_touch_enabled_bytes.Goals as goal

pub returns : goal.returns
returns c = grind (arith, aligned_lies_in_word, number_by_lanes, lanes_fit, number_from_word, all_ones_by_lanes, write_by_lanes, disabled_read, disabled_stay)
