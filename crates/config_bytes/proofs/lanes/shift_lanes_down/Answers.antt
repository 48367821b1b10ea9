use Rattle.std.proofs.Common.{◌/◌, ◌%◌, ap}
use Rattle.config_bytes.proofs.Shifts.{byte_power}
use Rattle.config_bytes.proofs.lanes.shift_lanes_down.Goals as goal

pub returns : goal.returns
returns c = ap (λ n. c.args.word / n) (byte_power (c.args.off % 4))
