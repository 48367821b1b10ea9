use Rattle.config_bytes.proofs.Shifts.{shifted_value}
use Rattle.config_bytes.proofs.lanes.to_lanes.Goals as goal

pub returns : goal.returns
returns c = shifted_value c.args.off c.args.value
