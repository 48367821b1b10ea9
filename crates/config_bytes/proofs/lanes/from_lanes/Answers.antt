use Rattle.config_bytes.proofs.Shifts.{masked_value}
use Rattle.config_bytes.proofs.lanes.from_lanes.Goals as goal

pub returns : goal.returns
returns c = rw c.from.ensures (masked_value c.args.off c.args.width c.args.word c.requires)
