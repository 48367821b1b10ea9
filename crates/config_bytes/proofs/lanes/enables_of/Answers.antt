use Rattle.config_bytes.proofs.Shifts.{shifted_enables}
use Rattle.config_bytes.proofs.lanes.enables_of.Goals as goal

pub returns : goal.returns
returns c = shifted_enables c.args.off c.args.width c.requires
