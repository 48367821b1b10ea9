use Rattle.board_file.proofs.DeviceLaws.{accepted_devices_are_below_limit}
use Rattle.board_file.proofs.laws.accepted_devices_are_below_limit.Goals as goal

pub returns : goal.returns
returns c = accepted_devices_are_below_limit
