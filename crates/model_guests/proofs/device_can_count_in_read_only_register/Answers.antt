use Rattle.model_guests.proofs.DeviceExamples.{device_can_count_in_read_only_register}
use Rattle.model_guests.proofs.device_can_count_in_read_only_register.Goals as goal

pub returns : goal.returns
returns c = device_can_count_in_read_only_register
