use Rattle.model_guests.proofs.DeviceBytes.{reads_leave_guests, reads_written, write_reaches_board}
use Rattle.model_guests.proofs.device_write_changes_one_byte.Goals as goal

pub returns : goal.returns
returns c = record { reads = reads_leave_guests; written = reads_written; board = write_reaches_board }
