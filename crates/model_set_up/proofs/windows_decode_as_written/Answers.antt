use Rattle.model_set_up.proofs.{WindowReads.windows_named, BoardWindows.set_up_windows}
use Rattle.model_set_up.proofs.windows_decode_as_written.Goals as goal

pub returns : goal.returns
returns c = record { named = windows_named; set_up = set_up_windows }
