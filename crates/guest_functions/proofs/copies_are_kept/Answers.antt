use Rattle.std.proofs.Common.{arith}
use Rattle.guest_functions.proofs.HeldCopies.{copies_stay, raised_held, written_held, block_written_held, lawful_copies, sum_of_bytes, enabled_bytes-fits}
use Rattle.guest_functions.proofs.copies_are_kept.Goals as goal

pub returns : goal.returns
returns c = grind (arith, copies_stay, raised_held, written_held, block_written_held, lawful_copies, sum_of_bytes, enabled_bytes-fits)
