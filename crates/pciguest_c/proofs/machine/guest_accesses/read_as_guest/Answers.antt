use Rattle.std.proofs.Common.{arith}
use Rattle.pciguest_c.proofs.Kept.{reads_count_none}
use Rattle.pciguest_c.proofs.machine.guest_accesses.read_as_guest.Goals as goal

pub returns-clause-kept : goal.returns-clause-kept
returns-clause-kept c = grind (arith, reads_count_none)
