use Rattle.std.proofs.Common.{arith}
use Rattle.findings.proofs.PrefetchedAddresses.{least_prefetched}
use Rattle.findings.proofs.prefetching.first_prefetched_address.Goals as goal

pub returns : goal.returns
returns c = grind (arith, least_prefetched)
