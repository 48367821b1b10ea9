use Rattle.std.proofs.Common.{rules}
use Rattle.host_bridge.proofs.{Lent.distinct_paths, ByIndex.{file_lent, kept_nth}}
use Rattle.host_bridge.proofs.host.Host.device_byte_or_zero_nth.Goals as goal

pub returns-clause-value : goal.returns-clause-value
returns-clause-value c = search (rules, file_lent)

pub returns-clause-after : goal.returns-clause-after
returns-clause-after c = search (rules, distinct_paths, kept_nth)
