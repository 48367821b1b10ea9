use Rattle.std.proofs.Common.{rules}
use Rattle.host_bridge.proofs.{Lent.distinct_paths, ByIndex.{none_reset, reset_except_routing_nth}}
use Rattle.host_bridge.proofs.host.Host.reset_except_routing_nth.Goals as goal

pub returns-in_default : goal.returns-in_default
returns-in_default c = search (rules, none_reset)

pub returns : goal.returns
returns c = search (rules, distinct_paths, reset_except_routing_nth)
