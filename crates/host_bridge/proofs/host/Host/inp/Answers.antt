use Rattle.std.proofs.Common.{rules}
use Rattle.host_bridge.proofs.PortAccesses.{port_read}
use Rattle.host_bridge.proofs.host.Host.inp.Goals as goal

pub returns-in-ConfigData-clause-value : goal.returns-in-ConfigData-clause-value
returns-in-ConfigData-clause-value g c = search (rules, port_read)
