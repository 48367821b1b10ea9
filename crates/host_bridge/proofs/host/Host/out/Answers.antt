use Rattle.std.proofs.Common.{rules}
use Rattle.host_bridge.proofs.PortAccesses.{port_written}
use Rattle.host_bridge.proofs.host.Host.out.Goals as goal

pub returns-in-ConfigData : goal.returns-in-ConfigData
returns-in-ConfigData g c = search (rules, port_written)
