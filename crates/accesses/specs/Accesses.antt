-- Converts accesses, replies and reads by the host to the terms of the formal model.
--     target_of, op_of, access_of      a guest's access
--     part_of      the target of a raise
--     host_target_of, host_access_of      a read by the host
--     reply_of      a reply
use Rattle.paths.specs.BusAddresses.{bus_address_of}
use Rattle.model_guests.specs.Grammar.{HostRead, HostTarget, host_configuration, host_port, host_address}
use Rattle.accesses.specs.{declared.access.{Access.Access, At.At, Reply.Reply, HostAccess.HostAccess, HostAt.HostAt}, Refusals.number_of}
use Rattle.config_bytes.specs.declared.op.Op.{Op}
use Rattle.headers.specs.declared.place.Place.{Place}
use Rattle.model_guests.specs.Accesses as guests
use Rattle.accesses.specs.declared.access.At.TheVariants as at
use Rattle.config_bytes.specs.declared.op.Op.TheVariants as op
use Rattle.accesses.specs.declared.access.Reply.TheVariants as reply
use Rattle.accesses.specs.declared.access.HostAt.TheVariants as hostat
use Rattle.headers.specs.declared.place.Place.TheVariants as place

abbrev pub target_of : At → guests.Target
target_of (at.Config slot off) = guests.configuration slot off
target_of (at.Io n) = guests.port n
target_of (at.Mem n) = guests.address n

abbrev pub op_of : Op → guests.Op
op_of op.Read = guests.reads
op_of (op.Write v) = guests.writes v

abbrev pub access_of : Access → guests.Access
access_of a = record { target = target_of a.at; width = a.width; op = op_of a.op }

abbrev pub part_of : Place → guests.RaisePlace
part_of place.Cfg = guests.in_config
part_of (place.Bar n) = guests.in_region n

abbrev pub host_target_of : HostAt → HostTarget
host_target_of (hostat.Config b off) = host_configuration (bus_address_of b) off
host_target_of (hostat.Io n) = host_port n
host_target_of (hostat.Mem n) = host_address n

abbrev pub host_access_of : HostAccess → HostRead
host_access_of a = record { target = host_target_of a.at; width = a.width }

abbrev pub reply_of : Reply → guests.Reply
reply_of (reply.Value v w) = guests.answered v w
reply_of reply.Done = guests.done
reply_of (reply.Refused why) = guests.refused (number_of why)
