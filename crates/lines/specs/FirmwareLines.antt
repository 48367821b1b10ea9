-- Lines of firmware, in the words of its definitions.
--     host_asked place op      what the host does at a place and in a width
--     firmware_meaning_of what      what a line means: one that asks something is no access
--     requested what      what it asks, if it does
use Rattle.model_guests.specs.{Accesses.{Op, reads, writes}, Grammar.{host, nobody}}
use Rattle.model_lines.specs.{FirmwareLines.{Meaning, nothing, asked, bad}, Requests.HostRequest}
use Rattle.accesses.specs.{Accesses.host_target_of, Refusals.number_of, declared.access.HostAccess.HostAccess}
use Rattle.std.specs.Prelude.{Option, None, Some}
use Rattle.lines.specs.{Requests.request_of, declared.firmware_line.FirmwareCommand.FirmwareCommand}
use Rattle.model_lines.specs.HostAccesses as firmware
use Rattle.lines.specs.declared.firmware_line.FirmwareCommand.TheVariants as what

abbrev pub host_asked : HostAccess → Op → firmware.HostAccess
host_asked place op = record { target = host_target_of place.at; width = place.width; op = op }

abbrev pub firmware_meaning_of : FirmwareCommand → Meaning
firmware_meaning_of what.Nothing = nothing
firmware_meaning_of (what.Read place) = asked (host_asked place reads)
firmware_meaning_of (what.Write place v) = asked (host_asked place (writes v))
firmware_meaning_of (what.Asks request) = bad host 401
firmware_meaning_of what.NoForm = bad host 401
firmware_meaning_of (what.NotOfHost why) = bad nobody (number_of why)

abbrev pub requested : FirmwareCommand → Option HostRequest
requested (what.Asks request) = Some (request_of request)
requested other = None
