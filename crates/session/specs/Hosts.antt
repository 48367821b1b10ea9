-- Firmware's accesses over a host bridge. Set-up's apertures stay, whatever firmware does.
--     after_asked h a      the host bridge after an access
use Rattle.model_lines.specs.HostAccesses.{HostAccess, after_access}
use Rattle.host_bridge.specs.HostState.{HostState}

abbrev pub after_asked : HostState → HostAccess → HostState
after_asked h a = record h { state = after_access h.state a }
