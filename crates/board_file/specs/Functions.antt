-- The declarations in the tables of a board file that keeps the rules.
--     bridge      what the table of a bridge declares
--     endpoint_row, bridge_row      a function with its path
--     standings, rows      the paths of functions, and the functions at them
--     apertures, guests      the addresses that set-up may give out, and the guests
use Rattle.std.specs.Prelude.{nat_abs, true, false, List, ◌++◌, map, option_map}
use Rattle.model_registers.specs.Apertures.{Aperture, Apertures}
use Rattle.model_board.specs.{Board.Row, Places.Standing}
use Rattle.board_file.specs.{Endpoints.{Endpoint, declared_endpoint}, Entries.{Bridge, Guest, File}, declared.entries.Bounds.Bounds, PathTexts.path_at}
use Rattle.model_registers.specs.Declarations as declared
use Rattle.model_board.specs.Board as board
use Rattle.model_guests.specs.World as world

abbrev pub bridge : Bridge → declared.Bridge
bridge b = record {
  vendor = nat_abs b.vendor;
  device = nat_abs b.device;
  revision = nat_abs b.revision;
  status = nat_abs b.fixed_status;
  secondary_status = nat_abs b.fixed_secondary_status;
  multifunction = b.multifunction;
  io = b.io;
  pref = b.pref;
}

abbrev pub endpoint_standing : Endpoint → Standing
endpoint_standing e = record { path = path_at e.at; is_bridge = false }

abbrev pub bridge_standing : Bridge → Standing
bridge_standing b = record { path = path_at b.at; is_bridge = true }

abbrev pub standings : File → List Standing
standings f = map endpoint_standing f.endpoints ++ map bridge_standing f.bridges

abbrev pub endpoint_row : Endpoint → Row
endpoint_row e = record { path = path_at e.at; decl = board.endpoint (declared_endpoint e) }

abbrev pub bridge_row : Bridge → Row
bridge_row b = record { path = path_at b.at; decl = board.bridge (bridge b) }

abbrev pub rows : File → List Row
rows f = map endpoint_row f.endpoints ++ map bridge_row f.bridges

abbrev pub aperture : Bounds → Aperture
aperture b = record { first = nat_abs b.first; last = nat_abs b.last }

abbrev pub apertures : File → Apertures
apertures f = record { io = aperture f.io; mem = aperture f.mem; pref = option_map aperture f.pref }

abbrev pub guest : Guest → world.Guest
guest g = record { name = g.name; slots = map path_at g.slots }

abbrev pub guests : File → List world.Guest
guests f = map guest f.guests
