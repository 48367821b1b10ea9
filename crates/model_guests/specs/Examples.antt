-- Boards with guests, for worked examples.
--     main_world      the main board with two guests
--     second_world      the functions of the first guest at other places, with other functions around them
--     wide_world      an endpoint with a region of each kind and each field of the header declared, and one guest
use Rattle.std.specs.Prelude.{List, [], ◌∷◌, ℕ, true, false, ◌^◌, Some, codes}
use Rattle.model_registers.specs.{Cell.{Cell, constant}, Declarations.{io_kind, mem32, mem64, Endpoint, plain_endpoint, Bridge}, Apertures.Apertures}
use Rattle.model_board.specs.{Paths.Path, Board.{endpoint, bridge, Board}, Examples.{part, function_at, aperture, plain, first_endpoint, third_endpoint, main_bridge, main_board_with, main_apertures}}
use Rattle.model_guests.specs.World.{Guest, World}

abbrev pub on_bus_0 : ℕ → Path
on_bus_0 d = part d 0 ∷ []

abbrev pub behind : ℕ → ℕ → Path
behind d e = part d 0 ∷ part e 0 ∷ []

-- ---- the main board

abbrev pub main_guests : List Guest
main_guests =
    record { name = codes "a"; slots = on_bus_0 1 ∷ behind 2 1 ∷ [] }
    ∷ record { name = codes "b"; slots = behind 2 0 ∷ [] } ∷ []

-- with a different bridge and different apertures
abbrev pub main_world_with : Bridge → Apertures → World
main_world_with d a = record { board = main_board_with d; apertures = a; guests = main_guests }

abbrev pub main_world : World
main_world = main_world_with main_bridge main_apertures

abbrev pub second_world : World
second_world = record {
  board =
      function_at (on_bus_0 0) (endpoint third_endpoint)
      ∷ function_at (on_bus_0 4) (bridge main_bridge)
      ∷ function_at (behind 4 5) (endpoint first_endpoint)
      ∷ function_at (part 4 0 ∷ part 5 1 ∷ []) (endpoint (plain 9 0 0 [])) ∷ [];
  apertures = main_apertures;
  guests = record { name = codes "a"; slots = behind 4 5 ∷ on_bus_0 0 ∷ [] }
      ∷ record { name = codes "b"; slots = [] } ∷ [];
}

-- ---- one endpoint

abbrev pub writable_byte : Cell
writable_byte = record { value = 0; writable = 0xff; clearable = 0 }

-- device-specific registers at 40h (partly writable), 41h (raised by the device) and FFh (constant)
abbrev pub wide_endpoint : Endpoint
wide_endpoint = record (plain_endpoint 0x1af4 0x1041 0x020080) {
  revision = 0x5a;
  subvendor = 0x9abc;
  subsystem = 0xdef0;
  pin = 3;
  min_gnt = 0x11;
  max_lat = 0x22;
  status = 0xf900;
  regions = record { index = 0; kind = io_kind; size = 256; cells = constant 0x10 ∷ constant 0x11 ∷ [] }
      ∷ record { index = 1; kind = mem32 true; size = 16; cells = writable_byte ∷ [] }
      ∷ record { index = 2; kind = mem64 false; size = 2 ^ 20; cells = constant 0x20 ∷ [] }
      ∷ record { index = 4; kind = mem64 true; size = 2 ^ 33; cells = constant 0x40 ∷ [] } ∷ [];
  blocks = record {
    offset = 0x40;
    cells = record { value = 0x5a; writable = 0x0f; clearable = 0 }
        ∷ record { value = 0x81; writable = 0; clearable = 0xc1 } ∷ [];
  }
      ∷ record { offset = 0xff; cells = constant 0x7e ∷ [] } ∷ [];
}

abbrev pub wide_world : World
wide_world = record {
  board = function_at (on_bus_0 3) (endpoint wide_endpoint) ∷ [];
  apertures = record main_apertures { pref = Some (aperture 0x800000000 0xfffffffff) };
  guests = record { name = codes "a"; slots = on_bus_0 3 ∷ [] } ∷ [];
}

-- ---- boards without guests

abbrev pub bare : Board → World
bare b = record { board = b; apertures = main_apertures; guests = [] }
