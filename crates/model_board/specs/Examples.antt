-- The boards and apertures of the worked examples.
--     main_board, main_apertures      two endpoints behind a bridge, and one endpoint on bus 0
--     many_bridges      255 bridges
use Rattle.std.specs.Prelude.{List, [], ◌∷◌, ℕ, zero, suc, ◌/◌, ◌%◌, true, false, replicate, ◌++◌, Some}
use Rattle.model_registers.specs.{Cell.Cell, Declarations.{Kind, io_kind, mem32, mem64, Region, Endpoint, plain_endpoint, no_io, io16, no_pref, pref64, Bridge, plain_bridge}, Apertures.{Aperture, Apertures}}
use Rattle.model_board.specs.{Paths.{Part, Path}, Board.{Decl, endpoint, bridge, Row, Board}}

abbrev pub part : ℕ → ℕ → Part
part d f = record { device = d; function = f }

abbrev pub function_at : Path → Decl → Row
function_at p d = record { path = p; decl = d }

abbrev pub aperture : ℕ → ℕ → Aperture
aperture first last = record { first = first; last = last }

-- a region without register cells
abbrev pub region : ℕ → Kind → ℕ → Region
region n kind size = record { index = n; kind = kind; size = size; cells = [] }

abbrev pub writable_cell : ℕ → Cell
writable_cell v = record { value = v; writable = 0xff; clearable = 0 }

abbrev pub constant_cell : ℕ → Cell
constant_cell v = record { value = v; writable = 0; clearable = 0 }

abbrev pub plain : ℕ → ℕ → ℕ → List Region → Endpoint
plain id status pin regions = record (plain_endpoint 0x1234 id 0xff0000) { pin = pin; status = status; regions = regions }

-- ---- the main board

abbrev pub first_endpoint : Endpoint
first_endpoint = plain 1 0x8000 1 (
    region 0 io_kind 32
    ∷ record { index = 1; kind = mem32 false; size = 4096; cells = replicate 64 (writable_cell 0) } ∷ [])

abbrev pub main_bridge : Bridge
main_bridge = plain_bridge 0x1234 2 0 io16 pref64

abbrev pub second_endpoint : Endpoint
second_endpoint = plain 3 0 0 (region 0 (mem32 false) 0x100000 ∷ region 1 io_kind 8 ∷ [])

abbrev pub third_endpoint : Endpoint
third_endpoint = plain 4 0 1 (
    record { index = 0; kind = mem64 true; size = 0x1000000; cells = replicate 16 (constant_cell 0xa5) } ∷ [])

-- the main board with a different bridge
abbrev pub main_board_with : Bridge → Board
main_board_with d =
    function_at (part 1 0 ∷ []) (endpoint first_endpoint)
    ∷ function_at (part 2 0 ∷ []) (bridge d)
    ∷ function_at (part 2 0 ∷ part 0 0 ∷ []) (endpoint second_endpoint)
    ∷ function_at (part 2 0 ∷ part 1 0 ∷ []) (endpoint third_endpoint) ∷ []

abbrev pub main_board : Board
main_board = main_board_with main_bridge

abbrev pub main_apertures : Apertures
main_apertures = record {
  io = aperture 0x1000 0xffff;
  mem = aperture 0xc0000000 0xdfffffff;
  pref = Some (aperture 0x400000000 0x4ffffffff);
}

-- ---- further boards

-- a bridge that forwards memory only
abbrev pub memory_bridge : Bridge
memory_bridge = plain_bridge 0x1234 5 0 no_io no_pref

-- 128 bridges on bus 0, and one behind each of them except the last
abbrev pub many_pairs : ℕ → Board
many_pairs zero = []
many_pairs (suc n) = many_pairs n ++
    function_at (part (n / 8) (n % 8) ∷ []) (bridge main_bridge)
    ∷ function_at (part (n / 8) (n % 8) ∷ part 0 0 ∷ []) (bridge main_bridge) ∷ []

abbrev pub many_bridges : Board
many_bridges = many_pairs 127 ++ function_at (part 15 7 ∷ []) (bridge main_bridge) ∷ []
