-- The facts about a board's functions that software finds by configuration cycles: PCI Local Bus 3.0, chapters 6.2.1 and 6.2.5.1;
-- PCI-to-PCI Bridge Architecture 1.2, chapter 3.2.
--     met_decl, found_decl      the parts of a declaration that a scan finds, and that sizing finds after it; all other parts are 0 or absent
--     BusRange, TableRow      the bus numbers behind a bridge; a function with the number of its bus
--     scanned_table, sized_table      the table of a board's functions after a scan, and after sizing
--     board_in      a table read as a board that contains only what was found
--     PlacedAsFound      placement uses nothing else of a board
use Rattle.std.specs.Prelude.{List, ◌≡◌, ℕ, Option, Some, None, map}
use Rattle.model_registers.specs.{Declarations.{Endpoint, plain_endpoint, plain_bridge, no_io, no_pref, Bridge}, OwnCopies.bare, Apertures.Apertures}
use Rattle.model_board.specs.{Paths.Path, Board.{Decl, endpoint, bridge, Row, Board, IsBoard}, BusNumbers.{secondary, subordinate, bus_of, Enumerates}, Lawful.HasLawfulDecls}
use Rattle.model_set_up.specs.SetUpWrites.{planned, placement_rules}

-- identity and pin
abbrev pub met_endpoint : Endpoint → Endpoint
met_endpoint d = record (plain_endpoint d.vendor d.device 0) { pin = d.pin }

abbrev pub met_bridge : Bridge → Bridge
met_bridge d = plain_bridge d.vendor d.device 0 no_io no_pref

abbrev pub met_decl : Decl → Decl
met_decl (endpoint d) = endpoint (met_endpoint d)
met_decl (bridge d) = bridge (met_bridge d)

-- also with kinds and sizes, or with the decoding of a bridge's windows
abbrev pub found_decl : Decl → Decl
found_decl (endpoint d) = endpoint (record (met_endpoint d) { regions = map bare d.regions })
found_decl (bridge d) = bridge (record (met_bridge d) { io = d.io; pref = d.pref })

-- Secondary and Subordinate Bus Number
pub record BusRange : Type 0 where
  pub first : ℕ
  pub last : ℕ

pub record TableRow : Type 0 where
  pub path : Path
  pub bus : ℕ
  pub behind : Option BusRange
  pub decl : Decl

abbrev pub range_behind : Board → Path → Decl → Option BusRange
range_behind b p (endpoint d) = None
range_behind b p (bridge d) = Some (record { first = secondary b p; last = subordinate b p })

abbrev pub table_row : Board → (Decl → Decl) → Row → TableRow
table_row b found r =
    record { path = r.path; bus = bus_of b r.path; behind = range_behind b r.path r.decl; decl = found r.decl }

abbrev pub scanned_table : Board → List TableRow
scanned_table b = map (table_row b met_decl) b

abbrev pub sized_table : Board → List TableRow
sized_table b = map (table_row b found_decl) b

abbrev pub board_in : List TableRow → Board
board_in rows = map (λ (r : TableRow). record { path = r.path; decl = r.decl }) rows

-- ---- placement

-- a lawful board as found is a lawful board with the same table, the same plan and the same reasons for a refusal,
-- and it can be enumerated if the original board can
pub record IsPlacedAsFound (b : Board) : Type 0 where
  pub board : IsBoard (board_in (sized_table b))
  pub declarations : HasLawfulDecls (board_in (sized_table b))
  pub few : Enumerates b → Enumerates (board_in (sized_table b))
  pub table : sized_table (board_in (sized_table b)) ≡ sized_table b
  pub plan : (a : Apertures) → planned (board_in (sized_table b)) a ≡ planned b a
  pub rules : (a : Apertures) → placement_rules (board_in (sized_table b)) a ≡ placement_rules b a

abbrev pub PlacedAsFound : Type 0
PlacedAsFound = (b : Board) → IsBoard b → HasLawfulDecls b → IsPlacedAsFound b
