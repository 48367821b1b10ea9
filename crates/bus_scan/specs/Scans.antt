-- The state of a running scan: PCI-to-PCI Bridge Architecture 1.2, chapter 3.2.5.
--     IsAt b here s rows last      the scan's state when it gets to a path
--     ComesTo b here h e      the same for a host and the program's record
--     OnBus b bus number      the bus that is scanned
--     IsFound b bus number n r seen      a function at a BDF, and its identification
--     IsBridgeThere b bus number n r at      a bridge at a BDF, and the BDF
--     IsRefused b f s      the reason why the scan stops early, and the state that it leaves
use Rattle.std.specs.Prelude.{List, ◌≡◌, ℕ, ◌+◌, ◌<◌, ◌⊎◌, Option, Some, None, map, if◌then◌else◌, IsTrue}
use Rattle.lists.specs.Elements.{IsIn}
use Rattle.model_board.specs.{Paths.{Path, path_eq}, Board.{Decl, endpoint, bridge, is_bridge, Row, Board, has_multifunction_bit, IsBoard}, BusNumbers.{secondary, bus_behind, bus_of, Enumerates}, State.State, Cycles.BusAddress, Lawful.HasLawfulDecls}
use Rattle.model_set_up.specs.{FunctionTable.{BusRange, TableRow, met_decl}, Scanning.{BusNumbers, scan_numbers, scan_state, IsBus, HasOwnNumbers}, ScanOrder.{nth_part, on, met}}
use Rattle.host_bridge.specs.HostState.{HostState}
use Rattle.bus_scan.specs.{declared.{enumeration.Enumeration.Enumeration, fault.Fault.{Fault, TheVariants.{Buses, Memory}}, probed_header.ProbedHeader.ProbedHeader}, Sights.seen_of}

-- a bridge whose secondary side is being scanned has the numbers in its registers
abbrev pub range_of_numbers : BusNumbers → Decl → Option BusRange
range_of_numbers n (endpoint d) = None
range_of_numbers n (bridge d) = Some (record { first = n.secondary; last = n.subordinate })

abbrev pub met_row : Board → (Path → BusNumbers) → Row → TableRow
met_row b numbers r = record {
  path = r.path;
  bus = bus_of b r.path;
  behind = range_of_numbers (numbers r.path) r.decl;
  decl = met_decl r.decl;
}

pub record IsAt (b : Board) (here : Path) (s : State) (rows : List TableRow) (last : ℕ) : Type 0 where
  pub state : s ≡ scan_state b here
  pub rows_met : rows ≡ map (met_row b (scan_numbers b here)) (met b here)
  pub last_given : secondary b here ≡ last + 1
  pub last_fits : last < 256

abbrev pub ComesTo : Board → Path → HostState → Enumeration → Type 0
ComesTo b here h e = IsAt b here h.state e.rows.items e.last

pub record OnBus (b : Board) (bus : Path) (number : ℕ) : Type 0 where
  pub board : IsBoard b
  pub declarations : HasLawfulDecls b
  pub there : IsBus b bus
  pub named : number ≡ bus_behind b bus

pub record StandsAt (b : Board) (p : Path) (r : Row) : Type 0 where
  pub member : IsIn r b
  pub path : r.path ≡ p

pub record IsFound (b : Board) (bus : Path) (number n : ℕ) (r : Row) (seen : ProbedHeader) : Type 0 where
  pub on_bus : OnBus b bus number
  pub stands : StandsAt b (on bus n) r
  pub shows : seen ≡ seen_of (has_multifunction_bit b (on bus n)) r.decl

pub record IsBridgeThere (b : Board) (bus : Path) (number n : ℕ) (r : Row) (at : BusAddress) : Type 0 where
  pub on_bus : OnBus b bus number
  pub stands : StandsAt b (on bus n) r
  pub is_bridge_there : IsTrue (is_bridge r.decl)
  pub address : at ≡ record { bus = number; part = nth_part n }

pub record IsRefused (b : Board) (f : Fault) (s : State) : Type 0 where
  pub cause : (f ≡ Memory) ⊎ ((f ≡ Buses) × (Enumerates b → ⊥))
  pub registers : HasOwnNumbers b s

-- the same numbers, except for those of one bridge
abbrev pub given : Path → BusNumbers → (Path → BusNumbers) → Path → BusNumbers
given p n numbers q = if path_eq q p then n else numbers q
