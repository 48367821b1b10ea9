-- The bus numbers in the bridges during a scan, and the functions that a configuration cycle reaches then: PCI-to-PCI Bridge
-- Architecture 1.2, chapter 3.2.5. A scan visits the functions in path order, so when it gets to a path it has
-- visited the bridges before that path.
--     BusNumbers      Primary, Secondary and Subordinate Bus Number
--     board_numbers, open_numbers      the numbers of a bridge of the board; its numbers while the buses behind it are being scanned
--     scan_numbers b here p      the numbers of the bridge at p when the scan gets to the path `here`
--     scan_state, numbered_state      the board at that time, and after the scan, with all other cells at reset
--     IsNumbered      a lawful board that can be enumerated, with its bus numbers in the bridges and all other cells at reset
--     HasOwnNumbers      the bridges hold some bus numbers, and all other cells are at reset
--     HasScanNumbers      the bridges hold the numbers of `scan_numbers`; all other registers may hold anything
--     ReachedWhileScanning, NumbersOfScanState      with these numbers a cycle reaches its function; a scan state has these numbers
use Rattle.std.specs.Prelude.{List, [], ◌∷◌, ◌++◌, ◌≡◌, ℕ, ◌≤◌, if◌then◌else◌, map, find, IsTrue, ◌⊎◌}
use Rattle.lists.specs.Elements.{Each}
use Rattle.model_registers.specs.{Registers.{config, File, number}, EndpointTable.endpoint_reset, BridgeTable.{BridgeValues, no_bridge_values, bridge_file}}
use Rattle.model_board.specs.{Paths.{Part, Path, path_eq, path_before, is_ancestor_of}, Board.{Decl, endpoint, bridge, is_bridge, is_bridge_at, has_multifunction_bit, Board, IsBoard}, BusNumbers.{secondary, subordinate, bus_behind, bus_of, Enumerates}, State.{BoardFunction, State, row_at, state_of}, Cycles.{secondary_register, subordinate_register, reached}, Lawful.HasLawfulDecls, AtReset.board_at}

pub record BusNumbers : Type 0 where
  pub primary : ℕ
  pub secondary : ℕ
  pub subordinate : ℕ

abbrev pub no_numbers : BusNumbers
no_numbers = record { primary = 0; secondary = 0; subordinate = 0 }

abbrev pub board_numbers : Board → Path → BusNumbers
board_numbers b p = record { primary = bus_of b p; secondary = secondary b p; subordinate = subordinate b p }

-- a bridge whose secondary side is being scanned claims all cycles for its Secondary Bus Number and above
abbrev pub open_numbers : Board → Path → BusNumbers
open_numbers b p = record (board_numbers b p) { subordinate = 0xff }

-- the bridges above the path are being scanned; the other bridges before it are finished; those after it haven't been
-- visited
abbrev pub scan_numbers : Board → Path → Path → BusNumbers
scan_numbers b here p =
    if is_ancestor_of p here then open_numbers b p else (if path_before p here then board_numbers b p else no_numbers)

abbrev pub numbers_in : File → BusNumbers
numbers_in file = record {
  primary = number file (config 0x18) 1;
  secondary = secondary_register file;
  subordinate = subordinate_register file;
}

-- ---- whole states

abbrev pub with_numbers : BusNumbers → BridgeValues
with_numbers n = record no_bridge_values { primary = n.primary; secondary = n.secondary; subordinate = n.subordinate }

-- the cells at reset, except for these bus numbers in the bridges
abbrev pub numbered_file : Board → (Path → BusNumbers) → Path → Decl → File
numbered_file b numbers p (endpoint d) = endpoint_reset d (has_multifunction_bit b p)
numbered_file b numbers p (bridge d) = bridge_file d (has_multifunction_bit b p) (with_numbers (numbers p))

abbrev pub scan_state : Board → Path → State
scan_state b here = state_of b (numbered_file b (scan_numbers b here))

abbrev pub numbered_state : Board → State
numbered_state b = state_of b (numbered_file b (board_numbers b))

pub record IsNumbered (s : State) : Type 0 where
  pub board : IsBoard (board_at s.functions)
  pub declarations : HasLawfulDecls (board_at s.functions)
  pub few : Enumerates (board_at s.functions)
  pub registers : s ≡ numbered_state (board_at s.functions)

abbrev pub HasOwnNumbers : Board → State → Type 0
HasOwnNumbers b s = (numbers : Path → BusNumbers) × (s ≡ state_of b (numbered_file b numbers))

-- ---- reach

-- the board's functions, with these bus numbers in the bridges, whatever their other cells hold
pub record HasScanNumbers (b : Board) (here : Path) (fs : List BoardFunction) : Type 0 where
  pub rows : map row_at fs ≡ b
  pub numbers : Each (λ f. IsTrue (is_bridge f.decl) → numbers_in f.file ≡ scan_numbers b here f.path) fs

-- bus 0, or the bus behind a bridge
abbrev pub IsBus : Board → Path → Type 0
IsBus b bus = (bus ≡ []) ⊎ IsTrue (is_bridge_at b bus)

-- if the scan has visited at most 255 bridges, a cycle for a bus that it has visited reaches the function at that BDF,
-- if there is one
abbrev pub ReachedWhileScanning : Type 0
ReachedWhileScanning = (b : Board) → IsBoard b → (here : Path) → secondary b here ≤ 256 → (fs : List BoardFunction)
    → HasScanNumbers b here fs
    → (bus : Path) → IsBus b bus → IsTrue (path_before bus here) → (t : Part)
    → reached fs (record { bus = bus_behind b bus; part = t }) ≡ find (λ f. path_eq f.path (bus ++ t ∷ [])) fs

-- a scan state has the bus numbers of the scan
abbrev pub NumbersOfScanState : Type 0
NumbersOfScanState = (b : Board) (here : Path) → secondary b here ≤ 256
    → HasScanNumbers b here (scan_state b here).functions
