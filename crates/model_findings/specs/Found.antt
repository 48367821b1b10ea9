-- Whether configuration cycles find each function with the bus numbers in the bridges, in any register state:
-- PCI-to-PCI Bridge Architecture 1.2, chapter 3.
--     is_bridge_at bus f      the bridge above the bus
--     current_bus_number fs bus      the number of a bus: the Secondary Bus Number of that bridge, and 0 for bus 0
--     current_bdf fs p      the BDF of the function: its bus's number, and its device and function number
--     path_reached fs p      the path that a cycle to that BDF reaches
--     IsNumbered fs      each function is reached by its BDF
--     IsFoundOnce fs f, FoundOnce      then it is reached by that BDF only
--     scanned fs, ScanFindsAll      the functions that cycles to all BDFs reach, in scan order: all functions
--     NumbersOfBoard      a board that holds its own numbers is numbered, and its BDFs are those of the board
use Rattle.std.specs.{Prelude.{List, [], ◌∷◌, ◌≡◌, ℕ, ◌<◌, ◌/◌, ◌%◌, Bool, ◌&&◌, Option, Some, find, flat_map, map}, Option.{option_map, option_map_or, option_to_list}, List.range_with_len}
use Rattle.lists.specs.Elements.{Each, IsIn}
use Rattle.model_board.specs.{Paths.{Path, path_eq, parent, last_part, devfn_count}, Board.{is_bridge, Board, IsBoard}, State.BoardFunction, Cycles.{secondary_register, BusAddress, reached}}
use Rattle.model_set_up.specs.Reach.{HasNumbers, address_of}
use Rattle.model_findings.specs.Orderly.{IsStateOfBoard}

abbrev pub is_bridge_at : Path → BoardFunction → Bool
is_bridge_at bus f = is_bridge f.decl && path_eq f.path bus

-- [] means bus 0
abbrev pub current_bus_number : List BoardFunction → Path → ℕ
current_bus_number fs [] = 0
current_bus_number fs (p ∷ ps) =
    option_map_or (λ (f : BoardFunction). secondary_register f.file) (find (is_bridge_at (p ∷ ps)) fs) 0

abbrev pub current_bdf : List BoardFunction → Path → BusAddress
current_bdf fs p = record { bus = current_bus_number fs (parent p); part = last_part p }

abbrev pub path_reached : List BoardFunction → Path → Option Path
path_reached fs p = option_map (λ (f : BoardFunction). f.path) (reached fs (current_bdf fs p))

pub record IsNumbered (fs : List BoardFunction) : Type 0 where
  pub each : Each (λ f. path_reached fs f.path ≡ Some f.path) fs

pub record IsFoundOnce (fs : List BoardFunction) (f : BoardFunction) : Type 0 where
  pub by_address : reached fs (current_bdf fs f.path) ≡ Some f
  pub by_no_other : (at : BusAddress) → reached fs at ≡ Some f → at ≡ current_bdf fs f.path

abbrev pub FoundOnce : Type 0
FoundOnce = (fs : List BoardFunction) → IsStateOfBoard fs → IsNumbered fs → Each (IsFoundOnce fs) fs

-- 256 buses
abbrev pub address_at : ℕ → ℕ → BusAddress
address_at bus n = record { bus = bus; part = record { device = n / 8; function = n % 8 } }

abbrev pub scan_order : List BusAddress
scan_order = flat_map (λ bus. map (address_at bus) (range_with_len 0 devfn_count)) (range_with_len 0 256)

abbrev pub scanned : List BoardFunction → List BoardFunction
scanned fs = flat_map (λ at. option_to_list (reached fs at)) scan_order

-- bus numbers are below 256
abbrev pub ScanFindsAll : Type 0
ScanFindsAll = (fs : List BoardFunction) → IsStateOfBoard fs → IsNumbered fs
    → Each (λ f. secondary_register f.file < 256) fs → Each (λ f. IsIn f (scanned fs)) fs

abbrev pub NumbersOfBoard : Type 0
NumbersOfBoard = (b : Board) → IsBoard b → (fs : List BoardFunction) → HasNumbers b fs
    → IsNumbered fs × Each (λ f. current_bdf fs f.path ≡ address_of b f.path) fs
