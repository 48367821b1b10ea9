-- The report on a function of the board, given the current registers and guests: PCI Local Bus 3.0, chapter 6;
-- PCI-to-PCI Bridge Architecture 1.2, chapter 3.
--     Identity, identity_now      the vendor and the type of a function, from its identity registers
--     Assignment, seat_of gs p      the guest's index and the slot that hold the function at a path
--     LiveFunction, function_now s gs      a function with its BDF, its identity, its regions or windows, and its slot
--     function_nth s gs i      the function at an index, in path order
--     slot_answer s gs name n      the function in a slot of a guest, or the error number of a refusal
use Rattle.std.specs.{Prelude.{[], ◌∷◌, ℕ, ◌+◌, Bool, false, if◌then◌else◌, nat_le, Option, None, Result, Err, find, position, option_map, option_and_then, slice_get}, Option.{option_map_or, ok_or}}
use Rattle.lists.specs.Elements.{first_of_two}
use Rattle.model_registers.specs.Registers.{config, File, number}
use Rattle.model_board.specs.{Paths.{Path, path_eq}, Board.{Decl, endpoint, bridge}, State.{BoardFunction, State}, Cycles.BusAddress, Routing.{Ranges, ranges_of}}
use Rattle.model_findings.specs.Found.{current_bdf}
use Rattle.model_guests.specs.{Text.Text, Guests.{GuestNow, GuestsNow, path_in}}

pub record Identity : Type 0 where
  pub vendor : ℕ
  pub device : ℕ
  pub revision : ℕ
  pub class : ℕ
  pub subvendor : ℕ
  pub subsystem : ℕ

-- an endpoint's only; a bridge has none, and reports 0
abbrev pub subsystem_id_or_zero : Decl → File → ℕ → ℕ
subsystem_id_or_zero (endpoint d) file off = number file (config off) 2
subsystem_id_or_zero (bridge d) file off = 0

abbrev pub identity_now : Decl → File → Identity
identity_now d file = record {
  vendor = number file (config 0) 2;
  device = number file (config 2) 2;
  revision = number file (config 8) 1;
  class = number file (config 9) 3;
  subvendor = subsystem_id_or_zero d file 0x2c;
  subsystem = subsystem_id_or_zero d file 0x2e;
}

-- ---- seats

pub record Assignment : Type 0 where
  pub guest : ℕ
  pub slot : ℕ

abbrev pub is_there : Path → Option Path → Bool
is_there p q = option_map_or (λ (x : Path). path_eq x p) q false

abbrev pub seat_in : Path → ℕ → GuestNow → Option Assignment
seat_in p i g = option_map (λ (n : ℕ). record { guest = i; slot = n }) (position (is_there p) g.paths)

-- i is the index of the first guest in the list
abbrev pub seat_from : Path → ℕ → GuestsNow → Option Assignment
seat_from p i [] = None
seat_from p i (g ∷ gs) = first_of_two (seat_in p i g) (seat_from p (i + 1) gs)

abbrev pub seat_of : GuestsNow → Path → Option Assignment
seat_of gs p = seat_from p 0 gs

-- ---- functions

-- the ranges are the regions of an endpoint or the windows of a bridge, at the addresses in the board's registers
pub record LiveFunction : Type 0 where
  pub path : Path
  pub at : BusAddress
  pub identity : Identity
  pub ranges : Ranges
  pub seat : Option Assignment

abbrev pub function_now : State → GuestsNow → BoardFunction → LiveFunction
function_now s gs f = record {
  path = f.path;
  at = current_bdf s.functions f.path;
  identity = identity_now f.decl f.file;
  ranges = ranges_of f.file f.decl;
  seat = seat_of gs f.path;
}

abbrev pub function_nth : State → GuestsNow → ℕ → Option LiveFunction
function_nth s gs i = option_map (function_now s gs) (slice_get s.functions i)

abbrev pub function_at : State → GuestsNow → Path → Option LiveFunction
function_at s gs p = option_map (function_now s gs) (find (λ (f : BoardFunction). path_eq f.path p) s.functions)

-- the checks in order, as for a raise: the slot's number, then the slot's function
abbrev pub slot_answer : State → GuestsNow → Text → ℕ → Result LiveFunction ℕ
slot_answer s gs name n =
    if nat_le 32 n then Err 303 else ok_or (option_and_then (function_at s gs) (path_in gs name n)) 601
