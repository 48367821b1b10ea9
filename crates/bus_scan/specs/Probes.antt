-- The value that software reads after writing all ones to a register: PCI Local Bus 3.0, chapter 6.2.5.1; PCI-to-PCI Bridge
-- Architecture 1.2, chapters 3.2.5.6 and 3.2.5.9.
--     mask_shown      the enabled bytes of a register after all ones are written to them
--     TakesBack      writing back the value read before restores all registers
--     decl_reached, IsEndpointReached, IsBridgeReached      the declaration of the function that a BDF reaches
--     regions_reached, io_reached, pref_reached      its regions, or the decode modes of its windows
use Rattle.std.specs.{Prelude.{◌≡◌, List, [], ℕ, Bool, Option, Some, option_map}, Option.option_map_or}
use Rattle.model_registers.specs.Declarations.{Region, Endpoint, Bridge, IoDecode, no_io, PrefDecode, no_pref}
use Rattle.model_board.specs.{Board.{Decl, endpoint, bridge}, State.{BoardFunction, State}, Cycles.{BusAddress, reached}, Ports.{config_reply, after_config_write}}

abbrev pub with_ones : List BoardFunction → BusAddress → ℕ → List Bool → List BoardFunction
with_ones fs at off enables = after_config_write fs at off enables 0xffffffff

abbrev pub mask_shown : List BoardFunction → BusAddress → ℕ → List Bool → ℕ
mask_shown fs at off enables = config_reply (with_ones fs at off enables) at off enables

pub record TakesBack (s : State) (at : BusAddress) (off : ℕ) (enables : List Bool) : Type 0 where
  pub latch : s.latch ≡ 0
  pub functions : let before = config_reply s.functions at off enables in
      after_config_write (with_ones s.functions at off enables) at off enables before ≡ s.functions

abbrev pub decl_reached : List BoardFunction → BusAddress → Option Decl
decl_reached fs at = option_map (λ (f : BoardFunction). f.decl) (reached fs at)

abbrev pub IsEndpointReached : List BoardFunction → BusAddress → Type 0
IsEndpointReached fs at = (d : Endpoint) × (decl_reached fs at ≡ Some (endpoint d))

abbrev pub IsBridgeReached : List BoardFunction → BusAddress → Type 0
IsBridgeReached fs at = (d : Bridge) × (decl_reached fs at ≡ Some (bridge d))

abbrev pub regions_in : Decl → List Region
regions_in (endpoint d) = d.regions
regions_in (bridge d) = []

abbrev pub io_in : Decl → IoDecode
io_in (endpoint d) = no_io
io_in (bridge d) = d.io

abbrev pub pref_in : Decl → PrefDecode
pref_in (endpoint d) = no_pref
pref_in (bridge d) = d.pref

abbrev pub regions_reached : List BoardFunction → BusAddress → List Region
regions_reached fs at = option_map_or regions_in (decl_reached fs at) []

abbrev pub io_reached : List BoardFunction → BusAddress → IoDecode
io_reached fs at = option_map_or io_in (decl_reached fs at) no_io

abbrev pub pref_reached : List BoardFunction → BusAddress → PrefDecode
pref_reached fs at = option_map_or pref_in (decl_reached fs at) no_pref
