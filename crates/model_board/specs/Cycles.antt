-- The function that a configuration cycle reaches, in any register state: PCI-to-PCI Bridge Architecture 1.2, chapter 3.
--     secondary_register, subordinate_register      the bus numbers in a bridge's registers
--     taker      the bridge on a bus that claims a cycle for another bus
--     is_route      the bridges that a cycle passes through
--     reached      the function that a cycle to a bus, device and function number reaches
use Rattle.std.specs.{Prelude.{List, [], ◌∷◌, ℕ, Bool, true, false, ◌&&◌, ◌==◌, if◌then◌else◌, ◌++◌, not, nat_le, Option, find}, Option.option_map_or}
use Rattle.model_registers.specs.Registers.{config, File, number}
use Rattle.model_board.specs.{Paths.{Part, Path, part_eq, path_eq, parent}, Board.is_bridge, State.BoardFunction}

abbrev pub secondary_register : File → ℕ
secondary_register file = number file (config 0x19) 1

abbrev pub subordinate_register : File → ℕ
subordinate_register file = number file (config 0x1a) 1

abbrev pub covers : ℕ → BoardFunction → Bool
covers n f = is_bridge f.decl && nat_le (secondary_register f.file) n && nat_le n (subordinate_register f.file)

-- the first bridge on a bus that claims a cycle for bus n; [] means bus 0
abbrev pub taker : List BoardFunction → Path → ℕ → Option BoardFunction
taker fs bus n = find (λ f. path_eq (parent f.path) bus && covers n f) fs

-- the part names the bridge on its bus that claims the cycle; the bridge does or doesn't lead directly to bus n
abbrev pub takes : List BoardFunction → Path → ℕ → Part → Bool → Bool
takes fs bus n p ends =
    option_map_or
    (λ (f : BoardFunction). path_eq f.path (bus ++ p ∷ [])
    && (if secondary_register f.file == n then ends else not ends))
    (taker fs bus n) false

-- a cycle for bus n, started on the bus `above`, passes down these bridges to the device and function of the last part
abbrev pub is_route : List BoardFunction → ℕ → Path → Path → Bool
is_route fs n above [] = false
is_route fs n above (p ∷ []) = false
is_route fs n above (p ∷ q ∷ []) = takes fs above n p true
is_route fs n above (p ∷ q ∷ r ∷ ps) = takes fs above n p false && is_route fs n (above ++ p ∷ []) (q ∷ r ∷ ps)

abbrev pub ends_in : Path → Part → Bool
ends_in [] t = false
ends_in (p ∷ []) t = part_eq p t
ends_in (p ∷ q ∷ ps) t = ends_in (q ∷ ps) t

-- the function that a type 0 cycle on bus 0 reaches, and that a type 1 cycle for bus n reaches from there
abbrev pub reached_type0 : List BoardFunction → Part → Option BoardFunction
reached_type0 fs t = find (λ f. path_eq f.path (t ∷ [])) fs

abbrev pub reached_type1 : List BoardFunction → ℕ → Part → Option BoardFunction
reached_type1 fs n t = find (λ f. ends_in f.path t && is_route fs n [] f.path) fs

pub record BusAddress : Type 0 where
  pub bus : ℕ
  pub part : Part

-- bus 0 gets a type 0 cycle, and any other bus a type 1 cycle
abbrev pub reached : List BoardFunction → BusAddress → Option BoardFunction
reached fs at = if at.bus == 0 then reached_type0 fs at.part else reached_type1 fs at.bus at.part
