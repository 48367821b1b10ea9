-- With the board's bus numbers in its bridges, a configuration cycle reaches the function that its BDF names:
-- PCI-to-PCI Bridge Architecture 1.2, chapter 3.
--     HasNumbers b fs      the board's functions, with its bus numbers in the bridges
--     SetUpHasNumbers      set-up leaves the board in such a state
--     address_of b p      the BDF of a path
--     ReachedByNumbers, OnlyNamed      the BDF of a path reaches its function, and no other BDF does
--     OneRoute      at most one route leads to each BDF
use Rattle.std.specs.Prelude.{ℕ, List, [], ◌≡◌, Some, map, IsTrue}
use Rattle.lists.specs.Elements.{Each}
use Rattle.model_board.specs.{Paths.{Part, Path, last_part}, Board.{is_bridge, Board, stands_at, IsBoard}, BusNumbers.{secondary, subordinate, bus_of, Enumerates}, State.{BoardFunction, row_at}, Cycles.{secondary_register, subordinate_register, BusAddress, is_route, ends_in, reached}}
use Rattle.model_registers.specs.Apertures.{Apertures}
use Rattle.model_set_up.specs.SetUp.{set_up_state}

-- the board's functions, with its bus numbers in the bridges, whatever their other cells hold
pub record HasNumbers (b : Board) (fs : List BoardFunction) : Type 0 where
  pub rows : map row_at fs ≡ b
  pub numbers :
      Each (λ f. IsTrue (is_bridge f.decl)
      → (secondary_register f.file ≡ secondary b f.path) × (subordinate_register f.file ≡ subordinate b f.path)) fs

abbrev pub SetUpHasNumbers : Type 0
SetUpHasNumbers = (b : Board) (a : Apertures) → Enumerates b → HasNumbers b (set_up_state b a).functions

abbrev pub address_of : Board → Path → BusAddress
address_of b p = record { bus = bus_of b p; part = last_part p }

abbrev pub ReachedByNumbers : Type 0
ReachedByNumbers = (b : Board) → IsBoard b → (fs : List BoardFunction) → HasNumbers b fs → (p : Path)
    → IsTrue (stands_at b p)
    → (f : BoardFunction) × (reached fs (address_of b p) ≡ Some f) × (f.path ≡ p)

-- only a function's own BDF reaches it
abbrev pub OnlyNamed : Type 0
OnlyNamed = (b : Board) → IsBoard b → (fs : List BoardFunction) → HasNumbers b fs
    → (at : BusAddress) (f : BoardFunction) → reached fs at ≡ Some f → at ≡ address_of b f.path

-- whatever the bridges hold, at most one route leads to a device and function on a bus
abbrev pub OneRoute : Type 0
OneRoute = (fs : List BoardFunction) (n : ℕ) (t : Part) (p q : Path) → IsTrue (is_route fs n [] p)
    → IsTrue (is_route fs n [] q) → IsTrue (ends_in p t) → IsTrue (ends_in q t) → p ≡ q
