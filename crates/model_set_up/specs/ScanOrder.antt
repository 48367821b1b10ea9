-- The order in which a scan visits functions: devices 0 to 31 on a bus, functions 0 to 7 in a device, and everything
-- behind a bridge directly after the bridge. Software probes functions 1 to 7 only if function 0 says that its device is
-- a multifunction device: PCI Local Bus 3.0, chapter 6.2.1.
--     nth_part n      the nth device and function number on a bus; nth_part devfn_count is past the last
--     next_devfn_to_probe      the part of a bus that the scan probes next
--     met b here      the functions visited before a scan gets to a path
--     MeetsInPathOrder, GivesNumbersInPathOrder      this order is path order, and bus numbers are assigned in it
use Rattle.std.specs.Prelude.{[], ◌∷◌, ◌++◌, ◌≡◌, ℕ, ◌+◌, ◌/◌, ◌%◌, ◌&&◌, ◌==◌, if◌then◌else◌, not, filter, IsTrue, IsFalse}
use Rattle.lists.specs.Elements.{IsIn}
use Rattle.model_board.specs.{Paths.{Part, Path, path_eq, path_before, devfn_count}, Board.{is_bridge, Row, Board, stands_at, is_bridge_at, is_multifunction, IsBoard}, BusNumbers.{bridge_count, secondary, subordinate}}
use Rattle.model_set_up.specs.Scanning.{no_numbers, board_numbers, open_numbers, scan_numbers}

abbrev pub nth_part : ℕ → Part
nth_part n = record { device = n / 8; function = n % 8 }

abbrev pub on : Path → ℕ → Path
on bus n = bus ++ nth_part n ∷ []

-- functions 1 to 7 are probed if function 0 says that its device is a multifunction device
abbrev pub next_devfn_to_probe : Board → Path → ℕ → ℕ
next_devfn_to_probe b bus n =
    if n % 8 == 0 && not (stands_at b (on bus n) && is_multifunction b (on bus n)) then n + 8 else n + 1

abbrev pub met : Board → Path → Board
met b here = filter (λ r. path_before r.path here) b

pub record MeetsInPathOrder (b : Board) : Type 0 where
  pub first : met b (on [] 0) ≡ []
  pub last : met b (on [] devfn_count) ≡ b
  -- a function has been visited when the scan gets to the first path behind it
  pub behind : (r : Row) → IsIn r b → met b (on r.path 0) ≡ met b r.path ++ r ∷ []
  -- a path with an endpoint or without a function
  pub endpoint : (bus : Path) (n : ℕ) → (r : Row) → IsIn r b → r.path ≡ on bus n → IsFalse (is_bridge r.decl)
      → met b (on bus (next_devfn_to_probe b bus n)) ≡ met b (on bus n) ++ r ∷ []
  pub none : (bus : Path) (n : ℕ) → IsFalse (stands_at b (on bus n))
      → met b (on bus (next_devfn_to_probe b bus n)) ≡ met b (on bus n)
  -- returning from the end of the bus behind a bridge
  pub back : (bus : Path) (n : ℕ) → IsTrue (is_bridge_at b (on bus n))
      → met b (on bus (next_devfn_to_probe b bus n)) ≡ met b (on (on bus n) devfn_count)

pub record GivesNumbersInPathOrder (b : Board) : Type 0 where
  pub next_number : (here : Path) → secondary b here ≡ 1 + bridge_count (met b here)
  pub last_number : (p : Path) → IsTrue (is_bridge_at b p) → secondary b (on p devfn_count) ≡ 1 + subordinate b p
  pub first : (q : Path) → IsTrue (is_bridge_at b q) → scan_numbers b (on [] 0) q ≡ no_numbers
  pub last : (q : Path) → IsTrue (is_bridge_at b q) → scan_numbers b (on [] devfn_count) q ≡ board_numbers b q
  pub behind : (p q : Path) → scan_numbers b (on p 0) q ≡ (if path_eq q p then open_numbers b q else scan_numbers b p q)
  pub no_bridge : (bus : Path) (n : ℕ) → IsFalse (is_bridge_at b (on bus n)) → (q : Path) → IsTrue (is_bridge_at b q)
      → scan_numbers b (on bus (next_devfn_to_probe b bus n)) q ≡ scan_numbers b (on bus n) q
  pub back : (bus : Path) (n : ℕ) → IsTrue (is_bridge_at b (on bus n)) → (q : Path) → IsTrue (is_bridge_at b q)
      → scan_numbers b (on bus (next_devfn_to_probe b bus n)) q
      ≡ (if path_eq q (on bus n) then board_numbers b q else scan_numbers b (on (on bus n) devfn_count) q)

abbrev pub ScanMeetsInPathOrder : Type 0
ScanMeetsInPathOrder = (b : Board) → IsBoard b → MeetsInPathOrder b

abbrev pub ScanGivesNumbersInPathOrder : Type 0
ScanGivesNumbersInPathOrder = (b : Board) → IsBoard b → GivesNumbersInPathOrder b
