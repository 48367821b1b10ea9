-- The windows in a bridge's window registers after set-up: PCI-to-PCI Bridge Architecture 1.2, chapters 3.2.5.6 to
-- 3.2.5.10 and 4.
--     ClosedWindows      a window without items forwards no address, in any decode mode
--     NamedWindows      whole units within the address range of the decode mode are read back
--     SetUpWindows      each bridge forwards exactly the window that placement assigned to it
use Rattle.std.specs.Prelude.{List, [], ◌∷◌, ◌≡◌, ℕ, ◌-◌, ◌+◌, ◌%◌, Bool, ◌<◌, ◌≤◌, ◌^◌, Option, Some, None, IsTrue, ⊤}
use Rattle.lists.specs.Elements.{Each}
use Rattle.model_registers.specs.{Declarations.{IoDecode, no_io, io16, io32, PrefDecode, no_pref, pref32, pref64, Bridge}, BridgeTable.{BridgeValues, bridge_file}, Apertures.{IsLawfulApertures, Apertures}}
use Rattle.model_board.specs.{Paths.Path, Board.{Decl, endpoint, bridge, Board, IsBoard}, Windows.{Window, io_window, mem_window, pref_window}, Lawful.HasLawfulDecls}
use Rattle.model_set_up.specs.{Pools.{Pool, io_pool, mem_pool, pref_pool, unit_of, has_io_paths}, Placement.{PlacementItem, need, items_on, fits, bus_first}, SetUp.{window_of, set_up_file}}

-- the values that set-up leaves for a window without items: the base in the register's last unit, and the limit 0
abbrev pub closed_io : Window
closed_io = window_of (unit_of io_pool) 0xf 0 []

abbrev pub closed_memory : Window
closed_memory = window_of (unit_of mem_pool) 0xfff 0 []

-- with these registers, whatever else set-up wrote
pub record Closes (d : Bridge) (multifunction : Bool) (r : BridgeValues) : Type 0 where
  pub io : r.io ≡ closed_io → io_window d.io (bridge_file d multifunction r) ≡ None
  pub mem : r.mem ≡ closed_memory → mem_window (bridge_file d multifunction r) ≡ None
  pub pref : r.pref ≡ closed_memory → pref_window d.pref (bridge_file d multifunction r) ≡ None

abbrev pub ClosedWindows : Type 0
ClosedWindows = (d : Bridge) (multifunction : Bool) (r : BridgeValues) → Closes d multifunction r

-- the end of the addresses that a decode mode can express; 0 without a window
abbrev pub io_reach : IoDecode → ℕ
io_reach no_io = 0
io_reach io16 = 2 ^ 16
io_reach io32 = 2 ^ 32

abbrev pub pref_reach : PrefDecode → ℕ
pref_reach no_pref = 0
pref_reach pref32 = 2 ^ 32
pref_reach pref64 = 2 ^ 64

-- whole units, at least one, below an end
pub record IsWhole (unit reach : ℕ) (s : Window) : Type 0 where
  pub first : s.first % unit ≡ 0
  pub end : (s.last + 1) % unit ≡ 0
  pub in_order : s.first ≤ s.last
  pub reached : s.last < reach

pub record Names (d : Bridge) (multifunction : Bool) (r : BridgeValues) : Type 0 where
  pub io : IsWhole (unit_of io_pool) (io_reach d.io) r.io → io_window d.io (bridge_file d multifunction r) ≡ Some r.io
  pub mem : IsWhole (unit_of mem_pool) (2 ^ 32) r.mem → mem_window (bridge_file d multifunction r) ≡ Some r.mem
  pub pref : IsWhole (unit_of pref_pool) (pref_reach d.pref) r.pref
      → pref_window d.pref (bridge_file d multifunction r) ≡ Some r.pref

abbrev pub NamedWindows : Type 0
NamedWindows = (d : Bridge) (multifunction : Bool) (r : BridgeValues) → Names d multifunction r

-- the window of a bus that starts at `first`; none if the bus has no items
abbrev pub window_over : ℕ → ℕ → List PlacementItem → Option Window
window_over unit first [] = None
window_over unit first (i ∷ is) = Some (record { first = first; last = first + need unit (i ∷ is) - 1 })

-- the window that placement assigns to the bridge at p
abbrev pub placed_window : Board → Apertures → Pool → Path → Option Window
placed_window b a pool p = window_over (unit_of pool) (bus_first b a pool p) (items_on b a pool p)

pub record ForwardsPlaced (b : Board) (a : Apertures) (p : Path) (d : Bridge) : Type 0 where
  pub io : io_window d.io (set_up_file b a p (bridge d)) ≡ placed_window b a io_pool p
  pub mem : mem_window (set_up_file b a p (bridge d)) ≡ placed_window b a mem_pool p
  pub pref : pref_window d.pref (set_up_file b a p (bridge d)) ≡ placed_window b a pref_pool p

abbrev pub HasPlacedWindows : Board → Apertures → Path → Decl → Type 0
HasPlacedWindows b a p (endpoint d) = ⊤
HasPlacedWindows b a p (bridge d) = ForwardsPlaced b a p d

abbrev pub SetUpWindows : Type 0
SetUpWindows = (b : Board) (a : Apertures) → IsBoard b → HasLawfulDecls b → IsLawfulApertures a
    → IsTrue (has_io_paths b) → ((pool : Pool) → IsTrue (fits b a pool))
    → Each (λ r. HasPlacedWindows b a r.path r.decl) b
