-- After set-up the window registers of each bridge name what placement put behind it.
use Rattle.std.{proofs.{Common.{◌≡◌, ℕ, ◌+◌, ◌-◌, ◌*◌, ◌/◌, ◌%◌, ◌^◌, ◌≤◌, ◌<◌, Bool, true, Option, Some, None, refl, sym, subst, arith, div-add-mod', lit<}, lemmas.Bool.le-leb}, specs.Prelude.nat_le}
use Rattle.model_registers.specs.{Declarations.{IoDecode, io32, PrefDecode, no_pref, pref32, pref64, Bridge}, BridgeTable.{BridgeValues, bridge_file}}
use Rattle.model_board.specs.Windows.{Window, window, io_window, pref_window}
use Rattle.model_set_up.{specs.{WindowLaws.{closed_io, closed_memory, Closes, ClosedWindows, io_reach, pref_reach, IsWhole, NamedWindows}, Pools.{has_io, has_pref}}, proofs.SetUpRegisters.{io_reads, mem_reads, pref_reads_low, pref_reads}}

-- ---- windows

-- addresses of whole units keep their bits
whole_first : (unit n : ℕ) → n % unit ≡ 0 → n / unit * unit ≡ n
whole_first unit n h = omega (arith, div-add-mod' n unit)

in_order : (m n : ℕ) → m ≤ n → window m n ≡ Some (record { first = m; last = n })
in_order m n h = let le : nat_le m n ≡ true = le-leb m n h in rw le

abbrev named_by : ℕ → Window → Option Window
named_by unit s = window (s.first / unit * unit) (s.last / unit * unit + (unit - 1))

io_named : (s : Window) (reach : ℕ) → IsWhole (2 ^ 12) reach s → named_by (2 ^ 12) s ≡ Some s
io_named s reach h = grind (arith, whole_first, in_order)

memory_named : (s : Window) (reach : ℕ) → IsWhole (2 ^ 20) reach s → named_by (2 ^ 20) s ≡ Some s
memory_named s reach h = grind (arith, whole_first, in_order)

-- ---- the registers of I/O with 32 address bits, above 64 KB too

io_reads_wide : (d : Bridge) (pref : PrefDecode) (multifunction : Bool) (r : BridgeValues) → r.io.first < 2 ^ 32 → r.io.last < 2 ^ 32
    → io_window io32 (bridge_file (record d { io = io32; pref = pref }) multifunction r) ≡ named_by (2 ^ 12) r.io
io_reads_wide d pref multifunction r f l = grind arith

-- a closed window lies within the reach of each decode, and its registers name no window
record IsShut (unit reach : ℕ) (s : Window) : Type 0 where
  first : s.first < reach
  last : s.last < reach
  shut : named_by unit s ≡ None

io_shut : (s : Window) → s ≡ closed_io → IsShut (2 ^ 12) (2 ^ 16) s
io_shut s e = subst (IsShut (2 ^ 12) (2 ^ 16)) (sym e) (record { first = lit< tt; last = lit< tt; shut = refl })

memory_shut : (s : Window) → s ≡ closed_memory → IsShut (2 ^ 20) (2 ^ 32) s
memory_shut s e = subst (IsShut (2 ^ 20) (2 ^ 32)) (sym e) (record { first = lit< tt; last = lit< tt; shut = refl })

module _ (d : Bridge) (multifunction : Bool) (r : BridgeValues) where
  io_closes : (k : IoDecode) → (has_io k ≡ true → io_window k (bridge_file d multifunction r) ≡ None) → io_window k (bridge_file d multifunction r) ≡ None
  io_closes k h = grind arith

  pref_closes : (k : PrefDecode) → (has_pref k ≡ true → pref_window k (bridge_file d multifunction r) ≡ None) → pref_window k (bridge_file d multifunction r) ≡ None
  pref_closes k h = grind arith

  closes : Closes d multifunction r
  closes =
      grind (arith, io_shut r.io, io_closes d.io, io_reads d multifunction r, memory_shut r.mem, mem_reads d multifunction r, memory_shut r.pref, pref_closes d.pref, pref_reads_low d multifunction r)

-- the same of the bridge's parts, one by one
module _ (d : Bridge) (multifunction : Bool) (r : BridgeValues) where
  abbrev bridge_with : IoDecode → PrefDecode → Bridge
  bridge_with k m = record d { io = k; pref = m }

  io_by : (k : IoDecode) (m : PrefDecode) → IsWhole (2 ^ 12) (io_reach k) r.io → io_window k (bridge_file (bridge_with k m) multifunction r) ≡ named_by (2 ^ 12) r.io
  io_by k m h = grind (arith, io_reads, io_reads_wide)

  pref_by : (k : IoDecode) (m : PrefDecode) → IsWhole (2 ^ 20) (pref_reach m) r.pref → pref_window m (bridge_file (bridge_with k m) multifunction r) ≡ named_by (2 ^ 20) r.pref
  pref_by k no_pref h = absurd (omega (arith, h.reached))
  pref_by k pref32 h = pref_reads_low (bridge_with k pref32) multifunction r refl (omega (arith, h.in_order, h.reached)) h.reached
  pref_by k pref64 h = pref_reads (bridge_with k pref64) multifunction r refl (omega (arith, h.in_order, h.reached)) h.reached

pub closed_windows_forward_nothing : ClosedWindows
closed_windows_forward_nothing d multifunction r = closes d multifunction r

pub windows_named : NamedWindows
windows_named d multifunction r =
    grind (arith, io_by d multifunction r d.io d.pref, io_named r.io (io_reach d.io), mem_reads d multifunction r, memory_named r.mem (2 ^ 32), pref_by d multifunction r d.io d.pref, memory_named r.pref (pref_reach d.pref))
