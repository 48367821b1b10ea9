-- Laws of the reported targets of a guest's accesses, and of the reported addresses of its regions: PCI Local Bus 3.0, chapter 6.2.5.
--     AccessLands      an access of any width has its effect at the reported place
--     NothingHit      if an access hits nothing, a read returns all ones and a write changes nothing
--     IsInside, HitIsInside      a hit at a port or an address is in an enabled region that is reported there
--     InsideIsHit      each address of an enabled reported region hits something
use Rattle.std.specs.Prelude.{◌≡◌, ◌≤◌, ◌<◌, ℕ, ◌+◌, ◌-◌, true, false, is_some, Some, None, Ok}
use Rattle.model_registers.specs.{Registers.{block, all_ones}, Declarations.HasLawfulRegions, Decoding.{Space, Function}}
use Rattle.model_guests.specs.{Accesses.{Target, Op, reads, writes, access, answered}, Slots.{Slots, slot_at, Landing, landing_from, fault_of, perform, effect}, Lone.{LoneGuest, answer, after_event}}
use Rattle.model_handoff.specs.{GuestRegions.{LiveBar, region_answer}, Located.{located, is_latch_access}}

-- every access except the one to the guest's CONFIG_ADDRESS
abbrev pub AccessLands : Type 0
AccessLands = (g : LoneGuest) (t : Target) (w : ℕ) (op : Op)
    → fault_of (record { target = t; width = w; op = op }) ≡ None → is_latch_access t w ≡ false
    → (answer g (access (record { target = t; width = w; op = op })) ≡ perform op w g.slots (located g t))
    × (after_event g (access (record { target = t; width = w; op = op }))
    ≡ record g { slots = effect op w g.slots (located g t) })

abbrev pub NothingHit : Type 0
NothingHit = (g : LoneGuest) (t : Target) (w v : ℕ) → located g t ≡ None → is_latch_access t w ≡ false
    → fault_of (record { target = t; width = w; op = reads }) ≡ None
    → (answer g (access (record { target = t; width = w; op = reads })) ≡ answered (all_ones w) w)
    × (after_event g (access (record { target = t; width = w; op = writes v })) ≡ g)

-- ---- regions

-- at most 32 slots, with functions of lawful declarations
abbrev pub HasLawfulFunctions : Slots → Type 0
HasLawfulFunctions slots = (n : ℕ) (f : Function) → slot_at slots n ≡ Some f → (n < 32) × HasLawfulRegions f.decl.regions

pub record IsInside (g : LoneGuest) (space : Space) (a : ℕ) (l : Landing) : Type 0 where
  pub register : ℕ
  pub region : LiveBar
  pub told : region_answer g l.slot register ≡ Ok region
  pub opened : region.is_open ≡ true
  pub space_is : region.space ≡ space
  pub low : region.first ≤ a
  pub high : a < region.first + region.size
  pub place : l.place ≡ block register (a - region.first)

abbrev pub HitIsInside : Type 0
HitIsInside = (g : LoneGuest) → HasLawfulFunctions g.slots → (space : Space) (a : ℕ) (l : Landing)
    → landing_from 0 space a g.slots ≡ Some l → IsInside g space a l

abbrev pub InsideIsHit : Type 0
InsideIsHit = (g : LoneGuest) (slot register : ℕ) (r : LiveBar) → region_answer g slot register ≡ Ok r → r.is_open ≡ true
    → (a : ℕ) → r.first ≤ a → a < r.first + r.size → is_some (landing_from 0 r.space a g.slots) ≡ true
