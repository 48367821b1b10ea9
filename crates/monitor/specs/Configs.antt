-- The configuration space of a function in a slot, as the host shows it.
--     IsSeen      the bytes of which the guest has no copy are those of its file
--     IsHolding      a slot with a function
--     WritesOwn      the slots after a write of that function's own copies
--     HoldsAt, WritesGuest      these for a slot of the guest at an index
use Rattle.std.specs.Prelude.{ℕ, List, Bool, Option, Some, ◌≡◌, IsSome, map, slice_get, slice_set}
use Rattle.model_registers.specs.{Registers.{config, File, read, write}, ByteEnables.lanes, EndpointTable.opened, OwnCopies.{OwnCopies, own_file, HoldsOwn, IsLawfulOwn, forwarded_byte_enables}}
use Rattle.bridge_forward.specs.Lending.{endpoint_nth}
use Rattle.host_bridge.specs.{ByIndex.file_nth, HostState.HostState, Landings.IsReached}
use Rattle.monitor.specs.declared.guest.{AssignedFunction.AssignedFunction, Guest.Guest}

pub record IsSeen (h : HostState) (held : AssignedFunction) : Type 0 where
  pub file : File
  pub lawful : IsLawfulOwn held.own
  pub holds : HoldsOwn file held.own
  pub there : IsSome (endpoint_nth h.state.functions held.index)
  pub reached : IsReached h.state.functions held.index
  pub shows : (off : ℕ) (ons : List Bool)
      → read (file_nth h.state.functions held.index) (config off) (forwarded_byte_enables (config off) ons)
      ≡ read file (config off) (forwarded_byte_enables (config off) ons)

pub record IsHolding (slots : List (Option AssignedFunction)) (n : ℕ) : Type 0 where
  pub held : AssignedFunction
  pub there : slice_get slots n ≡ Some (Some held)

-- the enabled bytes of a word; the result is the function's index, and the enables of the bytes without a copy
pub record WritesOwn (slots : List (Option AssignedFunction)) (n : ℕ) (holds : IsHolding slots n) (word enables value : ℕ)
    (new : List (Option AssignedFunction)) (r : ℕ × ℕ) : Type 0 where
  pub own : OwnCopies
  pub after : new ≡ slice_set slots n (Some (record holds.held { own = own }))
  pub written : own_file own ≡ write (lanes enables) value (config word) (own_file holds.held.own)
  pub regions : map opened own.bases ≡ map opened holds.held.own.bases
  pub index : r.0 ≡ holds.held.index
  pub others : lanes r.1 ≡ forwarded_byte_enables (config word) (lanes enables)

-- a guest holds a function in a slot
pub record HoldsAt (gs : List Guest) (i n : ℕ) : Type 0 where
  pub guest : Guest
  pub there : slice_get gs i ≡ Some guest
  pub slot : IsHolding guest.slots.items n

-- the guests after a write of that function's own copies
pub record WritesGuest (gs : List Guest) (i n : ℕ) (holds : HoldsAt gs i n) (word enables value : ℕ)
    (new : List Guest) (r : ℕ × ℕ) : Type 0 where
  pub guest : Guest
  pub after : new ≡ slice_set gs i guest
  pub latch : guest.latch ≡ holds.guest.latch
  pub slots : WritesOwn holds.guest.slots.items n holds.slot word enables value guest.slots.items r
