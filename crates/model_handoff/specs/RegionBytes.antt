-- An access to one byte of a region, given by slot and base address register instead of an address, for callers that map
-- the guest's regions themselves: PCI Local Bus 3.0, chapter 6.2.5.
--     opening f part off      whether Command enables the region of a byte, or `None` if no region has the byte
--     byte_opening g d      the same for the function in a slot, or the error number of a refusal
--     byte_landing d t      the byte's place, which an access reaches if its region is enabled
--     byte_reply, after_byte      the reply, and the guest after the access
--     IsByteThere, BytesByAddress      if an address of the guest lands there, there is such a byte, and accessing it has the same
--                                      effect as accessing the byte at the address
use Rattle.std.specs.{Prelude.{◌≡◌, ℕ, Bool, true, if◌then◌else◌, nat_lt, nat_le, Option, Some, None, Result, Ok, Err}, Option.{option_map_or, ok_or}}
use Rattle.model_registers.specs.{Registers.block, Declarations.Region, Decoding.{space_of, Function, is_open}}
use Rattle.model_guests.specs.{Accesses.{RaisePlace, in_config, in_region, Op, Reply, refused, Target, port, address}, Slots.{Landing, slot_at, landing, perform, effect}, Lone.{LoneGuest, at_target, reply_at, after_access_at}, DeviceEvents.DeviceByte}
use Rattle.model_handoff.specs.{GuestRegions.region_at, QueryLaws.HasLawfulFunctions}

-- configuration space isn't a region
abbrev pub opening : Function → RaisePlace → ℕ → Option Bool
opening f in_config off = None
opening f (in_region n) off = option_map_or (λ (r : Region).
    if nat_lt off r.size then Some (is_open f.file (space_of r.kind)) else None) (region_at f n) None

-- the checks in order, as for a device's byte: the slot's number, the slot's function, the byte in it
abbrev pub byte_opening : LoneGuest → DeviceByte → Result Bool ℕ
byte_opening g d =
    if nat_le 32 d.slot then Err 303
    else option_map_or (λ (f : Function). ok_or (opening f d.part d.offset) 303) (slot_at g.slots d.slot) (Err 601)

abbrev pub register_of : RaisePlace → ℕ
register_of in_config = 0
register_of (in_region n) = n

abbrev pub byte_landing : DeviceByte → Bool → Option Landing
byte_landing d t =
    if t then Some (record { slot = d.slot; place = block (register_of d.part) d.offset }) else None

-- the effect of an access that lands there by its address
abbrev pub reply_there : LoneGuest → Op → DeviceByte → Result Bool ℕ → Reply
reply_there g op d (Err n) = refused n
reply_there g op d (Ok t) = perform op 1 g.slots (byte_landing d t)

abbrev pub after_there : LoneGuest → Op → DeviceByte → Result Bool ℕ → LoneGuest
after_there g op d (Err n) = g
after_there g op d (Ok t) = record g { slots = effect op 1 g.slots (byte_landing d t) }

abbrev pub byte_reply : LoneGuest → Op → DeviceByte → Reply
byte_reply g op d = reply_there g op d (byte_opening g d)

abbrev pub after_byte : LoneGuest → Op → DeviceByte → LoneGuest
after_byte g op d = after_there g op d (byte_opening g d)

-- ---- a law

pub record IsByteThere (g : LoneGuest) (t : Target) (l : Landing) : Type 0 where
  pub byte : DeviceByte
  pub place : byte_landing byte true ≡ Some l
  pub reply : (op : Op) → byte_reply g op byte ≡ reply_at g op 1 (at_target t)
  pub after : (op : Op) → after_byte g op byte ≡ after_access_at g op 1 (at_target t)

abbrev pub BytesByAddress : Type 0
BytesByAddress = (g : LoneGuest) → HasLawfulFunctions g.slots → (a : ℕ) (l : Landing)
    → (landing g.slots (port a) ≡ Some l → IsByteThere g (port a) l)
    × (landing g.slots (address a) ≡ Some l → IsByteThere g (address a) l)
