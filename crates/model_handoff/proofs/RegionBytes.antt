-- Where an address of a guest lands, a byte of an open region stands.
use Rattle.std.proofs.{Common.{◌≡◌, ℕ, ◌-◌, ◌<◌, true, Some, Ok, arith}, lemmas.Bool.Decides.nat_tests}
use Rattle.model_registers.specs.Decoding.{Space, io, memory}
use Rattle.model_guests.specs.{Accesses.{Op, in_region, Target, port, address}, Slots.{Landing, landing, landing_from}, Lone.{LoneGuest, at_target, reply_at, after_access_at}, DeviceEvents.DeviceByte}
use Rattle.model_handoff.{specs.{GuestRegions.{LiveBar, region_answer}, QueryLaws.HasLawfulFunctions, RegionBytes.{byte_opening, byte_landing, byte_reply, after_byte, IsByteThere, BytesByAddress}}, proofs.Inside.hit_is_inside}

-- a region that is told, and that is open, opens to each of its bytes
opens_there : (g : LoneGuest) (slot n off : ℕ) (r : LiveBar) → region_answer g slot n ≡ Ok r → r.is_open ≡ true → off < r.size
    → byte_opening g (record { slot = slot; part = in_region n; offset = off }) ≡ Ok true
opens_there g slot n off r told opened inside = grind (arith, nat_tests)

module _ (g : LoneGuest) (t : Target) (l : Landing) (lands : landing g.slots t ≡ Some l) (d : DeviceByte) (opened : byte_opening g d ≡ Ok true) (place : byte_landing d true ≡ Some l) where
  replies : (op : Op) → byte_reply g op d ≡ reply_at g op 1 (at_target t)
  replies op = grind arith

  leaves : (op : Op) → after_byte g op d ≡ after_access_at g op 1 (at_target t)
  leaves op = grind arith

  there : IsByteThere g t l
  there = record { byte = d; place = place; reply = replies; after = leaves }

by_space : (g : LoneGuest) → HasLawfulFunctions g.slots → (t : Target) (l : Landing) → landing g.slots t ≡ Some l → (space : Space) (a : ℕ) → landing_from 0 space a g.slots ≡ Some l → IsByteThere g t l
by_space g lawful t l lands space a from =
    let is = hit_is_inside g lawful space a l from in
    let off : ℕ = a - is.region.first in
    let inside : off < is.region.size = let low = is.low in let high = is.high in omega arith in
    let d : DeviceByte = record { slot = l.slot; part = in_region is.register; offset = off } in
    grind (arith, there g t l lands d, opens_there g l.slot is.register off is.region is.told is.opened inside)

pub bytes_by_address : BytesByAddress
bytes_by_address g lawful a l = (λ e. by_space g lawful (port a) l e io a e, λ e. by_space g lawful (address a) l e memory a e)
