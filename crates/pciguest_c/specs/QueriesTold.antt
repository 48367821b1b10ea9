-- A guest's regions and the byte that an access reaches, as C receives them.
--     region_asked, hit_asked      the answers for a guest by its index
--     space_number      1 ports, 2 memory
--     part_number      the part of a function that contains a byte: a region by its register, or 6
--     region_told, hit_told      the results, as C receives them
use Rattle.std.specs.Prelude.{ℕ, Bool, if◌then◌else◌, Option, Some, None, Result}
use Rattle.model_registers.specs.{Registers.{Place, config, block, offset_of}, Decoding.{Space, io, memory}}
use Rattle.model_guests.specs.{Accesses.Target, Slots.Landing, Guests.lone_of, WorldNow.WorldNow}
use Rattle.model_handoff.specs.{GuestRegions.region_answer, Located.location}
use Rattle.monitor.specs.ByIndex.{name_nth}
use Rattle.pciguest_c.specs.declared.machine.regions.{RegionTold.RegionTold, HitTold.HitTold}
use Rattle.model_handoff.specs.GuestRegions as model

abbrev pub region_asked : WorldNow → ℕ → ℕ → ℕ → Result model.LiveBar ℕ
region_asked w guest slot register = region_answer (lone_of w.guests (name_nth w guest)) slot register

abbrev pub hit_asked : WorldNow → ℕ → Target → Result (Option Landing) ℕ
hit_asked w guest t = location (lone_of w.guests (name_nth w guest)) t

abbrev pub one_if : Bool → ℕ
one_if t = if t then 1 else 0

abbrev pub space_number : Space → ℕ
space_number io = 1
space_number memory = 2

abbrev pub part_number : Place → ℕ
part_number (config off) = 6
part_number (block n off) = n

abbrev pub region_told : model.LiveBar → RegionTold
region_told r = record {
  first = r.first;
  size = r.size;
  space = space_number r.space;
  prefetchable = one_if r.prefetchable;
  is_open = one_if r.is_open;
}

abbrev pub hit_told : Option Landing → HitTold
hit_told None = record { slot = 0; offset = 0; part = 0; found = 0 }
hit_told (Some l) = record { slot = l.slot; offset = offset_of l.place; part = part_number l.place; found = 1 }
