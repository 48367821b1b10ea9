-- The code's answers to queries about a guest, which change nothing.
--     IsGuestNth w i g      what is kept of the guest at an index
--     region_named, hit_named      a region and a byte that an access reaches, from the code's types
use Rattle.std.specs.Prelude.{ℕ, Some, ◌≡◌, slice_get}
use Rattle.bars.specs.Kinds.{named_space}
use Rattle.headers.specs.Places.{place_of}
use Rattle.model_registers.specs.OwnCopies.{IsLawfulOwn}
use Rattle.model_guests.specs.{Slots.Landing, Guests.lone_of, WorldNow.WorldNow}
use Rattle.monitor.specs.{declared.{guest.{AssignedFunction.AssignedFunction, Guest.Guest}, queries.regions.GuestRegion.GuestRegion, queries.locate.DecodedByte.DecodedByte}, Keeping.AreSlots, ByIndex.{guest_nth, name_nth, lone_nth}}
use Rattle.model_handoff.specs.GuestRegions as model

pub record IsGuestNth (w : WorldNow) (i : ℕ) (g : Guest) : Type 0 where
  pub named : lone_of w.guests (name_nth w i) ≡ lone_nth w i
  pub latch : (lone_nth w i).latch ≡ g.latch
  pub slots : AreSlots w.handoff (guest_nth w i).paths (lone_nth w i).slots g.slots.items
  pub lawful : (n : ℕ) (h : AssignedFunction) → slice_get g.slots.items n ≡ Some (Some h) → IsLawfulOwn h.own

abbrev pub region_named : GuestRegion → model.LiveBar
region_named r = record {
  space = named_space r.space;
  first = r.first;
  size = r.size;
  prefetchable = r.prefetchable;
  is_open = r.is_open;
}

abbrev pub hit_named : DecodedByte → Landing
hit_named h = record { slot = h.slot; place = place_of h.place h.offset }
