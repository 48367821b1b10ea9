-- Change counts: how often a region of a guest's functions may have been moved, enabled or disabled, by guest index.
--     counts_of gs      the counts that are kept
--     counted_nth i t ns      one more in the count at an index, where something changes
--     counted_both i j ns      one more in the counts at two indices, or once at one
--     changes_at g op w d      a write of the guest lands on a byte of Command or of a base address register
--     after_nth i g t m      guest i holds this, and is counted where it changes
--     after_access_nth, after_event_nth      the machine after an access that isn't refused, or an event, of guest i
--     after_byte_nth      the machine after guest i's access of a byte of a region, which moves none
use Rattle.std.specs.{Prelude.{ℕ, ◌==◌, Bool, true, false, not, List, map, slice_get, slice_set, if◌then◌else◌, unwrap_or}, Option.option_map_or}
use Rattle.model_guests.specs.{Accesses.{Event, Op, reads, writes}, Slots.Landing, Lone.{LoneGuest, Destination, after_access_at, after_event}, DeviceEvents.DeviceByte}
use Rattle.model_handoff.specs.{Located.landing_at, StayLaws.any_tells, Changes.{MachineNow, after_change, moves_own}, RegionBytes.after_byte}
use Rattle.monitor.specs.{declared.guest.Guest.Guest, ByIndex.{lone_nth, with_lone_nth}}

abbrev pub counts_of : List Guest → List ℕ
counts_of gs = map (λ (g : Guest). g.changed) gs

abbrev pub counted_nth : ℕ → Bool → List ℕ → List ℕ
counted_nth i t ns = if t then slice_set ns i (after_change true (unwrap_or (slice_get ns i) 0)) else ns

abbrev pub counted_both : ℕ → ℕ → List ℕ → List ℕ
counted_both i j ns = counted_nth j (not (j == i)) (counted_nth i true ns)

abbrev pub changes_at : LoneGuest → Op → ℕ → Destination → Bool
changes_at g reads w d = false
changes_at g (writes v) w d = option_map_or (λ (l : Landing). any_tells w l.place) (landing_at g d) false

abbrev pub after_nth : ℕ → LoneGuest → Bool → MachineNow → MachineNow
after_nth i g t m = record { world = with_lone_nth i g m.world; counts = counted_nth i t m.counts }

abbrev pub after_access_nth : ℕ → Op → ℕ → Destination → MachineNow → MachineNow
after_access_nth i op w d m =
    after_nth i (after_access_at (lone_nth m.world i) op w d) (changes_at (lone_nth m.world i) op w d) m

abbrev pub after_event_nth : ℕ → Event → MachineNow → MachineNow
after_event_nth i e m = after_nth i (after_event (lone_nth m.world i) e) (moves_own (lone_nth m.world i) e) m

abbrev pub after_byte_nth : ℕ → Op → DeviceByte → MachineNow → MachineNow
after_byte_nth i op d m = after_nth i (after_byte (lone_nth m.world i) op d) false m
