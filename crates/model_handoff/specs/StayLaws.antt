-- The events that change the addresses of the regions of a guest's functions: PCI Local Bus 3.0, chapter 6.2.5.
--     tells_regions p      a byte of Command or of a base address register
--     rewrites slot g e      an event that writes such a byte of the function in the slot
--     touches name slot gs m      a successful move out of this slot of the guest or into it
--     moves_regions name slot gs c      one of the guest's own writes to such bytes, such a move, or a reset there
--     RegionsStay      no other call changes an answer
use Rattle.std.specs.{Prelude.{◌≡◌, ◌&&◌, ◌||◌, ◌==◌, ℕ, zero, suc, Bool, true, false, not, nat_le, nat_lt, is_some, IsSome}, Option.option_map_or, Str.bytes_eq}
use Rattle.model_registers.specs.Registers.{Place, config, block, after}
use Rattle.model_board.specs.{Board.Board, Lawful.HasLawfulDecls}
use Rattle.model_guests.specs.{Accesses.{Event, access, raises, Op, reads, writes}, Slots.Landing, Text.Text, Lone.LoneGuest, Guests.{GuestsNow, guest_named, lone_of, Move, move_fault}, Lines.{nothing, guest_event, host_read, host_move, bad}, WorldNow.WorldNow, Seated.AreSeated, DeviceEvents.{resets, device_reads, device_writes}, Calls.{Call, asks, at_device, after_call}}
use Rattle.model_handoff.specs.{GuestRegions.region_answer, Located.located}

abbrev pub tells_regions : Place → Bool
tells_regions (config off) = off == 4 || off == 5 || (nat_le 0x10 off && nat_lt off 0x28)
tells_regions (block n off) = false

-- one of w bytes from a place on
abbrev pub any_tells : ℕ → Place → Bool
any_tells zero p = false
any_tells (suc w) p = tells_regions p || any_tells w (after p)

abbrev pub is_write : Op → Bool
is_write reads = false
is_write (writes v) = true

-- the access lands at the place that `locate` returns
abbrev pub rewrites : ℕ → LoneGuest → Event → Bool
rewrites slot g (access a) =
    is_write a.op
    && option_map_or (λ (l : Landing). l.slot == slot && any_tells a.width l.place) (located g a.target) false
rewrites slot g (raises r) = false

abbrev pub touches : Text → ℕ → GuestsNow → Move → Bool
touches name slot gs m =
    not (is_some (move_fault gs m))
    && ((bytes_eq m.from name && m.slot == slot) || (bytes_eq m.to name && m.target == slot))

abbrev pub moves_regions : Text → ℕ → GuestsNow → Call → Bool
moves_regions name slot gs (asks nothing) = false
moves_regions name slot gs (asks (guest_event n e)) = bytes_eq n name && rewrites slot (lone_of gs name) e
moves_regions name slot gs (asks (host_read r)) = false
moves_regions name slot gs (asks (host_move m)) = touches name slot gs m
moves_regions name slot gs (asks (bad who k)) = false
moves_regions name slot gs (at_device n (resets k)) = bytes_eq n name && k == slot
moves_regions name slot gs (at_device n (device_reads d)) = false
moves_regions name slot gs (at_device n (device_writes d v)) = false

-- whatever other guests, their devices and the host do
abbrev pub RegionsStay : Type 0
RegionsStay = (b : Board) → HasLawfulDecls b → (w : WorldNow) → AreSeated b w.guests
    → (name : Text) → IsSome (guest_named w.guests name) → (slot register : ℕ) (c : Call)
    → moves_regions name slot w.guests c ≡ false
    → region_answer (lone_of (after_call w c).guests name) slot register
    ≡ region_answer (lone_of w.guests name) slot register
