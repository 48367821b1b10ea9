-- What an access of a guest finds, as code tells it.
--     lone_asked w i      what the guest at an index holds
--     fault_at t      the number by which a read of a byte at a place is refused
--     base_holds, closed_at, closed_by      closed regions of a function that hold an address, by its own registers
--     closed_in space n slot f      those of a slot, which may be empty
--     lost_by g d      what a destination finds that hits nothing
--     closed_told, finding_told      a closed region and a finding, from the program's words
--     fault_number, IsWhyFault      why nothing is told: its number, and when that is so
use Rattle.std.specs.{Prelude.{ℕ, ◌+◌, ◌≡◌, List, [], Bool, ◌&&◌, if◌then◌else◌, nat_le, nat_lt, map, filter, Option, Some, None}, Option.option_map_or}
use Rattle.model_registers.specs.{EndpointTable.BaseAddress, OwnCopies.OwnCopies, Decoding.{Space, same_space, space_of, opens_space, Function}}
use Rattle.model_board.specs.Ports.{selected}
use Rattle.model_guests.specs.{Accesses.{Target, reads}, Slots.fault_of, Lone.{LoneGuest, Destination, own_latch, no_function, at_target}, Guests.lone_of, WorldNow.WorldNow}
use Rattle.paths.specs.BusAddresses.{bus_address_of}
use Rattle.accesses.specs.Refusals.{number_of}
use Rattle.monitor.specs.{ByIndex.name_nth, Queries.hit_named}
use Rattle.board_told.specs.declared.{closed.ClosedInSlot.ClosedInSlot, finding.{Finding.{Finding, TheVariants.{Answers, Nobody, Empty, NoSlot}}, WhyFault.{WhyFault, TheVariants.{Refused, Memory}}}}
use Rattle.model_lines.specs.WhyGuests as model

abbrev pub lone_asked : WorldNow → ℕ → LoneGuest
lone_asked w guest = lone_of w.guests (name_nth w guest)

abbrev pub fault_at : Target → Option ℕ
fault_at t = fault_of (record { target = t; width = 1; op = reads })

-- ---- by a function's own registers

abbrev pub base_holds : Space → ℕ → BaseAddress → Bool
base_holds space n b = same_space (space_of b.kind) space && nat_le b.base n && nat_lt n (b.base + b.size)

abbrev pub closed_base : ℕ → ℕ → BaseAddress → model.ClosedRegion
closed_base slot command b =
    record { slot = slot; index = b.index; first = b.base; size = b.size; command = command }

abbrev pub closed_at : Space → ℕ → ℕ → ℕ → List BaseAddress → List model.ClosedRegion
closed_at space n slot command bs = map (closed_base slot command) (filter (base_holds space n) bs)

abbrev pub closed_by : Space → ℕ → ℕ → OwnCopies → List model.ClosedRegion
closed_by space n slot own =
    if opens_space own.command space then [] else closed_at space n slot own.command own.bases

-- an empty slot has none
abbrev pub closed_in : Space → ℕ → ℕ → Option Function → List model.ClosedRegion
closed_in space n slot f = option_map_or (model.closed_of space n slot) f []

-- ---- what is found

abbrev pub lost_by : LoneGuest → Destination → model.Finding
lost_by g own_latch = model.nobody []
lost_by g no_function = model.no_slot (selected g.latch)
lost_by g (at_target t) = model.lost g.slots t

abbrev pub closed_told : ClosedInSlot → model.ClosedRegion
closed_told c = record { slot = c.slot; index = c.register; first = c.first; size = c.size; command = c.command }

abbrev pub finding_told : Finding → model.Finding
finding_told (Answers hit) = model.answers (hit_named hit)
finding_told (Nobody closed) = model.nobody (map closed_told closed.items)
finding_told (Empty slot) = model.empty slot
finding_told (NoSlot at) = model.no_slot (bus_address_of at)

abbrev pub fault_number : WhyFault → ℕ
fault_number (Refused why) = number_of why
fault_number Memory = 299

-- what is refused is refused first
abbrev pub IsWhyFault : WhyFault → Option ℕ → Type 0
IsWhyFault (Refused why) fault = fault ≡ Some (number_of why)
IsWhyFault Memory fault = fault ≡ None
