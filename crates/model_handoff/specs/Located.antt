-- The target of a guest's access, given only its place: PCI Local Bus 3.0, chapters 3.2.2.3.2 and 6.2.5.
--     landing_at      the slot of a destination, and the place in its function's file
--     located g t      the target of a one-byte access at a place
--     location g t      the same, or the error number of a refusal
--     is_latch_access      the one access whose target isn't that of its first byte: 4 bytes at CF8h access the guest's CONFIG_ADDRESS
use Rattle.std.specs.{Prelude.{ℕ, Bool, false, Option, None, Result, Ok, Err}, Option.option_map_or}
use Rattle.model_registers.specs.ConfigAddress.{is_address_port}
use Rattle.model_guests.specs.{Accesses.{Target, configuration, port, address, reads}, Slots.{Landing, landing, fault_of}, Lone.{LoneGuest, Destination, own_latch, no_function, at_target, destination}}

abbrev pub landing_at : LoneGuest → Destination → Option Landing
landing_at g own_latch = None
landing_at g no_function = None
landing_at g (at_target t) = landing g.slots t

-- a CONFIG_DATA access goes to the configuration space of the function that the guest's CONFIG_ADDRESS selects
abbrev pub located : LoneGuest → Target → Option Landing
located g t = landing_at g (destination g.latch 1 t)

-- the check is that of reading a byte there
abbrev pub location : LoneGuest → Target → Result (Option Landing) ℕ
location g t = option_map_or Err (fault_of (record { target = t; width = 1; op = reads })) (Ok (located g t))

abbrev pub is_latch_access : Target → ℕ → Bool
is_latch_access (configuration slot off) w = false
is_latch_access (port a) w = is_address_port a w
is_latch_access (address a) w = false
