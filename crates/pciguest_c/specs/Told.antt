-- Results for C, in the terms of the definitions of guests.
--     number_told      the number of a reply: 0, or the number of the refusal
--     index_asked w name      the index of the first guest of a name
--     value_told old r      the value stored by a call: the value that was read, or else the old value
--     target_told space slot n      where an access goes: 0 configuration space, 1 ports, 2 memory
--     at_bus      the function of a physical number
--     host_target_told space at n      where a read by the host goes
--     part_told n      where a raise goes: a region by its register, or configuration space
--     reply_asked, after_asked      a guest's event by its index: the reply, and the machine after it
use Rattle.std.specs.{Prelude.{ℕ, ◌==◌, if◌then◌else◌, nat_lt, Option, Some, None, position}, Str.bytes_eq}
use Rattle.model_board.specs.Cycles.{BusAddress}
use Rattle.model_guests.specs.{Accesses.{Target, configuration, port, address, RaisePlace, in_config, in_region, Event, Reply, answered, done, refused}, Grammar.{HostTarget, host_configuration, host_port, host_address}, Lone.answer, Text.Text, Guests.lone_of, Lines.guest_event, Calls.asks, WorldNow.{WorldNow, names_now}}
use Rattle.model_handoff.specs.{Actions.calls, Changes.{MachineNow, after_on_machine}}
use Rattle.monitor.specs.ByIndex.{name_nth}

abbrev pub number_told : Reply → ℕ
number_told (answered v w) = 0
number_told done = 0
number_told (refused n) = n

abbrev pub index_asked : WorldNow → Text → Option ℕ
index_asked w name = position (λ n. bytes_eq n name) (names_now w)

abbrev pub value_told : ℕ → Reply → ℕ
value_told old (answered v w) = v
value_told old done = old
value_told old (refused n) = old

abbrev pub target_told : ℕ → ℕ → ℕ → Option Target
target_told space slot n =
    if space == 0 then Some (configuration slot n)
    else (if space == 1 then Some (port n) else (if space == 2 then Some (address n) else None))

abbrev pub at_bus : ℕ → ℕ → ℕ → BusAddress
at_bus bus device function = record { bus = bus; part = record { device = device; function = function } }

abbrev pub host_target_told : ℕ → BusAddress → ℕ → Option HostTarget
host_target_told space at n =
    if space == 0
    then (if nat_lt at.part.device 32
    then (if nat_lt at.part.function 8 then Some (host_configuration at n) else None) else None)
    else (if space == 1 then Some (host_port n) else (if space == 2 then Some (host_address n) else None))

-- 6 is configuration space
abbrev pub part_told : ℕ → Option RaisePlace
part_told n = if nat_lt n 6 then Some (in_region n) else (if n == 6 then Some in_config else None)

-- the name identifies the guest, because no two guests have the same name
abbrev pub reply_asked : WorldNow → ℕ → Event → Reply
reply_asked w guest e = answer (lone_of w.guests (name_nth w guest)) e

abbrev pub after_asked : MachineNow → ℕ → Event → MachineNow
after_asked m guest e = after_on_machine m (calls (asks (guest_event (name_nth m.world guest) e)))
