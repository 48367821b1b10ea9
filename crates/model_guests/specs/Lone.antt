-- The behavior of one guest by itself: 32 slots, and its own CONFIG_ADDRESS.
-- PCI Local Bus 3.0, chapter 3.2.2.3.2 (CONFIG_ADDRESS and CONFIG_DATA).
--     LoneGuest      the current slots and CONFIG_ADDRESS
--     Select, select_at latch a      the target of port a: an ordinary port, or CONFIG_DATA of a slot or of no function
--     Destination, destination      the target of an access: CONFIG_ADDRESS, no function, or a slot, a port or an address
--     answer, after_event      the reply to an event, and the guest after it
--     filled n d, emptied n      a function arrives in slot n, at reset, or leaves it
--     reset_guest      the guest at reset
use Rattle.std.specs.{Prelude.{List, ℕ, ◌&&◌, ◌==◌, if◌then◌else◌, not, Option, None, Some, slice_set, is_some}, Option.option_map_or}
use Rattle.model_registers.specs.{Declarations.Endpoint, ConfigAddress.{latched, is_enabled, selected_bus, selected_device, selected_function, is_address_port, is_data_port, selected_offset}}
use Rattle.model_guests.specs.{Accesses.{Target, configuration, port, address, Op, reads, writes, Event, access, raises, Reply, answered, done, refused}, Slots.{Slots, landing, perform, effect, affected, event_fault, reset_function, reset_slots}}

pub record LoneGuest : Type 0 where
  pub slots : Slots
  pub latch : ℕ

-- an ordinary port, or CONFIG_DATA of no function or of an offset in a slot's configuration space
pub data Select : Type 0 where
  ordinary : Select
  nowhere : Select
  in_slot : ℕ → ℕ → Select

-- the guest sees its slots as the devices of bus 0, each with function 0 only
abbrev pub select_at : ℕ → ℕ → Select
select_at latch a =
    if not (is_enabled latch && is_data_port a) then ordinary
    else (if selected_bus latch == 0 && selected_function latch == 0
    then in_slot (selected_device latch) (selected_offset latch a) else nowhere)

pub data Destination : Type 0 where
  own_latch : Destination
  no_function : Destination
  at_target : Target → Destination

abbrev pub by_select : Target → Select → Destination
by_select t ordinary = at_target t
by_select t nowhere = no_function
by_select t (in_slot n off) = at_target (configuration n off)

-- CONFIG_ADDRESS and CONFIG_DATA take precedence over the guest's regions
abbrev pub destination : ℕ → ℕ → Target → Destination
destination latch w (configuration slot off) = at_target (configuration slot off)
destination latch w (port a) = if is_address_port a w then own_latch else by_select (port a) (select_at latch a)
destination latch w (address a) = at_target (address a)

abbrev pub reply_at : LoneGuest → Op → ℕ → Destination → Reply
reply_at g reads w own_latch = answered g.latch w
reply_at g (writes v) w own_latch = done
reply_at g op w no_function = perform op w g.slots None
reply_at g op w (at_target t) = perform op w g.slots (landing g.slots t)

abbrev pub after_access_at : LoneGuest → Op → ℕ → Destination → LoneGuest
after_access_at g reads w d = g
after_access_at g (writes v) w own_latch = record g { latch = latched v }
after_access_at g (writes v) w no_function = g
after_access_at g (writes v) w (at_target t) = record g { slots = effect (writes v) w g.slots (landing g.slots t) }

abbrev pub performed : LoneGuest → Event → Reply
performed g (access a) = reply_at g a.op a.width (destination g.latch a.width a.target)
performed g (raises r) = done

abbrev pub changed_by : LoneGuest → Event → LoneGuest
changed_by g (access a) = after_access_at g a.op a.width (destination g.latch a.width a.target)
changed_by g (raises r) = record g { slots = affected g.slots (raises r) }

-- the reply to an event: a refusal, or the result; the checks come first
abbrev pub answer : LoneGuest → Event → Reply
answer g e = option_map_or refused (event_fault g.slots e) (performed g e)

-- a refused event changes nothing
abbrev pub after_event : LoneGuest → Event → LoneGuest
after_event g e = if is_some (event_fault g.slots e) then g else changed_by g e

abbrev pub filled : ℕ → Endpoint → LoneGuest → LoneGuest
filled n d g = record g { slots = slice_set g.slots n (reset_function (Some d)) }

abbrev pub emptied : ℕ → LoneGuest → LoneGuest
emptied n g = record g { slots = slice_set g.slots n None }

abbrev pub reset_guest : List (Option Endpoint) → LoneGuest
reset_guest ds = record { slots = reset_slots ds; latch = 0 }
