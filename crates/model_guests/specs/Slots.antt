-- The functions in one guest's slots by themselves: no bus, no bridge, no physical address.
--     fault_of, raise_fault, event_fault      the checks of an access, of a raise, and of either
--     Slots      32 slots, each empty or with a function: its declaration and its register file
--     landing      the target of an access; regions decode by their own registers, as in PCI Local Bus 3.0, chapter 6.2.5
--     perform, effect      the reply to an access at this target, and the slots after it
--     raise_landing, affected      the byte in which a raise sets bits; the slots after an accepted event
--     reset_slots      the slots at reset
use Rattle.std.specs.{Prelude.{List, [], ◌∷◌, ℕ, ◌-◌, ◌+◌, ◌%◌, Bool, false, ◌&&◌, ◌==◌, if◌then◌else◌, replicate, length, ◌^◌, ◌++◌, not, ◌||◌, nat_lt, nat_le, Option, Some, None, map, slice_get, slice_set, unwrap_or, is_some, option_map}, List.list_any, Option.option_map_or}
use Rattle.lists.specs.Elements.{first_of_two}
use Rattle.model_registers.specs.{Registers.{Place, config, block, File, write, raise, all_bytes, number, all_ones}, Declarations.Endpoint, EndpointTable.endpoint_reset, Decoding.{Space, io, memory, Function, Hit, lone_claim}}
use Rattle.model_guests.specs.Accesses.{Target, configuration, port, address, Op, reads, writes, Access, RaisePlace, in_config, in_region, Raise, Event, access, raises, Reply, answered, done}

-- the three checks of any access, in order: its width, its alignment, its range
abbrev pub access_fault : ℕ → ℕ → Bool → Option ℕ
access_fault width at out_of_range =
    if not (width == 1 || width == 2 || width == 4) then Some 302
    else (if not (at % width == 0) then Some 301
    else (if out_of_range then Some 303 else None))

abbrev pub place_number : Target → ℕ
place_number (configuration slot off) = off
place_number (port a) = a
place_number (address a) = a

abbrev pub is_out_of_range : Target → Bool
is_out_of_range (configuration slot off) = nat_le 32 slot || nat_le 256 off
is_out_of_range (port a) = nat_le (2 ^ 32) a
is_out_of_range (address a) = false

abbrev pub fault_of : Access → Option ℕ
fault_of a = access_fault a.width (place_number a.target) (is_out_of_range a.target)

abbrev pub Slots : Type 0
Slots = List (Option Function)

abbrev pub slot_at : Slots → ℕ → Option Function
slot_at slots n = unwrap_or (slice_get slots n) None

-- the target of an access: a slot and a place in its function's file
pub record Landing : Type 0 where
  pub slot : ℕ
  pub place : Place

abbrev pub landing_in : ℕ → Space → ℕ → Option Function → Option Landing
landing_in n space a None = None
landing_in n space a (Some f) = option_map (λ (h : Hit). record { slot = n; place = block h.index h.offset })
    (lone_claim f space a)

-- the first claim by slot, then by register; n is the number of the first slot of the list
abbrev pub landing_from : ℕ → Space → ℕ → Slots → Option Landing
landing_from n space a [] = None
landing_from n space a (f ∷ fs) = first_of_two (landing_in n space a f) (landing_from (n + 1) space a fs)

abbrev pub landing : Slots → Target → Option Landing
landing slots (configuration slot off) =
    if is_some (slot_at slots slot) then Some (record { slot = slot; place = config off }) else None
landing slots (port a) = landing_from 0 io a slots
landing slots (address a) = landing_from 0 memory a slots

abbrev pub file_at : Slots → ℕ → File
file_at slots n = option_map_or (λ (f : Function). f.file) (slot_at slots n) []

-- the slots with the file of slot n changed
abbrev pub with_file : (File → File) → ℕ → Slots → Slots
with_file g n slots = option_map_or (λ (f : Function). slice_set slots n (Some (record f { file = g f.file })))
    (slot_at slots n) slots

abbrev pub perform : Op → ℕ → Slots → Option Landing → Reply
perform reads w slots None = answered (all_ones w) w
perform reads w slots (Some l) = answered (number (file_at slots l.slot) l.place w) w
perform (writes v) w slots l = done

abbrev pub effect : Op → ℕ → Slots → Option Landing → Slots
effect reads w slots l = slots
effect (writes v) w slots None = slots
effect (writes v) w slots (Some l) = with_file (write (all_bytes w) v l.place) l.slot slots

-- the place that a raise names in a function, or `None` if there is no such region or the offset is past the end
abbrev pub raise_place : Function → RaisePlace → ℕ → Option Place
raise_place f in_config off = if nat_lt off 256 then Some (config off) else None
raise_place f (in_region n) off =
    if list_any (λ r. r.index == n && nat_lt off r.size) f.decl.regions then Some (block n off) else None

abbrev pub raise_landing : Option Function → Raise → Option Place
raise_landing None r = None
raise_landing (Some f) r = raise_place f r.part r.offset

-- the checks of a raise, in order: the slot's number, the slot's function, the place in it
abbrev pub raise_fault : Slots → Raise → Option ℕ
raise_fault slots r =
    if nat_le 32 r.slot then Some 303
    else (if not (is_some (slot_at slots r.slot)) then Some 601
    else (if not (is_some (raise_landing (slot_at slots r.slot) r)) then Some 303 else None))

abbrev pub event_fault : Slots → Event → Option ℕ
event_fault slots (access a) = fault_of a
event_fault slots (raises r) = raise_fault slots r

abbrev pub affected : Slots → Event → Slots
affected slots (access a) = effect a.op a.width slots (landing slots a.target)
affected slots (raises r) = option_map_or (λ (p : Place). with_file (raise r.mask p) r.slot slots)
    (raise_landing (slot_at slots r.slot) r) slots

-- the 32 slots at reset; the header type never shows that the device has other functions
abbrev pub reset_function : Option Endpoint → Option Function
reset_function None = None
reset_function (Some d) = Some (record { decl = d; file = endpoint_reset d false })

abbrev pub reset_slots : List (Option Endpoint) → Slots
reset_slots ds = map reset_function (ds ++ replicate (32 - length ds) None)
