-- A byte that a device reads or writes of a function in a slot: the checks in their order, and the world afterwards.
use Rattle.std.{proofs.Common.{◌≡◌, ℕ, Bool, true, false, not, cond, List, [], ◌∷◌, ◌||◌, Some, None, Option, slice_set, refl, sym, ap, ◌∙◌, subst, rules, arith}, specs.{Prelude.{is_some, nat_le, IsSome}, Option.option_map_or}}
use Rattle.lists.proofs.Indices.{set_same}
use Rattle.model_registers.{specs.{Cell.Cell, Registers.{Place, place_eq, cell_at, File}, FileLaws.has_place, OwnCopies.is_own, DeviceBytes.{is_device_byte, set_value}, Decoding.Function, CopiedFiles.{agreed_file, places_of}}, proofs.{RegisterFiles.place_same, Files.change_none, DeviceBytes.{device_not_own, change_beside}}}
use Rattle.model_board.specs.{Paths.Path, State.{BoardFunction, State}, AtReset.board_at}
use Rattle.model_guests.{specs.{Accesses.{answered, done}, Slots.slot_at, Lone.LoneGuest, Guests.lone_of, AgreedBoard.with_change_at, Text.Text, DeviceEvents.{DeviceByte, device_reads, device_writes, device_place, byte_fault, device_fault, device_answer, device_after, after_device_event, byte_landing, after_device}, DeviceByteLaws.byte_change, WorldNow.{WorldNow, board_state}}, proofs.{AgreedFiles.{stands, agreed_places, agreed_common}, GuestFiles.with_file_there, DeviceBytes.{passes, read_there, write_answered, written_there, write_reaches_board}, DeviceSeats.seated_after}}
use Rattle.headers.specs.Places.{place_of}
use Rattle.bridge_forward.specs.Lending.{as_endpoint, endpoint_at, endpoint_nth, with_endpoint}
use Rattle.host_bridge.{specs.{ByIndex.{file_nth, with_file_nth}, HostState.{HostState, with_functions}}, proofs.Lent.changed_endpoint}
use Rattle.accesses.specs.Accesses.{part_of}
use Rattle.monitor.{specs.{declared.guest.{AssignedFunction.AssignedFunction, Guest.Guest}, Keeping.{IsHeld, IsKept}, ByIndex.{lone_nth, guest_nth, name_nth, with_lone_nth}, DeviceBytes.{device_byte, Refuses, Reaches}, InSlots.{IsInSlot, IsSlotFault}}, proofs.{Steps.{slot_there, GuestAt, SlotAt, function_there, in_place, kept_put, lone_named, path_there, slot_lent, slots_lent}, Reached.{changed_held, distinct, endpoint_held, file_held, left, found_on_board, places_same}, RaiseSteps.named_place, Calls.{Leaves, leaves}, ResetSteps.{answer_named, device_named}, Checks.{low_slot, passes_slot, refused_first}}}
use Rattle.headers.specs.declared.place.Place as headers

-- ---- the place

pub device_named_place : (f : Function) (place : headers.Place) (off : ℕ) → is_some (device_place f (part_of place) off) ≡ true → device_place f (part_of place) off ≡ Some (place_of place off)
device_named_place f place off h = grind (arith, named_place)

-- ---- the checks

-- a slot that is refused
pub byte_refused : (slots : List (Option AssignedFunction)) (n : ℕ) {number : ℕ} (place : headers.Place) (off : ℕ) → IsSlotFault slots n number → Refuses slots n place off number
byte_refused slots n place off fault = grind (arith, refused_first)

pub out_of_reach : {slots : List (Option AssignedFunction)} {n : ℕ} {held : AssignedFunction} (place : headers.Place) (off : ℕ) → IsInSlot slots n held
    → ((s : State) (p : Path) (f : Function) → IsHeld s p f held → is_some (device_place f (part_of place) off) ≡ false) → Refuses slots n place off 303
out_of_reach {slots} {n} {held} place off is none = λ s qs fs are.
    let slot = slot_there s qs fs slots n held are is.there in
    passes_slot (low_slot is.low) (ap is_some slot.function) (cond (not (is_some (byte_landing (slot_at fs n) (device_byte n place off)))) (Some 303) None)
    ∙ ap (λ (o : Option Function). cond {A = Option ℕ} (not (is_some (byte_landing o (device_byte n place off)))) (Some 303) None) slot.function
    ∙ ap (λ (t : Bool). cond {A = Option ℕ} (not t) (Some 303) None) (none s slot.p slot.f slot.held)

-- ---- places with cells

stands_is : (q : Place) (file : File) → has_place file q ≡ stands q (places_of file)
stands_is q [] = refl
stands_is q (e ∷ es) = ap (λ (t : Bool). place_eq e.place q || t) (stands_is q es)

-- where guest and board have cells at the same places, a set value is one where the guest has a cell
pub same_change : (left own : File) → places_of own ≡ places_of left → (v : ℕ) (q : Place) → set_value v q (agreed_file left own) ≡ byte_change own v q (agreed_file left own)
same_change left own same v q = grind (arith, change_none, stands_is, agreed_places)

-- ---- a byte that the device of a function in a slot writes

apart_from_own : (p q : Place) → is_device_byte p ≡ true → is_own q ≡ true → place_eq p q ≡ false
apart_from_own p q device mine = grind (arith, place_same, device_not_own)

module _ {w : WorldNow} {h : HostState} {names : List Text} {gs : List Guest} {i : ℕ} {g : Guest} (at : GuestAt w h names gs i g) {n : ℕ} {held : AssignedFunction} (slot : SlotAt at n held) where
  abbrev left_file : File
  left_file = left at slot

  abbrev found : Function
  found = record { decl = slot.f.decl; file = agreed_file left_file slot.f.file }

  endpoint_found : endpoint_at (board_state w).functions slot.p ≡ Some found
  endpoint_found = ap (λ (o : Option BoardFunction). option_map_or as_endpoint o None) (found_on_board at slot)

  module _ (low : nat_le 32 n ≡ false) (place : headers.Place) (off : ℕ) (reaches : device_place slot.f (part_of place) off ≡ Some (place_of place off)) (own : is_device_byte (place_of place off) ≡ true) (v : ℕ) where
    abbrev put_at : Place
    put_at = place_of place off

    abbrev put_of : DeviceByte
    put_of = device_byte n place off

    no_fault : device_fault (lone_of w.guests (name_nth w i)).slots (device_writes put_of v) ≡ None
    no_fault = ap (λ (l : LoneGuest). byte_fault l.slots put_of) (lone_named at) ∙ passes (lone_nth w i).slots put_of low slot.f slot.function put_at reaches

    abbrev as_put : Function
    as_put = record slot.f { file = set_value v put_at slot.f.file }

    apart : (p : Place) → is_own p ≡ true → place_eq put_at p ≡ false
    apart p mine = apart_from_own put_at p own mine

    still_held : IsHeld w.handoff slot.p as_put held
    still_held = search (rules, apart, change_beside)

    alike : with_change_at (set_value v put_at) slot.p (board_state w) ≡ with_change_at (byte_change slot.f.file v put_at) slot.p (board_state w)
    alike =
        let fs : List BoardFunction = (board_state w).functions in
        ap (λ (gs : List BoardFunction). let s : State = record (board_state w) { functions = gs } in s)
        (sym (changed_endpoint (set_value v put_at) slot.p found fs (distinct at) endpoint_found)
        ∙ ap (λ (x : File). with_endpoint slot.p (record found { file = x }) fs) (same_change left_file slot.f.file (places_same at slot) v put_at)
        ∙ changed_endpoint (byte_change slot.f.file v put_at) slot.p found fs (distinct at) endpoint_found)

    pub byte_put : after_device_event (lone_nth w i) (device_writes put_of v) ≡ record (lone_nth w i) { slots = slice_set (lone_nth w i).slots n (Some as_put) }
    byte_put = grind (arith, written_there, low, reaches, with_file_there)

    pub put_kept : {new : HostState} → new ≡ with_functions (with_file_nth (set_value v put_at) held.index h.state.functions) h → IsKept (with_lone_nth i (after_device_event (lone_nth w i) (device_writes put_of v)) w) new names gs
    put_kept {new} is_new =
        in_place at _ new
        (kept_put at slot (device_after (device_writes put_of v)) (λ t. refl) (λ t. refl)
        (seated_after (board_at w.handoff.functions) w.guests at.kept.lawful.seated (name_nth w i) (device_writes put_of v))
        as_put held still_held byte_put
        g refl (sym (set_same g.slots.items n (Some held) slot.holds))
        new (changed_held at slot (set_value v put_at) is_new
        ∙ ap (with_change_at (set_value v put_at) slot.p) at.kept.agrees ∙ alike
        ∙ sym (write_reaches_board w.handoff w.guests at.kept.lawful.seated (name_nth w i) put_of v no_fault slot.p slot.f put_at (path_there at slot) (function_there at slot) reaches)))

-- ---- a function in a slot of a world that is kept

module _ {w : WorldNow} {h : HostState} {names : List Text} {gs : List Guest} {i : ℕ} {g : Guest} (at : GuestAt w h names gs i g) {slots : List (Option AssignedFunction)} (same : slots ≡ g.slots.items) where
  -- the slots as code holds them, for which the byte is refused
  pub refused_there : (n : ℕ) (place : headers.Place) (off : ℕ) {number : ℕ} → Refuses slots n place off number → byte_fault (lone_nth w i).slots (device_byte n place off) ≡ Some number
  refused_there n place off faults = faults w.handoff (guest_nth w i).paths (lone_nth w i).slots (slots_lent at same)

  module _ {n : ℕ} {place : headers.Place} {off : ℕ} {index : ℕ} (reach : Reaches slots n place off index) where
    abbrev slot : SlotAt at n reach.held
    slot = slot_lent at same reach.there

    abbrev q : Place
    q = place_of place off

    abbrev d : DeviceByte
    d = device_byte n place off

    reaches : device_place slot.f (part_of place) off ≡ Some q
    reaches = device_named_place slot.f place off (reach.reaches w.handoff slot.p slot.f slot.held)

    low : nat_le 32 n ≡ false
    low = low_slot reach.low

    pub endpoint_reached : IsSome (endpoint_nth h.state.functions index)
    endpoint_reached = subst (λ (k : ℕ). IsSome (endpoint_nth h.state.functions k)) (sym reach.index_is) (endpoint_held at slot)

    -- what the board has there is what the guest has
    pub device_read : {value : ℕ} → value ≡ (cell_at (file_nth h.state.functions index) q).value → answered value 1 ≡ device_answer (lone_of w.guests (name_nth w i)) (device_reads d)
    device_read is =
        ap (λ (m : ℕ). answered m 1)
        (is ∙ ap (λ (file : File). (cell_at file q).value) (ap (file_nth h.state.functions) reach.index_is ∙ file_held at slot)
        ∙ ap (λ (c : Cell). c.value) (agreed_common (left at slot) slot.f.file q (places_same at slot) (device_not_own q reach.own)))
        ∙ sym (read_there (lone_nth w i) d low slot.f slot.function q reaches) ∙ answer_named at (device_reads d)

    module _ (v : ℕ) where
      pub device_written : done ≡ device_answer (lone_of w.guests (name_nth w i)) (device_writes d v)
      device_written = sym (write_answered (lone_nth w i) d low slot.f slot.function q reaches v) ∙ answer_named at (device_writes d v)

      pub write_left : {new : HostState} → new ≡ with_functions (with_file_nth (set_value v q) index h.state.functions) h → Leaves (after_device w (name_nth w i) (device_writes d v)) h new names gs
      write_left {new} is_new = leaves at.kept
          (subst (λ (u : WorldNow). IsKept u new names gs) (device_named at (device_writes d v))
          (put_kept at slot low place off reaches reach.own v
          (is_new ∙ ap (λ (k : ℕ). with_functions (with_file_nth (set_value v q) k h.state.functions) h) reach.index_is)))
          refl
