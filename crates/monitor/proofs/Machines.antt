-- The machine after a call: the world that the call leaves, and the counts.
--     untouched, same_machine, still_shown      where nothing changes
--     accessed      after an access that a guest is counted for, or isn't
--     by_name      after an event of a guest by its index
--     refused_all, read_after      after an action that is refused, or one that reads
--     stood, grew, both_grew      after an action that counts nobody, one guest, or two
use Rattle.std.{proofs.{Common.{◌≡◌, ◌<◌, ℕ, Bool, true, false, not, ◌&&◌, ◌||◌, ◌==◌, List, [], ◌∷◌, drop, take, length, map, ◌++◌, Some, None, Option, refl, sym, ap, ap₂, ◌∙◌, arith}, lemmas.{Bool.Decides.nat_tests, List.take_at}}, specs.{Prelude.is_some, Str.bytes_eq}}
use Rattle.lists.proofs.Tests.{and_false}
use Rattle.model_board.specs.State.{State}
use Rattle.model_guests.{specs.{Accesses.{Access, access, Event, reads}, Slots.fault_of, Text.Text, Lines.guest_event, Lone.{LoneGuest, Destination, after_event}, World.{Guest as Declared, World}, Guests.{GuestNow, GuestsNow, guest_at_first}, WorldNow.{WorldNow, names_now, world_over}, DeviceEvents.{DeviceByte, DeviceEvent, device_reads}, Calls.{asks, at_device}}, proofs.DeviceBytes.reads_leave_guests}
use Rattle.model_handoff.specs.{Actions.{Action, calls, after_action}, Changes.{MachineNow, BeginsIn, after_on_machine, changes, counts_where, moves_own}}
use Rattle.host_bridge.specs.HostState.{HostState}
use Rattle.monitor.{specs.{declared.guest.Guest.Guest, ByIndex.{lone_nth, name_nth, with_lone_nth}, Counts.{counts_of, counted_nth, counted_both, after_nth, after_access_nth, after_event_nth}, Keeping.{IsKept, IsSound}, Views.{machine_shown, world_shown}}, proofs.{Calls.{Leaves, kept_in}, Counts.{counted_one, counted_two, counts_alike, counts_none}, Named.{changed_by_name, lone_by_name, nth_stands, same_nth}}}

abbrev machine : WorldNow → List ℕ → MachineNow
machine w ns = record { world = w; counts = ns }

pub untouched : (m : MachineNow) (i : ℕ) (g : LoneGuest) (t : Bool) → m.world ≡ with_lone_nth i g m.world → t ≡ false → m ≡ after_nth i g t m
untouched m i g t same none = ap₂ machine same (ap (λ (t : Bool). counted_nth i t m.counts) (sym none))

pub same_machine : (m : MachineNow) (i : ℕ) → i < length m.world.guests → (w : ℕ) (d : Destination) → m ≡ after_access_nth i reads w d m
same_machine m i inside w d = untouched m i _ false (same_nth m.world i inside) refl

pub access_refused : (m : MachineNow) (i : ℕ) → i < length m.world.guests → (a : Access) {number : ℕ} → fault_of a ≡ Some number → m ≡ after_event_nth i (access a) m
access_refused m i inside a {number} fault = grind (arith, untouched, same_nth)

-- ---- what an action changes

abbrev pub happens : MachineNow → ℕ → DeviceEvent → Action
happens m i e = calls (at_device (name_nth m.world i) e)

pub not_counted : (name : Text) {fault : Option ℕ} {number : ℕ} → fault ≡ Some number → (x : Text) → (bytes_eq name x && not (is_some fault)) ≡ false
not_counted name is x = ap (λ (o : Option ℕ). bytes_eq name x && not (is_some o)) is ∙ and_false (bytes_eq name x)

pub is_counted : (name : Text) {fault : Option ℕ} → fault ≡ None → (x : Text) → (bytes_eq name x && not (is_some fault)) ≡ (bytes_eq name x && true)
is_counted name is x = ap (λ (o : Option ℕ). bytes_eq name x && not (is_some o)) is

-- an action that changes nothing
pub refused_all : (m : MachineNow) (a : Action) → m.world ≡ after_action m.world a → ((x : Text) → changes x m.world a ≡ false) → m ≡ after_on_machine m a
refused_all m a same none = ap₂ machine same (sym (counts_none (λ x. changes x m.world a) none (names_now m.world) m.counts))

pub read_after : (m : MachineNow) (i : ℕ) (d : DeviceByte) → m ≡ after_on_machine m (happens m i (device_reads d))
read_after m i d =
    refused_all m (happens m i (device_reads d)) (ap (λ (gs : GuestsNow). record m.world { guests = gs }) (sym (reads_leave_guests (name_nth m.world i) d m.world.guests))) (λ x. refl)

-- ---- the counts of guests

none_yet : (w : World) (ds : List Declared) → map {B = ℕ} (λ (d : Declared). 0) ds ≡ map (λ (g : GuestNow). 0) (map (guest_at_first w) ds)
none_yet w [] = refl
none_yet w (d ∷ ds) = ap (λ (ns : List ℕ). 0 ∷ ns) (none_yet w ds)

pub begins_counted : (w : World) (s : State) (k : HostState) (names : List Text) (gs : List Guest) {m : MachineNow} → m ≡ machine_shown k names gs → world_shown k names gs ≡ world_over w s
    → counts_of gs ≡ map {B = ℕ} (λ (d : Declared). 0) w.guests → BeginsIn (λ v. v ≡ world_over w s) m
begins_counted w s k names gs {m} made shown none = grind (arith, none_yet)

-- those that were lent
pub counts_lent : {ms gs : List Guest} (left : List Guest) (f : List ℕ → List ℕ) → ms ≡ gs → counts_of left ≡ f (counts_of ms) → (n : ℕ) → length left ≡ n → counts_of (take n (left ++ drop (length left) gs)) ≡ f (counts_of gs)
counts_lent {ms} {gs} left f same is n count = grind (arith, take_at)

pub both_one : (i : ℕ) (ns : List ℕ) → counted_both i i ns ≡ counted_nth i true ns
both_one i ns = let one : (i == i) ≡ true = grind (arith, nat_tests) in ap (λ (t : Bool). counted_nth i (not t) (counted_nth i true ns)) one

module _ {h : HostState} {names : List Text} {gs : List Guest} (sound : IsSound h names gs) {now : MachineNow} (view : machine_shown h names gs ≡ now) where
  counts_now : counts_of gs ≡ now.counts
  counts_now = ap (λ (m : MachineNow). m.counts) view

  kept : IsKept now.world h names gs
  kept = kept_in sound view

  pub still_shown : {new : HostState} → new ≡ h → machine_shown new names gs ≡ now
  still_shown same = ap (λ (k : HostState). machine_shown k names gs) same ∙ view

  pub accessed : (i : ℕ) {t u : Bool} {v : WorldNow} {new : HostState} {back : List Guest} → Leaves v h new names back → counts_of back ≡ counted_nth i t (counts_of gs) → t ≡ u
      → machine_shown new names back ≡ machine v (counted_nth i u now.counts)
  accessed i left counts same = ap₂ machine left.world (counts ∙ ap₂ (counted_nth i) same counts_now)

  pub by_name : (i : ℕ) → i < length now.world.guests → (e : Event) → after_event_nth i e now ≡ after_on_machine now (calls (asks (guest_event (name_nth now.world i) e)))
  by_name i inside e =
      ap₂ machine (changed_by_name kept i inside (λ (l : LoneGuest). after_event l e))
      (counted_one now.world.guests kept.lawful.seated.names_apart i _ (nth_stands now.world i inside) (moves_own (lone_nth now.world i) e) now.counts
      ∙ ap (λ (l : LoneGuest). counts_where (λ x. bytes_eq (name_nth now.world i) x && moves_own l e) (names_now now.world) now.counts) (lone_by_name kept i inside))

  module _ (a : Action) where
    ended : {new : HostState} {back : List Guest} → Leaves (after_action now.world a) h new names back → counts_of back ≡ counts_where (λ x. changes x now.world a) (names_now now.world) (counts_of gs)
        → machine_shown new names back ≡ after_on_machine now a
    ended left counts = ap₂ machine left.world (counts ∙ ap (counts_where (λ x. changes x now.world a) (names_now now.world)) counts_now)

    pub stood : {new : HostState} → Leaves (after_action now.world a) h new names gs → ((x : Text) → changes x now.world a ≡ false) → machine_shown new names gs ≡ after_on_machine now a
    stood left none = ended left (sym (counts_none (λ x. changes x now.world a) none (names_now now.world) (counts_of gs)))

    pub grew : (i : ℕ) → i < length now.world.guests → {new : HostState} {back : List Guest} → Leaves (after_action now.world a) h new names back → counts_of back ≡ counted_nth i true (counts_of gs)
        → ((x : Text) → changes x now.world a ≡ (bytes_eq (name_nth now.world i) x && true)) → machine_shown new names back ≡ after_on_machine now a
    grew i inside left counts is =
        ended left
        (counts ∙ counted_one now.world.guests kept.lawful.seated.names_apart i _ (nth_stands now.world i inside) true (counts_of gs)
        ∙ counts_alike (λ x. bytes_eq (name_nth now.world i) x && true) (λ x. changes x now.world a) (λ x. sym (is x)) (names_now now.world) (counts_of gs))

    pub both_grew : (i j : ℕ) → i < length now.world.guests → j < length now.world.guests → {new : HostState} {back : List Guest} → Leaves (after_action now.world a) h new names back
        → counts_of back ≡ counted_both i j (counts_of gs) → ((x : Text) → changes x now.world a ≡ (bytes_eq (name_nth now.world i) x || bytes_eq (name_nth now.world j) x))
        → machine_shown new names back ≡ after_on_machine now a
    both_grew i j inside_i inside_j left counts is =
        ended left
        (counts ∙ counted_two now.world.guests kept.lawful.seated.names_apart i j _ _ (nth_stands now.world i inside_i) (nth_stands now.world j inside_j) (counts_of gs)
        ∙ counts_alike (λ x. bytes_eq (name_nth now.world i) x || bytes_eq (name_nth now.world j) x) (λ x. changes x now.world a) (λ x. sym (is x)) (names_now now.world) (counts_of gs))
