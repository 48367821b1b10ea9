-- A guest all of whose functions are reset, slot by slot, and then its latch.
--     restarted_to n fs      slots of which those below n are at reset
--     one_more, all_restarted      one slot more, and all of them
--     lone_set, set_again      a guest that holds something else, and then something else again
--     none_set      an empty slot that is left empty
--     kept_one, kept_none      a world that is kept, after the reset of a function in a slot, and of no function in it
--     restarted_is      a guest of a world at reset
--     slots_restarted, latch_cleared      the world with such slots of it, or with its latch clear
--     goes_on, ends, both, kept_clear      slot after slot, to the last; and the latch before them
--     requested, restarted      the machine after a call that counts this guest alone, and after the restart
use Rattle.std.{proofs.{Common.{◌≡◌, ◌≤◌, ◌<◌, ◌+◌, ◌&&◌, ℕ, zero, suc, Bool, true, List, [], ◌∷◌, length, Some, None, Option, slice_get, slice_set, refl, sym, ap, ap₂, ◌∙◌, subst, arith}, lemmas.{List.{set-set, set-get_or}, Option.unwrap_or-slice_get}}, specs.{Prelude.{map, unwrap_or}, Option.option_map_or, Str.bytes_eq}}
use Rattle.lists.proofs.{Indices.{get_set, set_same}, Tests.and_true}
use Rattle.model_registers.specs.Decoding.{Function}
use Rattle.model_guests.{specs.{Text.Text, Slots.{Slots, slot_at}, Lone.{LoneGuest, filled}, Guests.{GuestNow, GuestsNow, lone_of}, WorldNow.{WorldNow, names_now}, DeviceEvents.{after_device, reset_in, resets}}, proofs.Resets.reset_there}
use Rattle.model_images.{specs.{Images.{Image, after_restart, at_reset, function_at_reset, image_of_lone, loaded}, Requests.restarts, RequestLaws.after_request_on_machine}, proofs.Loading.lone_reset_back}
use Rattle.model_handoff.specs.Changes.{after_change, counts_where, MachineNow}
use Rattle.host_bridge.specs.HostState.{HostState}
use Rattle.monitor.{specs.{declared.guest.{AssignedFunction.AssignedFunction, Guest.Guest}, ByIndex.{guest_nth, lone_nth, name_nth, with_lone_nth}, Counts.{counted_nth, counts_of}, Keeping.{IsKept, IsSound}, Views.machine_shown, Moves.{HandsOver, IsExchanged}, Restarts.slots_at_reset}, proofs.{Steps.{GuestAt, SlotAt, kept_latch, lone_named, nth_there, slot_empty, slots_count, with_named, with_same}, Landed.same_count, Calls.{Leaves, kept_in}, Counts.{counted_one, counts_alike}, Named.nth_stands, Checks.low_slot, Exchanges.{before_is, items_are, latch_stays}, Reached.seated, ResetSteps.{device_named, reset_left}}}

-- ---- slots

abbrev pub restarted_to : ℕ → Slots → Slots
restarted_to zero fs = fs
restarted_to (suc n) [] = []
restarted_to (suc n) (f ∷ fs) = function_at_reset f ∷ restarted_to n fs

all_restarted : (fs : Slots) → restarted_to (length fs) fs ≡ map function_at_reset fs
all_restarted [] = refl
all_restarted (f ∷ fs) = ap (λ (xs : Slots). function_at_reset f ∷ xs) (all_restarted fs)

still_there : (n : ℕ) (fs : Slots) → slot_at (restarted_to n fs) n ≡ slot_at fs n
still_there zero fs = refl
still_there (suc n) [] = refl
still_there (suc n) (f ∷ fs) = still_there n fs

one_set : (n : ℕ) (fs : Slots) → slice_set (restarted_to n fs) n (function_at_reset (slot_at fs n)) ≡ restarted_to (suc n) fs
one_set zero [] = refl
one_set zero (f ∷ fs) = refl
one_set (suc n) [] = refl
one_set (suc n) (f ∷ fs) = ap (λ (xs : Slots). function_at_reset f ∷ xs) (one_set n fs)

-- an empty slot is left empty
pub none_set : {A : Type 0} (xs : List (Option A)) (n : ℕ) → unwrap_or (slice_get xs n) None ≡ None → slice_set xs n None ≡ xs
none_set xs n h = ap (slice_set xs n) (sym h ∙ unwrap_or-slice_get xs n None) ∙ set-get_or xs n None

abbrev pub restarted_lone : ℕ → LoneGuest → LoneGuest
restarted_lone n g = record g { slots = restarted_to n g.slots }

pub one_more : (n : ℕ) (g : LoneGuest) → reset_in n (restarted_lone n g) ≡ restarted_lone (suc n) g
one_more n g = cases (slot_at g.slots n) refl
  where
    cases : (o : Option Function) → slot_at g.slots n ≡ o → reset_in n (restarted_lone n g) ≡ restarted_lone (suc n) g
    cases None e =
        let empty : slot_at (restarted_to n g.slots) n ≡ None = still_there n g.slots ∙ e in
        ap (λ (o : Option Function). option_map_or (λ (f : Function). filled n f.decl (restarted_lone n g)) o (restarted_lone n g)) empty
        ∙ ap (λ (xs : Slots). let l : LoneGuest = record g { slots = xs } in l)
        (sym (none_set (restarted_to n g.slots) n empty) ∙ ap (λ (o : Option Function). slice_set (restarted_to n g.slots) n (function_at_reset o)) (sym e) ∙ one_set n g.slots)
    cases (Some f) e =
        ap (λ (o : Option Function). option_map_or (λ (k : Function). filled n k.decl (restarted_lone n g)) o (restarted_lone n g)) (still_there n g.slots ∙ e)
        ∙ ap (λ (xs : Slots). let l : LoneGuest = record g { slots = xs } in l)
        (ap (λ (o : Option Function). slice_set (restarted_to n g.slots) n (function_at_reset o)) (sym e) ∙ one_set n g.slots)

-- ---- a guest by its index that holds something else

module _ (w : WorldNow) (i : ℕ) (there : slice_get w.guests i ≡ Some (guest_nth w i)) where
  guest_set : (l : LoneGuest) → guest_nth (with_lone_nth i l w) i ≡ (let x : GuestNow = record (guest_nth w i) { lone = l } in x)
  guest_set l = grind (arith, nth_there, get_set)

  pub lone_set : (l : LoneGuest) → lone_nth (with_lone_nth i l w) i ≡ l
  lone_set l = ap (λ (x : GuestNow). x.lone) (guest_set l)

  pub set_again : (l m : LoneGuest) → with_lone_nth i m (with_lone_nth i l w) ≡ with_lone_nth i m w
  set_again l m = grind (arith, guest_set, set-set)

-- ---- a world that is kept

module _ {w : WorldNow} {h : HostState} {names : List Text} {gs : List Guest} {i : ℕ} {g : Guest} (at : GuestAt w h names gs i g) where
  module _ {n : ℕ} {held : AssignedFunction} (slot : SlotAt at n held) (low : n ≤ 31) where
    reset_is : after_device w (name_nth w i) (resets n) ≡ with_lone_nth i (reset_in n (lone_nth w i)) w
    reset_is =
        sym (device_named at (resets n))
        ∙ ap (λ (l : LoneGuest). with_lone_nth i l w)
        (reset_there (lone_nth w i) n slot.f (low_slot low) slot.function
        ∙ sym (ap (λ (o : Option Function). option_map_or (λ (f : Function). filled n f.decl (lone_nth w i)) o (lone_nth w i)) slot.function))

    pub kept_one : {new : HostState} {back : List Guest} → HandsOver h gs i n i n new back → IsKept (with_lone_nth i (reset_in n (lone_nth w i)) w) new names back
    kept_one {new} {back} over =
        let left = reset_left at slot low over in
        subst (λ (v : WorldNow). IsKept v new names back) reset_is left.kept

  pub kept_none : {n : ℕ} {back : List Guest} → IsExchanged gs i n None None back → IsKept (with_lone_nth i (reset_in n (lone_nth w i)) w) h names back
  kept_none {n} {back} is = subst (λ (v : WorldNow). IsKept v h names back) world (subst (IsKept w h names) (sym is.after) kept)
    where
      had : slice_get g.slots.items n ≡ Some None
      had = ap (λ (k : Guest). slice_get k.slots.items n) (sym (before_is at is)) ∙ is.had

      kept : IsKept w h names (slice_set gs i is.guest)
      kept = subst (λ (v : WorldNow). IsKept v h names (slice_set gs i is.guest)) (with_same at)
          (kept_latch at (lone_nth w i).latch is.guest (latch_stays at is ∙ sym at.is.latch) (items_are at is ∙ set_same g.slots.items n None had))

      world : w ≡ with_lone_nth i (reset_in n (lone_nth w i)) w
      world = sym (with_same at) ∙ ap (λ (o : Option Function). with_lone_nth i (option_map_or (λ (f : Function). filled n f.decl (lone_nth w i)) o (lone_nth w i)) w) (sym empty)
        where
          empty : slot_at (lone_nth w i).slots n ≡ None
          empty = slot_empty w.handoff (guest_nth w i).paths (lone_nth w i).slots g.slots.items n at.is.slots (ap (λ (o : Option (Option AssignedFunction)). unwrap_or o None) had)

  pub restarted_is : with_lone_nth i (at_reset (lone_nth w i)) w ≡ after_restart (name_nth w i) w
  restarted_is =
      let image : Image = image_of_lone (at_reset (lone_of w.guests (name_nth w i))) in
      ap (λ (l : LoneGuest). with_lone_nth i l w) (ap (λ (l : LoneGuest). at_reset l) (sym (lone_named at)) ∙ sym (lone_reset_back (lone_of w.guests (name_nth w i))))
      ∙ ap (λ (xs : GuestsNow). record w { guests = xs }) (sym (with_named at (loaded image)))

  pub all_slots : restarted_to 32 (lone_nth w i).slots ≡ map function_at_reset (lone_nth w i).slots
  all_slots = ap (λ (n : ℕ). restarted_to n (lone_nth w i).slots) (sym count) ∙ all_restarted (lone_nth w i).slots
    where
      count : length (lone_nth w i).slots ≡ 32
      count = same_count w.handoff (guest_nth w i).paths (lone_nth w i).slots g.slots.items at.is.slots ∙ slots_count w.handoff (guest_nth w i).paths (lone_nth w i).slots g.slots.items at.is.slots ∙ (seated at).count

-- ---- a guest by its index, through the calls that reset it

-- its slots below n are at reset
abbrev pub slots_restarted : ℕ → ℕ → WorldNow → WorldNow
slots_restarted n i w = with_lone_nth i (restarted_lone n (lone_nth w i)) w

-- with its latch clear
abbrev pub latch_cleared : ℕ → WorldNow → WorldNow
latch_cleared i w = with_lone_nth i (record (lone_nth w i) { latch = 0 }) w

module _ {w : WorldNow} {h : HostState} {names : List Text} {gs : List Guest} {i : ℕ} {g : Guest} (at : GuestAt w h names gs i g) where
  pub none_restarted : slots_restarted 0 i w ≡ w
  none_restarted = with_same at

  -- one slot more
  pub goes_on : (n m : ℕ) → m ≡ n + 1 → with_lone_nth i (reset_in n (lone_nth (slots_restarted n i w) i)) (slots_restarted n i w) ≡ slots_restarted m i w
  goes_on n m next =
      let now : LoneGuest = restarted_lone n (lone_nth w i) in
      let more : suc n ≡ m = omega arith in
      set_again w i at.there now (reset_in n (lone_nth (slots_restarted n i w) i))
      ∙ ap (λ (l : LoneGuest). with_lone_nth i l w) (ap (λ (l : LoneGuest). reset_in n l) (lone_set w i at.there now) ∙ one_more n (lone_nth w i))
      ∙ ap (λ (k : ℕ). slots_restarted k i w) more

  pub ends : (n : ℕ) → n ≡ 32 → slots_restarted n i w ≡ slots_at_reset i w
  ends n is = ap (λ (k : ℕ). slots_restarted k i w) is ∙ ap (λ (fs : Slots). with_lone_nth i (record (lone_nth w i) { slots = fs }) w) (all_slots at)

  -- first its latch, and then its slots
  pub both : slots_at_reset i (latch_cleared i w) ≡ with_lone_nth i (at_reset (lone_nth w i)) w
  both = grind (arith, lone_set, set_again)

  pub kept_clear : (t : Bool) {back : List Guest} → back ≡ slice_set gs i (record g { latch = 0; changed = after_change t g.changed }) → IsKept (latch_cleared i w) h names back
  kept_clear t is =
      subst (IsKept (latch_cleared i w) h names) (sym is) (kept_latch at 0 (record g { latch = 0; changed = after_change t g.changed }) refl refl)

-- ---- a call that puts a guest to reset

module _ {h : HostState} {names : List Text} {gs : List Guest} (sound : IsSound h names gs) {now : MachineNow} (view : machine_shown h names gs ≡ now) (i : ℕ) (inside : i < length now.world.guests) where
  -- to which a request that changes it alone comes
  pub requested : {v : WorldNow} {new : HostState} {back : List Guest} → Leaves v h new names back → counts_of back ≡ counted_nth i true (counts_of gs)
      → machine_shown new names back ≡ (let m : MachineNow = record { world = v; counts = counts_where (bytes_eq (name_nth now.world i)) (names_now now.world) now.counts } in m)
  requested {v} {new} {back} left counts =
      let kept = kept_in sound view in
      let name : Text = name_nth now.world i in
      ap₂ (λ (v : WorldNow) (ns : List ℕ). let m : MachineNow = record { world = v; counts = ns } in m) left.world
      (counts ∙ ap (counted_nth i true) (ap (λ (m : MachineNow). m.counts) view)
      ∙ counted_one now.world.guests kept.lawful.seated.names_apart i _ (nth_stands now.world i inside) true now.counts
      ∙ counts_alike (λ x. bytes_eq name x && true) (bytes_eq name) (λ x. and_true (bytes_eq name x)) (names_now now.world) now.counts)

  pub restarted : {new : HostState} {back : List Guest} → Leaves (after_restart (name_nth now.world i) now.world) h new names back → counts_of back ≡ counted_nth i true (counts_of gs)
      → machine_shown new names back ≡ after_request_on_machine now (restarts (name_nth now.world i))
  restarted left counts = requested left counts
