-- A guest into which an image is loaded: from reset its functions take their values, slot by slot, and it its latch.
--     Filled, filled_at, none_of      a function that was found in a slot, by what is told of its values
--     lone_count      a guest has 32 slots
--     holds_at      a slot with a function, as code holds it
--     keeps_function, is_loadable      the function is kept in the slot, and takes its values
--     slot_kept, empty_kept      the world after it took them, and after an empty slot
--     filled_behind, empty_behind      the bytes behind those of the slot
--     SlotsSoFar, keeps_so_far      what is kept of such a guest
--     slots_so_far, none_loaded, goes_on, ends      a guest whose slots below n took theirs; slot after slot
--     can_so_far, rest_so_far      what the next slot takes, and what it leaves
--     loadable_at_reset, all_loaded_is      a guest at reset takes what it took, and holds then what the image says
--     latch_kept, latch_read      the world after the latch is written, and what is written
--     takes_named, image_fits      bytes that the guest of this name takes; they are an image of it
--     loaded_is, keeps_lent, load_left, is_loaded      the guest by its name, and what the call leaves
use Rattle.std.{proofs.{Common.{◌≡◌, ◌<◌, ◌+◌, ℕ, suc, true, false, List, [], ◌∷◌, length, take, drop, get_or, Fits, w8, Some, None, Option, Ok, slice_get, slice_set, refl, sym, ap, ap₂, ◌∙◌, subst, arith}, lemmas.{Option.same_Some, List.drop-drop}}, specs.Prelude.{map, option_map, unwrap_or}}
use Rattle.model_registers.specs.{ConfigAddress.latched, EndpointTable.endpoint_reset, Decoding.Function}
use Rattle.model_guests.specs.{Text.Text, Slots.{Slots, slot_at}, Lone.LoneGuest, Guests.{GuestsNow, lone_of}, WorldNow.WorldNow}
use Rattle.model_handoff.specs.Changes.{MachineNow}
use Rattle.model_images.{specs.{Images.{Image, restored, loaded, lone_of_image, after_load, at_reset}, ByteLaws.{AreBytes, IsSavableGuest}, LoadedBytes.{after_latch, load_fault}, LoadedLaws.IsFittingImage, TakenBytes.{values_begin, slot_size, taken_function, taken_slot, taken_image, le_number}}, proofs.{LoadedBytes.savable_is_declared, TakenBytes.{accepted_is_taken, image_is_taken, slots_are_taken}}}
use Rattle.host_bridge.specs.HostState.{HostState}
use Rattle.monitor.{specs.{declared.guest.{AssignedFunction.AssignedFunction, Guest.Guest}, ByIndex.{guest_nth, lone_nth, name_nth, with_lone_nth}, Configs.HoldsAt, Counts.{counted_nth, counts_of}, Keeping.{IsKept, IsSound}, Views.{machine_shown, slot_shown}, Loadings.{KeepsFunction, Becomes, IsLoadable, filled_with}, Loads.{AreLoadable, CanLoad, IsLoaded, KeepsWorld, Takes, slot_loaded, slots_loaded, value_span}}, proofs.{Landed.same_count, Steps.{GuestAt, kept_latch, lone_named, slot_empty, slot_nth, with_named, with_same}, Exchanges.holds_nth, Calls.{Leaves, leaves}, RestartSteps.{lone_set, none_set, requested, set_again}, SavedImages.{few_slots, lone_is}, LoadedSlots.{all_loaded, bytes_after, bytes_before, can_load, latch_there, loaded_lone, next_rest, one_more, reset_taken, reset_takes, reset_twice, rest_at, still_there}}}

-- what code holds in bytes
pub are_bytes : (xs : List ℕ) → ((i : ℕ) → Fits w8 (get_or xs i 0)) → AreBytes xs
are_bytes [] h = tt
are_bytes (x ∷ xs) h = let low : Fits w8 x = h 0 in (grind arith, are_bytes xs (λ i. h (suc i)))

-- ---- a slot

-- whose function's values begin behind so many bytes, and are so many
pub record Filled (o : Option Function) (first count : ℕ) : Type 0 where
  pub f : Function
  pub function : o ≡ Some f
  pub begins : values_begin f.decl ≡ first
  pub many : length (endpoint_reset f.decl false) ≡ count

span_of : (o : Option Function) (first count : ℕ) → Some (first, count) ≡ option_map value_span o → Filled o first count
span_of None first count h = cc
span_of (Some f) first count h = grind (arith, same_Some)

-- of a slot that is told by another
pub filled_at : {o p : Option Function} → p ≡ o → (first count : ℕ) → Some (first, count) ≡ option_map value_span p → Filled o first count
filled_at {o} {p} same first count h = subst (λ (x : Option Function). Filled x first count) same (span_of p first count h)

pub none_of : (o : Option Function) → None ≡ option_map value_span o → o ≡ None
none_of None h = refl
none_of (Some f) h = cc

held_there : (os : List (Option AssignedFunction)) (n : ℕ) (held : AssignedFunction) → unwrap_or (slice_get os n) None ≡ Some held → slice_get os n ≡ Some (Some held)
held_there os n held h = grind arith

module _ {w : WorldNow} {h : HostState} {names : List Text} {gs : List Guest} {i : ℕ} {g : Guest} (at : GuestAt w h names gs i g) where
  pub lone_count : length (lone_nth w i).slots ≡ 32
  lone_count = same_count w.handoff (guest_nth w i).paths (lone_nth w i).slots g.slots.items at.is.slots ∙ few_slots at

  pub slot_is : (n : ℕ) {slots : List (Option AssignedFunction)} → slots ≡ g.slots.items → slot_at (map (slot_shown h.state.functions) slots) n ≡ slot_at (lone_nth w i).slots n
  slot_is n same = ap (λ (os : List (Option AssignedFunction)). slot_at (map (slot_shown h.state.functions) os) n) same ∙ ap (λ (l : LoneGuest). slot_at l.slots n) (sym (lone_is at))

  pub holds_at : (n : ℕ) (f : Function) → slot_at (lone_nth w i).slots n ≡ Some f → HoldsAt gs i n
  holds_at n f there = by (unwrap_or (slice_get g.slots.items n) None) refl
    where
      by : (o : Option AssignedFunction) → unwrap_or (slice_get g.slots.items n) None ≡ o → HoldsAt gs i n
      by None e = let none = slot_empty w.handoff (guest_nth w i).paths (lone_nth w i).slots g.slots.items n at.is.slots e in absurd (cc there)
      by (Some held) e = holds_nth at (slot_nth at (held_there g.slots.items n held e))

  module _ (n first count : ℕ) (is : Filled (slot_at (lone_nth w i).slots n) first count) where
    abbrev pub keeps_function : KeepsFunction h gs i n
    keeps_function = record { world = w; names = names; kept = at.kept; f = is.f; function = is.function; holds = holds_at n is.f is.function }

    module _ (bytes values : List ℕ) (are : values ≡ take count (drop first bytes)) where
      values_are : values ≡ (taken_function is.f bytes).values
      values_are = are ∙ ap₂ (λ (m k : ℕ). take m (drop k bytes)) (sym is.many) (sym is.begins)

      pub is_loadable : CanLoad (slot_at (lone_nth w i).slots n) bytes → IsLoadable keeps_function values
      is_loadable can = grind (arith, same_Some, values_are, bytes_before, bytes_after)

      pub slot_kept : {new : HostState} {back : List Guest} → Becomes keeps_function (restored (filled_with values is.f)).file new back
          → IsKept (with_lone_nth i (slot_loaded n bytes (lone_nth w i)) w) new names back
      slot_kept {new} {back} holds = grind (arith, values_are)

    pub filled_behind : (bytes values result : List ℕ) → values ≡ drop first bytes → result ≡ drop count values → result ≡ drop (slot_size (slot_at (lone_nth w i).slots n)) bytes
    filled_behind bytes values result are h = grind (arith, drop-drop)

  module _ (n : ℕ) (none : slot_at (lone_nth w i).slots n ≡ None) where
    pub empty_behind : (bytes result : List ℕ) → result ≡ drop 1 bytes → result ≡ drop (slot_size (slot_at (lone_nth w i).slots n)) bytes
    empty_behind bytes result h = h ∙ ap (λ (o : Option Function). drop (slot_size o) bytes) (sym none)

    pub empty_kept : (bytes : List ℕ) → IsKept (with_lone_nth i (slot_loaded n bytes (lone_nth w i)) w) h names gs
    empty_kept bytes =
        subst (λ (v : WorldNow). IsKept v h names gs)
        (sym (with_same at) ∙ ap (λ (l : LoneGuest). with_lone_nth i l w) (ap (λ (xs : Slots). let l : LoneGuest = record (lone_nth w i) { slots = xs } in l)
        (sym (none_set (lone_nth w i).slots n none) ∙ ap (λ (o : Option Function). slice_set (lone_nth w i).slots n (option_map restored (taken_slot o bytes))) (sym none)))) at.kept

-- ---- slot after slot

abbrev pub slots_so_far : ℕ → List ℕ → ℕ → WorldNow → WorldNow
slots_so_far n bytes i w = with_lone_nth i (loaded_lone n bytes (lone_nth w i)) w

-- what is kept then, and the bytes behind these slots
pub record SlotsSoFar {h : HostState} {gs : List Guest} (k : KeepsWorld h gs) (n i : ℕ) (bytes left : List ℕ) (new : HostState) (back : List Guest) : Type 0 where
  pub kept : IsKept (slots_so_far n bytes i k.world) new k.names back
  pub rest : left ≡ rest_at n (lone_nth k.world i).slots bytes

abbrev pub keeps_so_far : {h new : HostState} {gs back : List Guest} {k : KeepsWorld h gs} {n i : ℕ} {bytes left : List ℕ} → SlotsSoFar k n i bytes left new back → KeepsWorld new back
keeps_so_far {h} {new} {gs} {back} {k} {n} {i} {bytes} far = record { world = slots_so_far n bytes i k.world; names = k.names; kept = far.kept }

module _ {w : WorldNow} {h : HostState} {names : List Text} {gs : List Guest} {i : ℕ} {g : Guest} (at : GuestAt w h names gs i g) (bytes : List ℕ) where
  pub none_loaded : slots_so_far 0 bytes i w ≡ w
  none_loaded = with_same at

  module _ (n : ℕ) where
    abbrev now : LoneGuest
    now = loaded_lone n bytes (lone_nth w i)

    same_slot : slot_at (lone_nth (slots_so_far n bytes i w) i).slots n ≡ slot_at (lone_nth w i).slots n
    same_slot = ap (λ (l : LoneGuest). slot_at l.slots n) (lone_set w i at.there now) ∙ still_there n (lone_nth w i).slots bytes

    module _ (left : List ℕ) (are : left ≡ rest_at n (lone_nth w i).slots bytes) where
      pub can_so_far : AreLoadable (lone_nth w i).slots bytes → n < 32 → CanLoad (slot_at (lone_nth (slots_so_far n bytes i w) i).slots n) left
      can_so_far loadable low =
          let within : n < length (lone_nth w i).slots = omega (arith, low, lone_count at) in
          subst (λ (xs : List ℕ). CanLoad (slot_at (lone_nth (slots_so_far n bytes i w) i).slots n) xs) (sym are)
          (subst (λ (o : Option Function). CanLoad o (rest_at n (lone_nth w i).slots bytes)) (sym same_slot) (can_load slots_are_taken n (lone_nth w i).slots bytes loadable within))

      module _ (m : ℕ) (next : m ≡ n + 1) where
        more : suc n ≡ m
        more = omega (arith, next)

        pub rest_so_far : (result : List ℕ) → result ≡ drop (slot_size (slot_at (lone_nth (slots_so_far n bytes i w) i).slots n)) left → result ≡ rest_at m (lone_nth w i).slots bytes
        rest_so_far result h = grind (arith, same_slot, next_rest, rest_at, more)

        pub goes_on : with_lone_nth i (slot_loaded n left (lone_nth (slots_so_far n bytes i w) i)) (slots_so_far n bytes i w) ≡ slots_so_far m bytes i w
        goes_on = grind (arith, set_again, lone_set, one_more, more)

    pub ends : n ≡ 32 → slots_so_far n bytes i w ≡ with_lone_nth i (slots_loaded bytes (lone_nth w i)) w
    ends is =
        ap (λ (k : ℕ). slots_so_far k bytes i w) (is ∙ sym (lone_count at))
        ∙ ap (λ (fs : Slots). with_lone_nth i (record (lone_nth w i) { slots = fs }) w) (all_loaded (lone_nth w i).slots bytes)

-- ---- reset, slots, and the latch

module _ {w : WorldNow} {h : HostState} {names : List Text} {gs : List Guest} {i : ℕ} {g : Guest} (at : GuestAt w h names gs i g) (bytes : List ℕ) where
  abbrev pub world_at_reset : WorldNow
  world_at_reset = with_lone_nth i (at_reset (lone_nth w i)) w

  lone_at_reset : lone_nth world_at_reset i ≡ at_reset (lone_nth w i)
  lone_at_reset = lone_set w i at.there (at_reset (lone_nth w i))

  abbrev the_image : Image
  the_image = taken_image (lone_nth w i) bytes

  pub loadable_at_reset : Takes (lone_nth w i) bytes → (slots : List ℕ) → slots ≡ drop 12 bytes → AreLoadable (lone_nth world_at_reset i).slots slots
  loadable_at_reset takes slots are =
      let image = image_is_taken (lone_nth w i) bytes takes.accepted in
      subst (λ (xs : List ℕ). AreLoadable (lone_nth world_at_reset i).slots xs) (sym are)
      (subst (λ (l : LoneGuest). AreLoadable l.slots (drop 12 bytes)) (sym lone_at_reset) (record {
        at_reset = reset_twice (lone_nth w i).slots;
        taken = reset_takes (lone_nth w i).slots (drop 12 bytes) ∙ image.slots;
        are_bytes = bytes_after 12 bytes takes.are_bytes;
      }))

  module _ (slots : List ℕ) (are : slots ≡ drop 12 bytes) where
    abbrev filled : LoneGuest
    filled = slots_loaded (drop 12 bytes) (at_reset (lone_nth w i))

    -- with its functions loaded
    abbrev pub with_slots : WorldNow
    with_slots = with_lone_nth i (slots_loaded slots (lone_nth world_at_reset i)) world_at_reset

    filled_is : with_slots ≡ with_lone_nth i filled w
    filled_is = grind (arith, set_again, lone_at_reset)

    pub all_loaded_is : with_lone_nth i (record (lone_nth with_slots i) { latch = the_image.latch }) with_slots ≡ with_lone_nth i (lone_of_image the_image) w
    all_loaded_is = grind (arith, filled_is, lone_set, set_again, reset_taken)

-- its latch, which is written last
pub latch_kept : {w : WorldNow} {h : HostState} {names : List Text} {gs back : List Guest} {i : ℕ} {g : Guest} → GuestAt w h names gs i g → (n value : ℕ) → value ≡ n → latched n ≡ n
    → back ≡ slice_set gs i (record g { latch = latched value }) → IsKept (with_lone_nth i (record (lone_nth w i) { latch = n }) w) h names back
latch_kept {w} {h} {names} {gs} {back} {i} {g} at n value same is_latch is =
    let k : Guest = record g { latch = latched value } in
    subst (IsKept (with_lone_nth i (record (lone_nth w i) { latch = n }) w) h names) (sym is) (kept_latch at n k (ap latched same ∙ is_latch) refl)

pub latch_read : (l : LoneGuest) (bytes from : List ℕ) (n : ℕ) → load_fault l bytes ≡ None → from ≡ drop 8 bytes → ((rest : List ℕ) → after_latch from ≡ Ok rest → n ≡ le_number (take 4 from)) → n ≡ (taken_image l bytes).latch
latch_read l bytes from n accepted are reads = grind (arith, image_is_taken, latch_there)

-- ---- the guest by its name

module _ {w : WorldNow} {h : HostState} {names : List Text} {gs : List Guest} {i : ℕ} {g : Guest} (at : GuestAt w h names gs i g) where
  pub loaded_is : (image : Image) → with_lone_nth i (lone_of_image image) w ≡ after_load (name_nth w i) image w
  loaded_is image = ap (λ (xs : GuestsNow). record w { guests = xs }) (sym (with_named at (loaded image)))

  pub takes_named : (bytes : List ℕ) → load_fault (lone_of w.guests (name_nth w i)) bytes ≡ None → AreBytes bytes → Takes (lone_nth w i) bytes
  takes_named bytes accepted are = record { accepted = ap (λ (l : LoneGuest). load_fault l bytes) (sym (lone_named at)) ∙ accepted; are_bytes = are }

  pub image_fits : (bytes : List ℕ) → Takes (lone_nth w i) bytes → IsSavableGuest (lone_of w.guests (name_nth w i))
      → IsFittingImage (lone_of w.guests (name_nth w i)) bytes (taken_image (lone_nth w i) bytes)
  image_fits bytes takes savable =
      let l : LoneGuest = lone_of w.guests (name_nth w i) in
      let accepted : load_fault l bytes ≡ None = ap (λ (x : LoneGuest). load_fault x bytes) (lone_named at) ∙ takes.accepted in
      subst (λ (x : LoneGuest). IsFittingImage l bytes (taken_image x bytes)) (lone_named at) (accepted_is_taken l (savable_is_declared l savable) bytes takes.are_bytes accepted)

  -- as code lends the guests
  abbrev pub keeps_lent : {lent : List Guest} → lent ≡ gs → KeepsWorld h lent
  keeps_lent same = record { world = w; names = names; kept = subst (IsKept w h names) (sym same) at.kept }

  pub load_left : (image : Image) {new : HostState} {back : List Guest} → IsKept (with_lone_nth i (lone_of_image image) w) new names back → Leaves (after_load (name_nth w i) image w) h new names back
  load_left image {new} {back} after = leaves at.kept (subst (λ (v : WorldNow). IsKept v new names back) (loaded_is image) after) refl

-- ---- a call that loads a guest

module _ {h : HostState} {names : List Text} {gs : List Guest} (sound : IsSound h names gs) {now : MachineNow} (view : machine_shown h names gs ≡ now) (i : ℕ) (inside : i < length now.world.guests) where
  pub is_loaded : (bytes : List ℕ) (image : Image) → IsFittingImage (lone_of now.world.guests (name_nth now.world i)) bytes image → {new : HostState} {back : List Guest}
      → Leaves (after_load (name_nth now.world i) image now.world) h new names back → counts_of back ≡ counted_nth i true (counts_of gs) → IsLoaded now (name_nth now.world i) bytes (machine_shown new names back)
  is_loaded bytes image is left counts = record { image = image; is_image = is; machine = requested sound view i inside left counts }
