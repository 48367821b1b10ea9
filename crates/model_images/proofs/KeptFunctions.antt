-- Whatever happens, what holds of each function at reset, and is kept by each change of a function, holds of all of them.
use Rattle.std.{proofs.{Common.{◌≡◌, ℕ, zero, suc, Bool, true, cond, List, [], ◌∷◌, Some, None, Option, refl, sym, ap, ◌∙◌, subst, arith}, lemmas.Nat.and_assoc}, specs.{Prelude.{map, option_map, slice_set, bit_and, is_some}, Option.option_map_or, Int.Bits.and_self}}
use Rattle.lists.specs.Elements.{Each}
use Rattle.model_registers.specs.{Registers.{Place, File, write, raise, all_bytes}, Declarations.Endpoint, DeviceBytes.{is_device_byte, set_value}, Decoding.Function, ConfigAddress.latched}
use Rattle.model_board.specs.Paths.{Path}
use Rattle.model_guests.{specs.{Accesses.{Event, access, raises, Op, writes, Raise}, Slots.{Slots, slot_at, with_file, reset_function, Landing, effect, raise_landing, event_fault}, Text.Text, Lone.{LoneGuest, Destination, destination, after_access_at, after_event, changed_by, filled, emptied}, World.{Guest, World}, Guests.{GuestNow, GuestsNow, guest_at_first, guests_at_first, guest_after, lone_of, Move, handed_over}, Lines.{nothing, guest_event, host_read, host_move, bad}, DeviceEvents.{DeviceEvent, resets, device_reads, device_writes, byte_landing, DeviceByte, device_fault, after_device_event, device_changed, device_after}, Calls.{asks, at_device, Call, after_call}, WorldNow.WorldNow}, proofs.Seats.guests_stay}
use Rattle.model_handoff.specs.{Actions.{Action, after_action}, Giving.{Gift, given, taken}}
use Rattle.model_images.{specs.Images.{Image, image_of_lone, lone_of_image, loaded, function_at_reset, at_reset, after_load, after_restart}, proofs.Loading.lone_reset_back}

abbrev pub Keeps : (Option Function → Type 0) → (File → File) → Type 0
Keeps H change = (f : Function) → H (Some f) → H (Some (record f { file = change f.file }))

pub record AreKept (H : Option Function → Type 0) : Type 0 where
  pub write : (ons : List Bool) (v : ℕ) (p : Place) → Keeps H (write ons v p)
  pub raise : (m : ℕ) (p : Place) → Keeps H (raise m p)
  pub put : (v : ℕ) (p : Place) → is_device_byte p ≡ true → Keeps H (set_value v p)
  pub reset : (o : Option Endpoint) → H (reset_function o)

-- with a latch that holds no bit that it doesn't have
pub record Has (H : Option Function → Type 0) (g : LoneGuest) : Type 0 where
  pub latch : latched g.latch ≡ g.latch
  pub functions : Each H g.slots

module _ (H : Option Function → Type 0) (kept : AreKept H) where
  slot_holds : (fs : Slots) (n : ℕ) (f : Function) → Each H fs → slot_at fs n ≡ Some f → H (Some f)
  slot_holds [] n f all at = cc
  slot_holds (g ∷ gs) zero f all at = subst H at all.0
  slot_holds (g ∷ gs) (suc n) f all at = slot_holds gs n f all.1 at

  each_set : (fs : Slots) (n : ℕ) (o : Option Function) → Each H fs → H o → Each H (slice_set fs n o)
  each_set [] n o all h = tt
  each_set (f ∷ fs) zero o all h = (h, all.1)
  each_set (f ∷ fs) (suc n) o all h = (all.0, each_set fs n o all.1 h)

  with_file_holds : (change : File → File) → Keeps H change → (n : ℕ) (fs : Slots) → Each H fs → Each H (with_file change n fs)
  with_file_holds change keeps n fs all = grind (arith, slot_holds, each_set)

  latched_twice : (v : ℕ) → latched (latched v) ≡ latched v
  latched_twice v = and_assoc 0x80fffffc v 0x80fffffc ∙ ap (bit_and v) (and_self 0x80fffffc)

  -- ---- events

  pub effect_holds : (v w : ℕ) (fs : Slots) (o : Option Landing) → Each H fs → Each H (effect (writes v) w fs o)
  effect_holds v w fs None h = h
  effect_holds v w fs (Some l) h = with_file_holds (write (all_bytes w) v l.place) (kept.write (all_bytes w) v l.place) l.slot fs h

  pub access_holds : (g : LoneGuest) (op : Op) (w : ℕ) (d : Destination) → Has H g → Has H (after_access_at g op w d)
  access_holds g op w d h = grind (arith, latched_twice, effect_holds)

  raised_holds : (r : Raise) (fs : Slots) (o : Option Place) → Each H fs → Each H (option_map_or (λ (p : Place). with_file (raise r.mask p) r.slot fs) o fs)
  raised_holds r fs None h = h
  raised_holds r fs (Some p) h = with_file_holds (raise r.mask p) (kept.raise r.mask p) r.slot fs h

  event_changes : (g : LoneGuest) (e : Event) → Has H g → Has H (changed_by g e)
  event_changes g (access a) h = access_holds g a.op a.width (destination g.latch a.width a.target) h
  event_changes g (raises r) h = record { latch = h.latch; functions = raised_holds r g.slots (raise_landing (slot_at g.slots r.slot) r) h.functions }

  either_holds : (t : Bool) (g k : LoneGuest) → Has H g → Has H k → Has H (cond t g k)
  either_holds t g k h i = grind arith

  pub event_holds : (g : LoneGuest) (e : Event) → Has H g → Has H (after_event g e)
  event_holds g e h = either_holds (is_some (event_fault g.slots e)) g (changed_by g e) h (event_changes g e h)

  filled_holds : (n : ℕ) (d : Endpoint) (g : LoneGuest) → Has H g → Has H (filled n d g)
  filled_holds n d g h = record { latch = h.latch; functions = each_set g.slots n (reset_function (Some d)) h.functions (kept.reset (Some d)) }

  emptied_holds : (n : ℕ) (g : LoneGuest) → Has H g → Has H (emptied n g)
  emptied_holds n g h = record { latch = h.latch; functions = each_set g.slots n None h.functions (kept.reset None) }

  -- ---- events at devices

  landing_is_device : (o : Option Function) (d : DeviceByte) (p : Place) → byte_landing o d ≡ Some p → is_device_byte p ≡ true
  landing_is_device o d p h = grind arith

  put_holds : (d : DeviceByte) (v : ℕ) (fs : Slots) (o : Option Place) → ((p : Place) → o ≡ Some p → is_device_byte p ≡ true) → Each H fs
      → Each H (option_map_or (λ (p : Place). with_file (set_value v p) d.slot fs) o fs)
  put_holds d v fs None device h = h
  put_holds d v fs (Some p) device h = with_file_holds (set_value v p) (kept.put v p (device p refl)) d.slot fs h

  reset_in_holds : (n : ℕ) (g : LoneGuest) (o : Option Function) → Has H g → Has H (option_map_or (λ (f : Function). filled n f.decl g) o g)
  reset_in_holds n g o h = grind (arith, filled_holds)

  device_changes : (g : LoneGuest) (e : DeviceEvent) → Has H g → Has H (device_changed g e)
  device_changes g (resets n) h = reset_in_holds n g (slot_at g.slots n) h
  device_changes g (device_reads d) h = h
  device_changes g (device_writes d v) h = record {
    latch = h.latch;
    functions = put_holds d v g.slots (byte_landing (slot_at g.slots d.slot) d) (landing_is_device (slot_at g.slots d.slot) d) h.functions;
  }

  device_holds : (g : LoneGuest) (e : DeviceEvent) → Has H g → Has H (after_device_event g e)
  device_holds g e h = either_holds (is_some (device_fault g.slots e)) g (device_changed g e) h (device_changes g e h)

  -- ---- all guests

  abbrev OfLone : GuestNow → Type 0
  OfLone t = Has H t.lone

  abbrev AllHave : GuestsNow → Type 0
  AllHave gs = Each OfLone gs

  handed_holds : (m : Move) (p : Option Path) (o : Option Function) (gs : GuestsNow) → AllHave gs → AllHave (handed_over m p o gs)
  handed_holds m p o gs h = grind (arith, guests_stay, filled_holds, emptied_holds)

  either_have : (t : Bool) (gs hs : GuestsNow) → AllHave gs → AllHave hs → AllHave (cond t gs hs)
  either_have t gs hs h k = grind arith

  call_holds : (w : WorldNow) (c : Call) → AllHave w.guests → AllHave (after_call w c).guests
  call_holds w (asks nothing) h = h
  call_holds w (asks (guest_event n e)) h = guests_stay OfLone (guest_after e) (λ t k. event_holds t.lone e k) n w.guests h
  call_holds w (asks (host_read r)) h = h
  call_holds w (asks (host_move m)) h = grind (arith, either_have, handed_holds)
  call_holds w (asks (bad who k)) h = h
  call_holds w (at_device n e) h = guests_stay OfLone (device_after e) (λ t k. device_holds t.lone e k) n w.guests h

  given_holds : (w : WorldNow) (g : Gift) (t : Bool) (o : Option Endpoint) → AllHave w.guests → AllHave (cond t w (given g o w)).guests
  given_holds w g t o h = grind (arith, guests_stay, filled_holds)

  taken_holds : (w : WorldNow) (name : Text) (n : ℕ) (t : Bool) → AllHave w.guests → AllHave (cond t w (taken name n w)).guests
  taken_holds w name n t h = grind (arith, guests_stay, emptied_holds)

  pub action_holds : (w : WorldNow) (a : Action) → AllHave w.guests → AllHave (after_action w a).guests
  action_holds w a h = grind (arith, call_holds, given_holds, taken_holds)

  -- ---- loads, restarts, and at first

  pub load_holds : (w : WorldNow) (name : Text) (i : Image) → Has H (lone_of_image i) → AllHave w.guests → AllHave (after_load name i w).guests
  load_holds w name i has h = guests_stay OfLone (loaded i) (λ t k. has) name w.guests h

  resets_hold : (os : List (Option Endpoint)) → Each H (map reset_function os)
  resets_hold [] = tt
  resets_hold (o ∷ os) = (kept.reset o, resets_hold os)

  slots_at_reset : (fs : Slots) → Each H (map function_at_reset fs)
  slots_at_reset [] = tt
  slots_at_reset (f ∷ fs) = (kept.reset (option_map (λ (g : Function). g.decl) f), slots_at_reset fs)

  pub restart_holds : (w : WorldNow) (name : Text) → AllHave w.guests → AllHave (after_restart name w).guests
  restart_holds w name h =
      let g : LoneGuest = lone_of w.guests name in
      load_holds w name (image_of_lone (at_reset g)) (subst (Has H) (sym (lone_reset_back g)) (record { latch = refl; functions = slots_at_reset g.slots })) h

  first_holds : (w : World) (gs : List Guest) → AllHave (map (guest_at_first w) gs)
  first_holds w [] = tt
  first_holds w (g ∷ gs) = (record { latch = refl; functions = resets_hold _ }, first_holds w gs)

  pub holds_at_first : (w : World) → AllHave (guests_at_first w)
  holds_at_first w = first_holds w w.guests
