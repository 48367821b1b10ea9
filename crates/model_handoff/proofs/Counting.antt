-- A guest's count: while it stays, each answer stays where the regions of its functions stand.
--     same_guest      where a guest is as it was, so is each of its answers
--     lawful_after_action, names_after      after an action the world is lawful, and has the same names
--     none_first, grown      changes of which the first is known, and what is counted then
--     counted_by      a machine after anything that changes no name, counted by a test of names
--     none_counted      what has the count that it had has not changed
--     there_by_index      a guest that a name is found for by its index
use Rattle.std.{proofs.{Common.{◌≡◌, ◌<◌, ◌+◌, ◌^◌, ◌%◌, ℕ, Bool, true, false, ◌&&◌, ◌||◌, not, cond, eqb, List, [], ◌∷◌, Some, None, Option, refl, sym, ap, ap₂, ◌∙◌, subst, arith, zero-add}, lemmas.Bool.and_parts}, specs.{Prelude.{is_some, IsSome, slice_get}, Option.option_map_or, Str.bytes_eq}}
use Rattle.model_board.specs.AtReset.{board_at}
use Rattle.model_guests.{specs.{Accesses.{Event, access, raises, Access}, Slots.{Landing, fault_of}, Text.Text, Lone.{LoneGuest, after_event, changed_by}, Guests.{GuestsNow, guest_named, lone_of, guest_after, move_fault}, Lines.{nothing, guest_event, host_read, host_move, bad}, WorldNow.{names_of, WorldNow, names_now}, DeviceEvents.{resets, device_reads, device_writes, slot_fault, device_after, after_device_event, reset_in}, Calls.{Call, asks, at_device, after_call}}, proofs.{Along.{names_with, names_meaning}, Names.{equal_texts, same_text}, OneGuest.lone_by}}
use Rattle.model_handoff.{specs.{GuestRegions.region_answer, Located.located, StayLaws.{any_tells, is_write, rewrites, touches, moves_regions}, Kept.IsLawfulOver, Actions.{Action, after_action, after_actions}, Changes.{moves_own, moves_by_call, changes, changes_along, after_change, counts_where, MachineNow, after_on_machine, after_all_on_machine}, CountLaws.{HaveSameAnswers, RegionsStayAlong, ChangesTouchSlots, IsCounted, CountsGrow, AnswersStay}}, proofs.{Staying.only_own_events_move_regions, DevicesOver.lawful_after_devices, Kept.lawful_after_meaning, Actions.there_after, Giving.{lawful_after_gift, lawful_after_taking, others_after_gift, others_after_taking}}}
use Rattle.lists.proofs.Tests.{and_false}
use Rattle.model_registers.proofs.RegisterFiles.{self}

-- ---- one call

-- a write of the guest's own that changes nothing is refused, or lands elsewhere
quiet_write : (g : LoneGuest) (slot : ℕ) (a : Access) → is_some (fault_of a) ≡ false → moves_own g (access a) ≡ false → rewrites slot g (access a) ≡ false
quiet_write g slot a done none = grind arith

module _ (w : WorldNow) (h : IsLawfulOver w) (name : Text) (there : IsSome (guest_named w.guests name)) where
  abbrev Stays : WorldNow → Type 0
  Stays v = HaveSameAnswers w v name

  -- by a call that touches no slot
  untouched : (c : Call) → ((slot : ℕ) → moves_regions name slot w.guests c ≡ false) → Stays (after_call w c)
  untouched c none slot n = only_own_events_move_regions (board_at w.handoff.functions) h.handoff.board.declarations w h.seated name there slot n c (none slot)

  -- by what leaves the guest as it is
  pub same_guest : (v : WorldNow) → lone_of v.guests name ≡ lone_of w.guests name → HaveSameAnswers w v name
  same_guest v same slot n = ap (λ (g : LoneGuest). region_answer g slot n) same

  kept_if : (t : Bool) (g : LoneGuest) → g ≡ lone_of w.guests name → cond t g (lone_of w.guests name) ≡ lone_of w.guests name
  kept_if t g e = grind arith

  by_own : (who : Text) (e : Event) → who ≡ name → moves_own (lone_of w.guests who) e ≡ false → Stays (after_call w (asks (guest_event who e)))
  by_own who (raises r) is none = untouched (asks (guest_event who (raises r))) (λ slot. and_false (bytes_eq who name))
  by_own who (access a) is none = cases (is_some (fault_of a)) refl
    where
      of_slot : (slot : ℕ) (t : Bool) → rewrites slot (lone_of w.guests name) (access a) ≡ false → (t && rewrites slot (lone_of w.guests name) (access a)) ≡ false
      of_slot slot t e = grind arith

      cases : (t : Bool) → is_some (fault_of a) ≡ t → Stays (after_call w (asks (guest_event who (access a))))
      cases true e =
          same_guest (after_call w (asks (guest_event who (access a))))
          (lone_by (guest_after (access a)) (λ t. refl) (λ (g : LoneGuest). after_event g (access a)) (λ t. refl) who name w.guests there
          ∙ kept_if (bytes_eq who name) (after_event (lone_of w.guests name) (access a))
          (ap (λ (t : Bool). cond t (lone_of w.guests name) (changed_by (lone_of w.guests name) (access a))) e))
      cases false e = grind (arith, untouched (asks (guest_event who (access a))), of_slot, quiet_write (lone_of w.guests name))

  stay_by_call : (c : Call) → moves_by_call name w.guests c ≡ false → Stays (after_call w c)
  stay_by_call (asks nothing) none = untouched (asks nothing) (λ slot. refl)
  stay_by_call (asks (guest_event who e)) none = cases (bytes_eq who name) refl none
    where
      cases : (t : Bool) → bytes_eq who name ≡ t → (t && moves_own (lone_of w.guests who) e) ≡ false → Stays (after_call w (asks (guest_event who e)))
      cases true same k = by_own who e (equal_texts who name same) k
      cases false other k = untouched (asks (guest_event who e)) (λ slot. ap (λ (t : Bool). t && rewrites slot (lone_of w.guests name) e) other)
  stay_by_call (asks (host_read r)) none = untouched (asks (host_read r)) (λ slot. refl)
  stay_by_call (asks (host_move m)) none =
      untouched (asks (host_move m)) (λ slot. less (not (is_some (move_fault w.guests m))) (bytes_eq m.from name) (eqb m.slot slot) (bytes_eq m.to name) (eqb m.target slot) none)
    where
      less : (t a b c d : Bool) → (t && (a || c)) ≡ false → (t && ((a && b) || (c && d))) ≡ false
      less t a b c d e = grind arith
  stay_by_call (asks (bad who k)) none = untouched (asks (bad who k)) (λ slot. refl)
  stay_by_call (at_device who (resets k)) none = cases (bytes_eq who name) refl none
    where
      after : (t : Bool) → is_some (slot_fault (lone_of w.guests name).slots k) ≡ t → (not t) ≡ false → Stays (after_call w (at_device who (resets k)))
      after true e still =
          same_guest (after_call w (at_device who (resets k)))
          (lone_by (device_after (resets k)) (λ t. refl) (λ (g : LoneGuest). after_device_event g (resets k)) (λ t. refl) who name w.guests there
          ∙ kept_if (bytes_eq who name) (after_device_event (lone_of w.guests name) (resets k))
          (ap (λ (t : Bool). cond t (lone_of w.guests name) (reset_in k (lone_of w.guests name))) e))
      after false e still = cc

      cases : (t : Bool) → bytes_eq who name ≡ t → (t && not (is_some (slot_fault (lone_of w.guests who).slots k))) ≡ false → Stays (after_call w (at_device who (resets k)))
      cases true same still = grind (arith, after (is_some (slot_fault (lone_of w.guests name).slots k)) refl, equal_texts who name same)
      cases false other still = untouched (at_device who (resets k)) (λ slot. ap (λ (t : Bool). t && eqb k slot) other)
  stay_by_call (at_device who (device_reads d)) none = untouched (at_device who (device_reads d)) (λ slot. refl)
  stay_by_call (at_device who (device_writes d v)) none = untouched (at_device who (device_writes d v)) (λ slot. refl)

  -- ---- one action

  stay_by_action : (a : Action) → changes name w a ≡ false → Stays (after_action w a)
  stay_by_action a none = grind (arith, stay_by_call, same_guest, others_after_gift, others_after_taking)

-- ---- along actions

pub lawful_after_action : (w : WorldNow) → IsLawfulOver w → (a : Action) → IsLawfulOver (after_action w a)
lawful_after_action w h a = grind (arith, lawful_after_meaning w, lawful_after_devices w, lawful_after_gift w h, lawful_after_taking w h)

pub none_first : (t : Bool) (n : ℕ) → cond t 1 0 + n ≡ 0 → (t ≡ false) × (n ≡ 0)
none_first t n e = grind arith

pub regions_stay_along : RegionsStayAlong
regions_stay_along w h name there [] none slot n = refl
regions_stay_along w h name there (a ∷ more) none slot n =
    let parts = none_first (changes name w a) (changes_along name (after_action w a) more) none in
    regions_stay_along (after_action w a) (lawful_after_action w h a) name (there_after w name there a) more parts.1 slot n
    ∙ stay_by_action w h name there a parts.0 slot n

-- ---- what changes a guest touches a slot

touched_write : (name who : Text) (w : WorldNow) (a : Access) → bytes_eq who name ≡ true → moves_own (lone_of w.guests name) (access a) ≡ true
    → (slot : ℕ) × (moves_regions name slot w.guests (asks (guest_event who (access a))) ≡ true)
touched_write name who w a same moves = by (is_write a.op) (not (is_some (fault_of a))) (located (lone_of w.guests name) a.target) refl refl moves
  where
    by : (t u : Bool) (o : Option Landing) → is_write a.op ≡ t → located (lone_of w.guests name) a.target ≡ o
        → (t && u && option_map_or (λ (l : Landing). any_tells a.width l.place) o false) ≡ true
        → (slot : ℕ) × (moves_regions name slot w.guests (asks (guest_event who (access a))) ≡ true)
    by false u o e f k = cc
    by true false o e f k = cc
    by true true None e f k = cc
    by true true (Some l) e f k = (
      l.slot,
      grind (arith, self l.slot),
    )

pub changes_touch_slots : ChangesTouchSlots
changes_touch_slots name w (asks nothing) moves = cc
changes_touch_slots name w (asks (guest_event who (access a))) moves =
    grind (arith, and_parts (bytes_eq who name) (moves_own (lone_of w.guests who) (access a)) moves, touched_write name who w a, equal_texts who name)
changes_touch_slots name w (asks (guest_event who (raises r))) moves = let parts = and_parts (bytes_eq who name) false moves in cc (parts.1)
changes_touch_slots name w (asks (host_read r)) moves = cc
changes_touch_slots name w (asks (host_move m)) moves = by (not (is_some (move_fault w.guests m))) (bytes_eq m.from name) (bytes_eq m.to name) refl refl refl moves
  where
    by : (t a b : Bool) → not (is_some (move_fault w.guests m)) ≡ t → bytes_eq m.from name ≡ a → bytes_eq m.to name ≡ b → (t && (a || b)) ≡ true
        → (slot : ℕ) × (touches name slot w.guests m ≡ true)
    by false a b e f g k = cc
    by true false false e f g k = cc
    by true true b e f g k = (
      m.slot,
      ap₂ (λ (t u : Bool). t && ((u && eqb m.slot m.slot) || (bytes_eq m.to name && eqb m.target m.slot))) e f
          ∙ ap (λ (u : Bool). u || (bytes_eq m.to name && eqb m.target m.slot)) (self m.slot),
    )
    by true false true e f g k = grind (arith, self m.target)
changes_touch_slots name w (asks (bad who k)) moves = cc
changes_touch_slots name w (at_device who (resets k)) moves =
    grind (arith, and_parts (bytes_eq who name) (not (is_some (slot_fault (lone_of w.guests who).slots k))) moves, self k)
changes_touch_slots name w who moves = cc

-- ---- counts

-- no action changes a name
pub names_after : (w : WorldNow) (a : Action) → names_now (after_action w a) ≡ names_now w
names_after w a = grind (arith, names_with, names_meaning)

count_where : (test : Text → Bool) (ts : List Text) (ns : List ℕ) (i : ℕ) (name : Text) (n : ℕ) → slice_get ts i ≡ Some name → slice_get ns i ≡ Some n
    → slice_get (counts_where test ts ns) i ≡ Some (after_change (test name) n)
count_where test [] ns i name n named counted = cc
count_where test (t ∷ ts) ns i name n named counted = grind (arith, count_where test ts)

wrapped_fits : (t : Bool) (n : ℕ) → n < 2 ^ 64 → after_change t n < 2 ^ 64
wrapped_fits t n fits = grind arith

pub counted_by : (m : MachineNow) (v : WorldNow) → names_now v ≡ names_now m.world → (test : Text → Bool) (i : ℕ) (name : Text) (n : ℕ) → IsCounted m i name n
    → IsCounted (record { world = v; counts = counts_where test (names_now m.world) m.counts }) i name (after_change (test name) n)
counted_by m v stay test i name n is = grind (arith, count_where test (names_now m.world) m.counts i name n is.named is.counted, wrapped_fits (test name) n is.fits)

counted_after : (m : MachineNow) (i : ℕ) (name : Text) (n : ℕ) → IsCounted m i name n → (a : Action)
    → IsCounted (after_on_machine m a) i name (after_change (changes name m.world a) n)
counted_after m i name n is a = counted_by m (after_action m.world a) (names_after m.world a) (λ t. changes t m.world a) i name n is

pub grown : (t : Bool) (n k : ℕ) → n < 2 ^ 64 → (after_change t n + k) % 2 ^ 64 ≡ (n + (cond t 1 0 + k)) % 2 ^ 64
grown t n k fits = grind (arith, zero-add)

pub counts_grow : CountsGrow
counts_grow m i name n is [] = subst (IsCounted m i name) (let whole : n ≡ (n + 0) % 2 ^ 64 = let fits = is.fits in omega arith in whole) is
counts_grow m i name n is (a ∷ more) = grind (arith, counts_grow (after_on_machine m a) i name (after_change (changes name m.world a) n) (counted_after m i name n is a) more, grown, counted_after)

-- ---- answers

world_along : (actions : List Action) (m : MachineNow) → (after_all_on_machine m actions).world ≡ after_actions m.world actions
world_along [] m = refl
world_along (a ∷ more) m = world_along more (after_on_machine m a)

pub none_counted : (m v : MachineNow) (i : ℕ) (name : Text) (n k : ℕ) → IsCounted m i name n → IsCounted v i name ((n + k) % 2 ^ 64) → k < 2 ^ 64 → IsCounted v i name n → k ≡ 0
none_counted m v i name n k is grew few later = grind arith

pub there_by_index : (gs : GuestsNow) (i : ℕ) (name : Text) → slice_get (names_of gs) i ≡ Some name → IsSome (guest_named gs name)
there_by_index [] i name named = cc
there_by_index (g ∷ gs) i name named = grind (arith, same_text name, there_by_index gs)

pub answers_stay : AnswersStay
answers_stay m h i name n is actions few later =
    subst (λ (v : WorldNow). HaveSameAnswers m.world v name) (sym (world_along actions m))
    (regions_stay_along m.world h name (there_by_index m.world.guests i name is.named) actions
    (none_counted m (after_all_on_machine m actions) i name n (changes_along name m.world actions) is (counts_grow m i name n is actions) few later))
