-- One guest of a world that is kept, one of its slots, and the world after a change of that slot.
use Rattle.std.{proofs.Common.{◌≡◌, ℕ, zero, suc, List, [], ◌∷◌, length, Some, None, Option, slice_get, slice_set, refl, sym, ap, ◌∙◌, subst, rules, arith}, specs.{Prelude.{map, unwrap_or}, Option.option_map_or}}
use Rattle.lists.proofs.Indices.{set_same}
use Rattle.model_registers.specs.{Registers.File, EndpointTable.opened, OwnCopies.{OwnCopies, HoldsOwn}, Decoding.Function, CopiedFiles.shape_of}
use Rattle.model_board.specs.{Paths.Path, Board.Board, AtReset.board_at, State.State}
use Rattle.model_guests.{specs.{Text.Text, Slots.{Slots, slot_at}, Guests.{GuestNow, GuestsNow, guest_named, path_in, with_guest, function_in, lone_of}, WorldNow.WorldNow, AgreedBoard.{with_change_at, state_over}, Seated.{IsSeatedGuest, AreSeated}, ChangeLaws.{ChangesAlike, with_slot_changed, with_latch}, Lone.{LoneGuest, reset_guest}, DeviceEvents.slot_fault}, proofs.{GuestFiles.with_file_there, GuestsByName.{Keeps, path_at, path_of}, Seats.{names_stay, guests_stay, paths_stay, with_file_seats}, Along.by_index, Changes.{changes_one_function, latch_keeps_board}}}
use Rattle.model_handoff.proofs.{Served.served_with, Views.reset_with}
use Rattle.host_bridge.specs.HostState.{HostState}
use Rattle.monitor.specs.{declared.guest.{AssignedFunction.AssignedFunction, Guest.Guest}, Keeping.{IsHeld, AreSlots, IsGuest, AreGuests, IsKept, IsSlot}, ByIndex.{guest_nth, lone_nth, name_nth, with_lone_nth}, InSlots.IsSlotFault}

-- ---- one slot

pub record SlotOf (s : State) (qs : List (Option Path)) (fs : Slots) (n : ℕ) (h : AssignedFunction) : Type 0 where
  pub p : Path
  pub f : Function
  pub path : path_at qs n ≡ Some p
  pub function : slot_at fs n ≡ Some f
  pub held : IsHeld s p f h

module _ (s : State) where
  pub slot_there : (qs : List (Option Path)) (fs : Slots) (os : List (Option AssignedFunction)) (n : ℕ) (h : AssignedFunction) → AreSlots s qs fs os → slice_get os n ≡ Some (Some h) → SlotOf s qs fs n h
  slot_there [] [] [] n h are at = cc
  slot_there (None ∷ qs) (None ∷ fs) (None ∷ os) zero h are at = cc
  slot_there (Some p ∷ qs) (Some f ∷ fs) (Some k ∷ os) zero h are at = grind arith
  slot_there (q ∷ qs) (f ∷ fs) (o ∷ os) (suc n) h are at = grind (arith, slot_there qs fs os n h)
  slot_there (q ∷ qs) (f ∷ fs) (o ∷ os) zero h are at = absurd are.0
  slot_there qs fs os n h are at = absurd are

  -- no function is in a slot without one, nor past the last
  pub slot_empty : (qs : List (Option Path)) (fs : Slots) (os : List (Option AssignedFunction)) (n : ℕ) → AreSlots s qs fs os → unwrap_or (slice_get os n) None ≡ None → slot_at fs n ≡ None
  slot_empty [] [] [] n are at = refl
  slot_empty p (None ∷ fs) (o ∷ os) zero are at = refl
  slot_empty (Some p ∷ qs) (Some f ∷ fs) (Some h ∷ os) zero are at = cc
  slot_empty (q ∷ qs) (f ∷ fs) (o ∷ os) (suc n) are at = slot_empty qs fs os n are.1 at
  slot_empty (q ∷ qs) (f ∷ fs) (o ∷ os) zero are at = absurd are.0
  slot_empty qs fs os n are at = absurd are

  pub slots_count : (qs : List (Option Path)) (fs : Slots) (os : List (Option AssignedFunction)) → AreSlots s qs fs os → length os ≡ length qs
  slots_count [] [] [] are = refl
  slots_count (q ∷ qs) (f ∷ fs) (o ∷ os) are = ap suc (slots_count qs fs os are.1)
  slots_count qs fs os are = absurd are

  pub slots_put : (qs : List (Option Path)) (fs : Slots) (os : List (Option AssignedFunction)) (n : ℕ) (q : Option Path) (f : Option Function) (o : Option AssignedFunction) → AreSlots s qs fs os → IsSlot s q f o
      → AreSlots s (slice_set qs n q) (slice_set fs n f) (slice_set os n o)
  slots_put [] [] [] n q f o are is = tt
  slots_put (p ∷ qs) (g ∷ fs) (x ∷ os) zero q f o are is = (is, are.1)
  slots_put (p ∷ qs) (g ∷ fs) (x ∷ os) (suc n) q f o are is = (are.0, slots_put qs fs os n q f o are.1 is)
  slots_put qs fs os n q f o are is = absurd are

-- a path that is there stays as it is
set_path : (qs : List (Option Path)) (n : ℕ) (p : Path) → path_at qs n ≡ Some p → slice_set qs n (Some p) ≡ qs
set_path [] n p at = refl
set_path (q ∷ qs) zero p at = ap (λ (x : Option Path). x ∷ qs) (sym at)
set_path (q ∷ qs) (suc n) p at = ap (λ (xs : List (Option Path)). q ∷ xs) (set_path qs n p at)

-- ---- one guest

pub record GuestOf (s : State) (ws : GuestsNow) (i : ℕ) (g : Guest) : Type 0 where
  pub x : GuestNow
  pub name : Text
  pub there : slice_get ws i ≡ Some x
  pub is : IsGuest s name x g

module _ (s : State) where
  pub guest_there : (ts : List Text) (ws : GuestsNow) (gs : List Guest) (i : ℕ) (g : Guest) → AreGuests s ts ws gs → slice_get gs i ≡ Some g → GuestOf s ws i g
  guest_there [] [] [] i g are at = cc
  guest_there (t ∷ ts) (w ∷ ws) (k ∷ gs) zero g are at = let same : k ≡ g = cc in record { x = w; name = t; there = refl; is = subst (IsGuest s t w) same are.0 }
  guest_there (t ∷ ts) (w ∷ ws) (k ∷ gs) (suc i) g are at = grind (arith, guest_there ts ws gs i g)
  guest_there ts ws gs i g are at = absurd are

  -- as many guests as the world has
  pub guests_within : (ts : List Text) (ws : GuestsNow) (gs : List Guest) → AreGuests s ts ws gs → length gs ≡ length ws
  guests_within [] [] [] are = refl
  guests_within (t ∷ ts) (w ∷ ws) (k ∷ gs) are = ap suc (guests_within ts ws gs are.1)
  guests_within ts ws gs are = absurd are

  pub guests_set : (ts : List Text) (ws : GuestsNow) (gs : List Guest) (i : ℕ) (x y : GuestNow) (k : Guest) → AreGuests s ts ws gs → slice_get ws i ≡ Some x
      → ((t : Text) → x.name ≡ t → IsGuest s t y k) → AreGuests s ts (slice_set ws i y) (slice_set gs i k)
  guests_set [] [] [] i x y k are at is = tt
  guests_set (t ∷ ts) (w ∷ ws) (g ∷ gs) zero x y k are at is = let same : w ≡ x = cc in (is t (ap (λ (z : GuestNow). z.name) (sym same) ∙ are.0.name_is), are.1)
  guests_set (t ∷ ts) (w ∷ ws) (g ∷ gs) (suc i) x y k are at is = (are.0, guests_set ts ws gs i x y k are.1 at is)
  guests_set ts ws gs i x y k are at is = absurd are

-- a guest of a world that is kept, by its index
pub record GuestAt (w : WorldNow) (h : HostState) (names : List Text) (gs : List Guest) (i : ℕ) (g : Guest) : Type 0 where
  pub kept : IsKept w h names gs
  pub stands : slice_get gs i ≡ Some g
  pub there : slice_get w.guests i ≡ Some (guest_nth w i)
  pub name : Text
  pub is : IsGuest w.handoff name (guest_nth w i) g

pub nth_there : (w : WorldNow) (i : ℕ) (x : GuestNow) → slice_get w.guests i ≡ Some x → x ≡ guest_nth w i
nth_there w i x at = sym (ap (λ (o : Option GuestNow). unwrap_or o (record { name = []; paths = []; lone = reset_guest [] })) at)

pub kept_nth : {w : WorldNow} {h : HostState} {names : List Text} {gs : List Guest} {i : ℕ} {g : Guest} → IsKept w h names gs → slice_get gs i ≡ Some g → GuestAt w h names gs i g
kept_nth {w} {h} {names} {gs} {i} {g} kept stands =
    let one = guest_there w.handoff names w.guests gs i g kept.guests stands in
    let same : one.x ≡ guest_nth w i = nth_there w i one.x one.there in
    record { kept = kept; stands = stands; there = one.there ∙ ap Some same; name = one.name; is = subst (λ (x : GuestNow). IsGuest w.handoff one.name x g) same one.is }

-- ---- the world after a change

-- a change that keeps name and paths, and leaves seats seats
pub seated_with : (b : Board) (gs : GuestsNow) (change : GuestNow → GuestNow) (name : Text) → Keeps change → ((t : GuestNow) → (change t).paths ≡ t.paths)
    → ((t : GuestNow) → IsSeatedGuest b t → IsSeatedGuest b (change t)) → AreSeated b gs → AreSeated b (with_guest change name gs)
seated_with b gs change name keeps paths seats seated = search (rules, guests_stay, names_stay, paths_stay)

-- the world with this guest there
abbrev pub with_guest_at : ℕ → GuestNow → WorldNow → WorldNow
with_guest_at i x w = record w { guests = slice_set w.guests i x }

module _ {w : WorldNow} {h : HostState} {names : List Text} {gs : List Guest} {i : ℕ} {g : Guest} (at : GuestAt w h names gs i g) where
  -- a function in one of its slots
  pub record SlotAt (n : ℕ) (held : AssignedFunction) : Type 0 where
    pub holds : slice_get g.slots.items n ≡ Some (Some held)
    pub of : SlotOf w.handoff (guest_nth w i).paths (lone_nth w i).slots n held
    pub open of use *

  pub slot_nth : {n : ℕ} {held : AssignedFunction} → slice_get g.slots.items n ≡ Some (Some held) → SlotAt n held
  slot_nth {n} {held} holds = record { holds = holds; of = slot_there w.handoff (guest_nth w i).paths (lone_nth w i).slots g.slots.items n held at.is.slots holds }

  -- the slots as code lends them
  pub slots_lent : {slots : List (Option AssignedFunction)} → slots ≡ g.slots.items → AreSlots w.handoff (guest_nth w i).paths (lone_nth w i).slots slots
  slots_lent same = subst (AreSlots w.handoff (guest_nth w i).paths (lone_nth w i).slots) (sym same) at.is.slots

  pub slot_lent : {slots : List (Option AssignedFunction)} {n : ℕ} {held : AssignedFunction} → slots ≡ g.slots.items → slice_get slots n ≡ Some (Some held) → SlotAt n held
  slot_lent {slots} {n} {held} same there = slot_nth (ap (λ (os : List (Option AssignedFunction)). slice_get os n) (sym same) ∙ there)

  pub empty_lent : {slots : List (Option AssignedFunction)} (n : ℕ) → slots ≡ g.slots.items → unwrap_or (slice_get slots n) None ≡ None → slot_at (lone_nth w i).slots n ≡ None
  empty_lent {slots} n same none = slot_empty w.handoff (guest_nth w i).paths (lone_nth w i).slots slots n (slots_lent same) none

  pub fault_lent : {slots : List (Option AssignedFunction)} (n : ℕ) {number : ℕ} → slots ≡ g.slots.items → IsSlotFault slots n number → slot_fault (lone_nth w i).slots n ≡ Some number
  fault_lent n same fault = fault w.handoff (guest_nth w i).paths (lone_nth w i).slots (slots_lent same)

  pub named : guest_named w.guests (name_nth w i) ≡ Some (guest_nth w i)
  named = (by_index w.guests at.kept.lawful.seated.names_apart i (guest_nth w i) at.there).0

  pub with_named : (change : GuestNow → GuestNow) → with_guest change (name_nth w i) w.guests ≡ slice_set w.guests i (change (guest_nth w i))
  with_named change = (by_index w.guests at.kept.lawful.seated.names_apart i (guest_nth w i) at.there).1 change

  pub lone_named : lone_of w.guests (name_nth w i) ≡ lone_nth w i
  lone_named = ap (λ (o : Option GuestNow). option_map_or (λ (t : GuestNow). t.lone) o (reset_guest [])) named

  pub path_named : (n : ℕ) → path_in w.guests (name_nth w i) n ≡ path_at (guest_nth w i).paths n
  path_named n = ap (λ (o : Option GuestNow). path_of o n) named

  pub function_by_name : (n : ℕ) → function_in w.guests (name_nth w i) n ≡ slot_at (lone_nth w i).slots n
  function_by_name n = ap (λ (l : LoneGuest). slot_at l.slots n) lone_named

  -- nothing changes
  pub with_same : with_lone_nth i (lone_nth w i) w ≡ w
  with_same = ap (λ (xs : GuestsNow). record w { guests = xs }) (set_same w.guests i (guest_nth w i) at.there)

  pub in_place : (v : WorldNow) (after : HostState) → IsKept v after names (slice_set gs i g) → IsKept v after names gs
  in_place v after = subst (IsKept v after names) (set_same gs i g at.stands)

  -- what a change of the guest leaves, where it keeps its name and its paths and all stay seated
  pub kept_changed : (change : GuestNow → GuestNow) → Keeps change → ((t : GuestNow) → (change t).paths ≡ t.paths)
      → AreSeated (board_at w.handoff.functions) (with_guest change (name_nth w i) w.guests)
      → (after : HostState) → after.state ≡ state_over w.handoff (with_guest change (name_nth w i) w.guests)
      → (k : Guest) → ((t : Text) → name_nth w i ≡ t → IsGuest w.handoff t (change (guest_nth w i)) k)
      → IsKept (with_guest_at i (change (guest_nth w i)) w) after names (slice_set gs i k)
  kept_changed change keeps paths seated after state k is =
      let guests : with_guest change (name_nth w i) w.guests ≡ slice_set w.guests i (change (guest_nth w i)) = with_named change in
      subst (λ (ws : GuestsNow). IsKept (record w { guests = ws }) after names (slice_set gs i k)) guests (record {
        lawful = record {
          handoff = at.kept.lawful.handoff;
          order = at.kept.lawful.order;
          seated = seated;
          served = served_with change keeps paths w.handoff w.guests at.kept.lawful.served (name_nth w i);
        };
        clear = at.kept.clear;
        at_reset = reset_with change paths w.handoff w.guests (name_nth w i) ∙ at.kept.at_reset;
        agrees = state;
        guests = subst (λ (ws : GuestsNow). AreGuests w.handoff names ws (slice_set gs i k)) (sym guests)
            (guests_set w.handoff names w.guests gs i (guest_nth w i) (change (guest_nth w i)) k at.kept.guests at.there is);
      })

  module _ {n : ℕ} {held : AssignedFunction} (slot : SlotAt n held) where
    pub path_there : path_in w.guests (name_nth w i) n ≡ Some slot.p
    path_there = path_named n ∙ slot.path

    pub function_there : function_in w.guests (name_nth w i) n ≡ Some slot.f
    function_there = function_by_name n ∙ slot.function

    -- the same where one function changes, and is kept so
    pub kept_put : (change : GuestNow → GuestNow) → Keeps change → ((t : GuestNow) → (change t).paths ≡ t.paths)
        → AreSeated (board_at w.handoff.functions) (with_guest change (name_nth w i) w.guests)
        → (f : Function) (now : AssignedFunction) → IsHeld w.handoff slot.p f now
        → (change (guest_nth w i)).lone ≡ record (lone_nth w i) { slots = slice_set (lone_nth w i).slots n (Some f) }
        → (k : Guest) → k.latch ≡ g.latch → k.slots.items ≡ slice_set g.slots.items n (Some now)
        → (after : HostState) → after.state ≡ state_over w.handoff (with_guest change (name_nth w i) w.guests)
        → IsKept (with_guest_at i (change (guest_nth w i)) w) after names (slice_set gs i k)
    kept_put change keeps paths seated f now is lone k latch items after state =
        kept_changed change keeps paths seated after state k (λ t e. record {
          name_is = keeps (guest_nth w i) ∙ e;
          latch = ap (λ (l : LoneGuest). l.latch) lone ∙ at.is.latch ∙ sym latch;
          slots = subst (λ (qs : List (Option Path)). AreSlots w.handoff qs (change (guest_nth w i)).lone.slots k.slots.items)
              (set_path (guest_nth w i).paths n slot.p slot.path ∙ sym (paths (guest_nth w i)))
              (subst (λ (l : LoneGuest). AreSlots w.handoff (slice_set (guest_nth w i).paths n (Some slot.p)) l.slots k.slots.items) (sym lone)
              (subst (AreSlots w.handoff (slice_set (guest_nth w i).paths n (Some slot.p)) (slice_set (lone_nth w i).slots n (Some f))) (sym items)
              (slots_put w.handoff (guest_nth w i).paths (lone_nth w i).slots g.slots.items n (Some slot.p) (Some f) (Some now) at.is.slots is)));
        })

    -- the same of a change of its file
    pub kept_slot : (own_change board_change : File → File) → ChangesAlike own_change board_change → ((file : File) → shape_of (own_change file) ≡ shape_of file)
        → (own : OwnCopies) → HoldsOwn (own_change slot.f.file) own → map opened own.bases ≡ map opened held.own.bases
        → (k : Guest) → k.latch ≡ g.latch → k.slots.items ≡ slice_set g.slots.items n (Some (record held { own = own }))
        → (after : HostState) → after.state ≡ with_change_at board_change slot.p h.state
        → IsKept (with_guest_at i (with_slot_changed own_change n (guest_nth w i)) w) after names (slice_set gs i k)
    kept_slot own_change board_change alike keeps own holds regions k latch items after state =
        let held_now : IsHeld w.handoff slot.p (record slot.f { file = own_change slot.f.file }) (record held { own = own }) = grind arith in
        kept_put (with_slot_changed own_change n) (λ t. refl) (λ t. refl)
        (seated_with (board_at w.handoff.functions) w.guests (with_slot_changed own_change n) (name_nth w i) (λ t. refl) (λ t. refl)
        (λ t s. record { count = s.count; seats = with_file_seats (board_at w.handoff.functions) t.paths own_change keeps n t.lone.slots s.seats }) at.kept.lawful.seated)
        (record slot.f { file = own_change slot.f.file }) (record held { own = own }) held_now
        (ap (λ (fs : Slots). record (lone_nth w i) { slots = fs }) (with_file_there own_change n (lone_nth w i).slots slot.f slot.function))
        k latch items after (state ∙ ap (with_change_at board_change slot.p) at.kept.agrees
        ∙ sym (changes_one_function w.handoff w.guests at.kept.lawful.seated (name_nth w i) n slot.p path_there own_change board_change alike))

  pub kept_latch : (latch : ℕ) (k : Guest) → k.latch ≡ latch → k.slots.items ≡ g.slots.items → IsKept (with_guest_at i (with_latch latch (guest_nth w i)) w) h names (slice_set gs i k)
  kept_latch latch k is slots =
      kept_changed (with_latch latch) (λ t. refl) (λ t. refl)
      (seated_with (board_at w.handoff.functions) w.guests (with_latch latch) (name_nth w i) (λ t. refl) (λ t. refl) (λ t s. record { count = s.count; seats = s.seats }) at.kept.lawful.seated)
      h (at.kept.agrees ∙ sym (latch_keeps_board w.handoff w.guests (name_nth w i) latch))
      k (λ t e. record { name_is = e; latch = sym is; slots = subst (AreSlots w.handoff (guest_nth w i).paths (lone_nth w i).slots) (sym slots) at.is.slots })
