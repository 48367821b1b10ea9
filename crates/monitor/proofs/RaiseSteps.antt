-- A raise of bits of a function in a slot: the checks in their order, and the world after it.
use Rattle.std.{proofs.Common.{◌≡◌, ◌≤◌, ℕ, Bool, true, false, cond, List, Some, None, Option, refl, sym, ap, ◌∙◌, subst, rules, arith}, specs.{Prelude.{is_some, not, if◌then◌else◌}, Option.option_map_or}}
use Rattle.lists.proofs.Indices.{set_same}
use Rattle.model_registers.specs.{Cell.raised, Registers.{File, raise}, Decoding.Function}
use Rattle.model_board.specs.{Paths.Path, State.State}
use Rattle.model_guests.{specs.{Accesses.{Raise, raises, done, refused}, Slots.{raise_place, raise_fault, affected}, Lone.{answer, after_event}, WorldNow.WorldNow, ChangeLaws.with_slot_changed, Text.Text}, proofs.{AgreedFiles.raises_alike, Seats.changed_shape}}
use Rattle.guest_functions.proofs.HeldCopies.{raised_held}
use Rattle.headers.specs.Places.{place_of}
use Rattle.host_bridge.specs.{ByIndex.with_file_nth, HostState.{HostState, with_functions}}
use Rattle.accesses.specs.Accesses.{part_of}
use Rattle.monitor.{specs.{declared.guest.{AssignedFunction.AssignedFunction, Guest.Guest}, Keeping.{IsKept, IsHeld}, ByIndex.{lone_nth, with_lone_nth, guest_nth}, Raises.raised_beside_copies, InSlots.IsSlotFault}, proofs.{Steps.{with_guest_at, kept_slot, GuestAt, SlotAt, fault_lent, in_place, with_same}, Reached.changed_held, Calls.{Leaves, leaves}, Checks.{low_slot, passes_slot, refused_first}}}
use Rattle.headers.specs.declared.place.Place as headers

abbrev pub raise_of : ℕ → headers.Place → ℕ → ℕ → Raise
raise_of slot place off mask = record { slot = slot; part = part_of place; offset = off; mask = mask }

-- what `has_byte_at` says of a function in a slot
abbrev pub HasPlace : AssignedFunction → headers.Place → ℕ → Bool → Type 0
HasPlace held place off has = (s : State) (p : Path) (f : Function) → IsHeld s p f held → has ≡ is_some (raise_place f (part_of place) off)

-- the place of a raise that is not refused
pub named_place : (f : Function) (place : headers.Place) (off : ℕ) → is_some (raise_place f (part_of place) off) ≡ true → raise_place f (part_of place) off ≡ Some (place_of place off)
named_place f place off h = grind arith

-- ---- a function in a slot of a world that is kept

module _ {w : WorldNow} {h : HostState} {names : List Text} {gs : List Guest} {i : ℕ} {g : Guest} (at : GuestAt w h names gs i g) where
  -- a raise that is refused
  module _ (r : Raise) {number : ℕ} (fault : raise_fault (lone_nth w i).slots r ≡ Some number) where
    pub raise_refused : refused number ≡ answer (lone_nth w i) (raises r)
    raise_refused = sym (ap (λ (o : Option ℕ). option_map_or refused o done) fault)

    pub nothing_raised : w ≡ with_lone_nth i (after_event (lone_nth w i) (raises r)) w
    nothing_raised =
        sym (with_same at) ∙ ap (λ (o : Option ℕ). with_lone_nth i (if is_some o then lone_nth w i else record (lone_nth w i) { slots = affected (lone_nth w i).slots (raises r) }) w) (sym fault)

  pub raise_slot_refused : {slots : List (Option AssignedFunction)} → slots ≡ g.slots.items → (r : Raise) {number : ℕ} → IsSlotFault slots r.slot number → raise_fault (lone_nth w i).slots r ≡ Some number
  raise_slot_refused same r fault = search (rules, fault_lent, refused_first)

  module _ {n : ℕ} {held : AssignedFunction} (slot : SlotAt at n held) (low : n ≤ 31) (place : headers.Place) (off mask : ℕ) where
    abbrev r : Raise
    r = raise_of n place off mask

    checked : raise_fault (lone_nth w i).slots r ≡ cond (not (is_some (raise_place slot.f (part_of place) off))) (Some 303) None
    checked = search (rules, low_slot, passes_slot)

    pub no_place : HasPlace held place off false → raise_fault (lone_nth w i).slots r ≡ Some 303
    no_place has = checked ∙ ap (λ (t : Bool). cond {A = Option ℕ} (not t) (Some 303) None) (sym (has w.handoff slot.p slot.f slot.held))

    module _ (has : HasPlace held place off true) where
      passes : raise_fault (lone_nth w i).slots r ≡ None
      passes = checked ∙ ap (λ (t : Bool). cond {A = Option ℕ} (not t) (Some 303) None) (sym (has w.handoff slot.p slot.f slot.held))

      pub raise_done : done ≡ answer (lone_nth w i) (raises r)
      raise_done = sym (ap (λ (o : Option ℕ). option_map_or refused o done) passes)

      abbrev own_change : File → File
      own_change = raise mask (place_of place off)

      world : with_lone_nth i (after_event (lone_nth w i) (raises r)) w ≡ with_guest_at i (with_slot_changed own_change n (guest_nth w i)) w
      world = grind (arith, passes, named_place)

      pub raise_written : {new : HostState} → new ≡ with_functions (with_file_nth (raised_beside_copies mask (place_of place off)) held.index h.state.functions) h
          → Leaves (with_lone_nth i (after_event (lone_nth w i) (raises r)) w) h new names gs
      raise_written {new} is_new = leaves at.kept
          (subst (λ (v : WorldNow). IsKept v new names gs) (sym world)
          (in_place at _ new
          (kept_slot at slot own_change (raised_beside_copies mask (place_of place off)) (raises_alike mask (place_of place off))
          (changed_shape (raised mask) (λ c. refl) (place_of place off))
          held.own (raised_held held.own slot.f.file slot.held.own mask (place_of place off)) refl
          g refl (sym (set_same g.slots.items n (Some held) slot.holds))
          new
          (changed_held at slot (raised_beside_copies mask (place_of place off)) is_new))))
          refl
