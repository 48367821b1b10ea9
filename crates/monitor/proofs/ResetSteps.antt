-- A reset of a function in a slot, and the board after it.
use Rattle.std.{proofs.Common.{◌≡◌, ◌≤◌, ℕ, false, cond, List, Some, None, Option, slice_set, refl, sym, ap, ◌∙◌, subst}, specs.{Prelude.is_some, Option.option_map_or}}
use Rattle.lists.proofs.EachLemmas.{each_map}
use Rattle.model_registers.{specs.{Decoding.Function, CopiedFiles.after_reset, EndpointTable.{BaseAddress, endpoint_reset}, Declarations.ConfigBlock, OwnCopies.HoldsOwn, DeclarationRules.{IsConfigBlock, IsLawfulEndpoint}}, proofs.Owned.reset_holds_own}
use Rattle.model_guests.{specs.{Accesses.{done, refused}, Lone.LoneGuest, Guests.{GuestsNow, lone_of}, WorldNow.{WorldNow, board_state}, AgreedBoard.with_change_at, Text.Text, DeviceEvents.{resets, slot_fault, device_answer, after_device_event, device_after, DeviceEvent, device_changed, device_fault, device_performed, after_device}}, proofs.{Resets.{taken_passes, reset_there, answer_there, reset_reaches_board}, DeviceSeats.seated_after}}
use Rattle.model_board.specs.{AtReset.board_at, State.State, Paths.Path}
use Rattle.bars.proofs.Regions.{no_base_opened}
use Rattle.guest_functions.proofs.ResetCopies.{closed_as_opened}
use Rattle.host_bridge.specs.{ByIndex.with_reset_nth, HostState.{HostState, with_functions}}
use Rattle.monitor.{specs.{declared.guest.{AssignedFunction.AssignedFunction, Guest.Guest}, Keeping.{IsKept, IsHeld}, ByIndex.{lone_nth, with_lone_nth, name_nth}, Moves.{reset_held, HandsOver, IsExchanged}}, proofs.{Steps.{GuestAt, SlotAt, function_there, kept_put, lone_named, path_there, with_named, with_same}, Calls.{Leaves, leaves}, Exchanges.{exchanged_twice, held_same, items_are, latch_stays}, Reached.{lawful, reset_of_held}, Checks.low_slot}}

abbrev pub at_reset : Function → Function
at_reset f = record { decl = f.decl; file = endpoint_reset f.decl false }

pub held_reset : (s : State) (p : Path) (f : Function) (h : AssignedFunction) → IsLawfulEndpoint f.decl → IsHeld s p f h → IsHeld s p (at_reset f) (reset_held h)
held_reset s p f h is_lawful held = record {
  row = held.row;
  placed = held.placed;
  regions = held.regions ∙ sym (no_base_opened h.own.bases);
  own = subst (λ (bs : List BaseAddress). HoldsOwn (endpoint_reset f.decl false) (record { command = 0; bases = bs })) (closed_as_opened f.decl.regions h.own.bases held.regions)
      (reset_holds_own f.decl (each_map IsConfigBlock (λ (c : ConfigBlock). 0x34 ≤ c.offset) f.decl.blocks (λ c is. is.begins) is_lawful.config_blocks));
}

-- ---- what happens at a device of a world that is kept

module _ {w : WorldNow} {h : HostState} {names : List Text} {gs : List Guest} {i : ℕ} {g : Guest} (at : GuestAt w h names gs i g) where
  pub device_named : (e : DeviceEvent) → with_lone_nth i (after_device_event (lone_nth w i) e) w ≡ after_device w (name_nth w i) e
  device_named e = ap (λ (xs : GuestsNow). record w { guests = xs }) (sym (with_named at (device_after e)))

  pub answer_named : (e : DeviceEvent) → device_answer (lone_nth w i) e ≡ device_answer (lone_of w.guests (name_nth w i)) e
  answer_named e = ap (λ (l : LoneGuest). device_answer l e) (sym (lone_named at))

  -- an event that is refused
  module _ (e : DeviceEvent) {number : ℕ} (fault : device_fault (lone_nth w i).slots e ≡ Some number) where
    pub device_refused : refused number ≡ device_answer (lone_of w.guests (name_nth w i)) e
    device_refused = sym (ap (λ (o : Option ℕ). option_map_or refused o (device_performed (lone_nth w i) e)) fault) ∙ answer_named e

    pub nothing_changed : w ≡ after_device w (name_nth w i) e
    nothing_changed =
        sym (with_same at) ∙ ap (λ (o : Option ℕ). with_lone_nth i (cond (is_some o) (lone_nth w i) (device_changed (lone_nth w i) e)) w) (sym fault) ∙ device_named e

  module _ {n : ℕ} {held : AssignedFunction} (slot : SlotAt at n held) where
    -- the board resets the function, and nothing else
    pub board_reset : {new : HostState} → new ≡ with_functions (with_reset_nth held.index h.state.functions) h → new.state ≡ with_change_at (after_reset slot.f.decl) slot.p (board_state w)
    board_reset is_new = reset_of_held at slot is_new ∙ ap (with_change_at (after_reset slot.f.decl) slot.p) at.kept.agrees

    module _ (low : n ≤ 31) where
      pub reset_done : done ≡ device_answer (lone_of w.guests (name_nth w i)) (resets n)
      reset_done = sym (answer_there (lone_nth w i) n slot.f (low_slot low) slot.function) ∙ answer_named (resets n)

      passes : slot_fault (lone_of w.guests (name_nth w i)).slots n ≡ None
      passes = ap (λ (l : LoneGuest). slot_fault l.slots n) (lone_named at) ∙ taken_passes (lone_nth w i).slots n slot.f (low_slot low) slot.function

      pub reset_left : {new : HostState} {back : List Guest} → HandsOver h gs i n i n new back → Leaves (after_device w (name_nth w i) (resets n)) h new names back
      reset_left {new} {back} over =
          let same : over.held ≡ held = held_same at slot over.leaves in
          let is : IsExchanged gs i n (Some over.held) (Some (reset_held over.held)) back = exchanged_twice over.leaves over.comes in
          let board : new ≡ with_functions (with_reset_nth held.index h.state.functions) h = over.board ∙ ap (λ (x : AssignedFunction). with_functions (with_reset_nth x.index h.state.functions) h) same in
          leaves at.kept
          (subst (λ (v : WorldNow). IsKept v new names back) (device_named (resets n))
          (subst (IsKept (with_lone_nth i (after_device_event (lone_nth w i) (resets n)) w) new names) (sym is.after)
          (kept_put at slot (device_after (resets n)) (λ t. refl) (λ t. refl)
          (seated_after (board_at w.handoff.functions) w.guests at.kept.lawful.seated (name_nth w i) (resets n))
          (at_reset slot.f) (reset_held held) (held_reset w.handoff slot.p slot.f held (lawful at slot) slot.held)
          (reset_there (lone_nth w i) n slot.f (low_slot low) slot.function)
          is.guest (latch_stays at is) (items_are at is ∙ ap (λ (x : AssignedFunction). slice_set g.slots.items n (Some (reset_held x))) same)
          new (board_reset board ∙ sym (reset_reaches_board w.handoff w.guests at.kept.lawful.seated (name_nth w i) n passes slot.p slot.f (path_there at slot) (function_there at slot))))))
          refl
