-- A function that is taken from a guest of a world that is kept.
use Rattle.std.{proofs.Common.{◌≡◌, ◌≤◌, ℕ, cond, List, Some, None, Option, slice_set, sym, ap, ◌∙◌, subst}, specs.{Prelude.is_some, Option.option_map_or}}
use Rattle.model_registers.specs.{Declarations.Endpoint, CopiedFiles.after_reset}
use Rattle.model_board.specs.{Paths.Path, Board.Board, AtReset.board_at, State.State, Routing.routing}
use Rattle.model_guests.{specs.{Accesses.{done, refused}, Text.Text, World.declared, Lone.LoneGuest, Guests.{GuestsNow, function_in, path_in, with_guest, with_slot_emptied}, AgreedBoard.with_change_at, DeviceEvents.slot_fault, WorldNow.{WorldNow, board_state}}, proofs.{SeatedMoves.seat_in, Resets.taken_passes}}
use Rattle.model_handoff.{specs.{Kept.IsLawfulOver, ViewLaws.with_seated_reset, Giving.{with_reset_at, take_fault, take_reply, taken, after_take}}, proofs.{Keeping.keeps_board, Giving.{can_take, taken_is, seated_is, board_after_taking, lawful_after_taking, shown_after_taking}, GivenSeats.declared_there}}
use Rattle.host_bridge.specs.{ByIndex.with_reset_nth, HostState.{HostState, with_functions}}
use Rattle.monitor.{specs.{declared.guest.{AssignedFunction.AssignedFunction, Guest.Guest}, Keeping.{AreGuests, IsKept}, ByIndex.{name_nth, lone_nth}, Moves.IsExchanged}, proofs.{Steps.{with_named, GuestAt, SlotAt, function_there, lone_named, path_there}, ResetSteps.board_reset, MoveSteps.left_guests, Calls.{Leaves, leaves}, Checks.low_slot}}

pub reset_by : (s : State) (p : Path) (d : Endpoint) → declared (board_at s.functions) p ≡ Some d → with_reset_at p s ≡ with_change_at (after_reset d) p s
reset_by s p d declares = ap (λ (o : Option Endpoint). option_map_or (λ (e : Endpoint). with_change_at (after_reset e) p s) o s) declares

-- ---- a guest of a world that is kept

module _ {w : WorldNow} {h : HostState} {names : List Text} {gs : List Guest} {i : ℕ} {g : Guest} (at : GuestAt w h names gs i g) (n : ℕ) where
  -- a taking that is refused
  module _ {number : ℕ} (fault : slot_fault (lone_nth w i).slots n ≡ Some number) where
    pub fault_named : take_fault w (name_nth w i) n ≡ Some number
    fault_named = ap (λ (l : LoneGuest). slot_fault l.slots n) (lone_named at) ∙ fault

    pub take_refused : refused number ≡ take_reply w (name_nth w i) n
    take_refused = sym (ap (λ (o : Option ℕ). option_map_or refused o done) fault_named)

    pub nothing_taken : w ≡ after_take w (name_nth w i) n
    nothing_taken = sym (ap (λ (o : Option ℕ). cond (is_some o) w (taken (name_nth w i) n w)) fault_named)

  module _ {held : AssignedFunction} (slot : SlotAt at n held) (low : n ≤ 31) where
    pub may_take : take_fault w (name_nth w i) n ≡ None
    may_take = ap (λ (l : LoneGuest). slot_fault l.slots n) (lone_named at) ∙ taken_passes (lone_nth w i).slots n slot.f (low_slot low) slot.function

    pub take_done : done ≡ take_reply w (name_nth w i) n
    take_done = sym (ap (λ (o : Option ℕ). option_map_or refused o done) may_take)

    declares : declared (board_at w.handoff.functions) slot.p ≡ Some slot.f.decl
    declares =
        declared_there (board_at w.handoff.functions) (path_in w.guests (name_nth w i) n) (function_in w.guests (name_nth w i) n) slot.p slot.f
        (seat_in (board_at w.handoff.functions) w.guests at.kept.lawful.seated.guests (name_nth w i) n) (path_there at slot) (function_there at slot)

    -- in the handoff it is at reset already
    handoff_stays : with_reset_at slot.p w.handoff ≡ w.handoff
    handoff_stays = subst (λ (s : State). with_reset_at slot.p s ≡ s) at.kept.at_reset (seated_is w at.kept.lawful (name_nth w i) n (can_take w (name_nth w i) n may_take) slot.p (path_there at slot))

    abbrev world : WorldNow
    world = record { handoff = with_reset_at slot.p w.handoff; guests = with_guest (with_slot_emptied n) (name_nth w i) w.guests }

    is : after_take w (name_nth w i) n ≡ world
    is = taken_is w (name_nth w i) n may_take slot.p (path_there at slot)

    pub take_left : {was : Option AssignedFunction} {back : List Guest} {new : HostState} → IsExchanged gs i n was None back → new ≡ with_functions (with_reset_nth held.index h.state.functions) h
        → Leaves (after_take w (name_nth w i) n) h new names back
    take_left {was} {back} {new} ex is_new = leaves at.kept kept_taken (ap (λ (s : State). routing s.functions) (sym (ap (λ (v : WorldNow). v.handoff) is ∙ handoff_stays)))
      where
        guests : AreGuests world.handoff names world.guests back
        guests =
            subst (AreGuests world.handoff names world.guests) (sym ex.after)
            (subst (λ (s : State). AreGuests s names world.guests (slice_set gs i ex.guest)) (sym handoff_stays)
            (subst (λ (ws : GuestsNow). AreGuests w.handoff names ws (slice_set gs i ex.guest)) (sym (with_named at (with_slot_emptied n))) (left_guests at ex)))

        agrees : new.state ≡ board_state world
        agrees =
            board_reset at slot is_new
            ∙ sym (reset_by (board_state w) slot.p slot.f.decl (ap (λ (b : Board). declared b slot.p) (keeps_board w.handoff w.guests) ∙ declares))
            ∙ sym (board_after_taking w at.kept.lawful (name_nth w i) n may_take slot.p (path_there at slot)) ∙ ap board_state is

        kept_taken : IsKept (after_take w (name_nth w i) n) new names back
        kept_taken = subst (λ (v : WorldNow). IsKept v new names back) (sym is) (record {
          lawful = subst IsLawfulOver is (lawful_after_taking w at.kept.lawful (name_nth w i) n);
          clear = ap (λ (s : State). s.latch) handoff_stays ∙ at.kept.clear;
          at_reset = ap (λ (v : WorldNow). with_seated_reset v.handoff v.guests) (sym is) ∙ shown_after_taking w at.kept.lawful (name_nth w i) n may_take slot.p (path_there at slot) ∙ at.kept.at_reset ∙ sym handoff_stays;
          agrees = agrees;
          guests = guests;
        })
