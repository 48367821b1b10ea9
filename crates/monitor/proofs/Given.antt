-- The world after a gift.
use Rattle.std.{proofs.Common.{◌≡◌, ◌<◌, ℕ, cond, List, Some, None, Option, slice_get, slice_set, refl, sym, ap, ◌∙◌, subst, arith}, specs.Prelude.{is_some, IsSome, Result, Ok}}
use Rattle.model_registers.specs.Declarations.{Endpoint}
use Rattle.model_board.specs.{Paths.Path, Board.{endpoint, Board}, AtReset.board_at, Routing.routing, State.State}
use Rattle.model_findings.specs.Orderly.{IsStateOfBoard}
use Rattle.model_guests.specs.{Slots.reset_function, Text.Text, World.declared, Guests.{GuestNow, GuestsNow, guest_named, with_guest, with_slot_filled}, WorldNow.{WorldNow, board_state}}
use Rattle.model_handoff.{specs.{Kept.IsLawfulOver, ViewLaws.with_seated_reset, Giving.{Gift, with_reset_at, give_fault, after_give, given}}, proofs.{Keeping.keeps_board, Regions.state_stays, Alike.IsAlike, Giving.{CanGive, can_give, given_is, is_alike, board_after_gift, lawful_after_gift, shown_after_gift}, GivenSeats.below}}
use Rattle.host_bridge.specs.{ByIndex.with_reset_nth, HostState.{HostState, with_functions}}
use Rattle.monitor.{specs.{declared.{guest.{AssignedFunction.AssignedFunction, Guest.Guest}, slots.assign_error.AssignError.AssignError}, ByIndex.{name_nth, guest_nth, lone_nth}, Keeping.{AreGuests, IsKept, IsSlot, AreSlots}, Moves.{HasSlot, IsExchanged}, Seatings.{MakesGift, gift_nth}}, proofs.{Carried.guests_carried, Steps.{guests_set, with_named, GuestAt, named, slots_put}, TakenOver.reset_row, TakingSteps.reset_by, Calls.{Leaves, leaves}, Exchanges.{has_nth, items_are, latch_stays}}}

-- what is made in the world that is kept
pub makes_gift : {w : WorldNow} {h : HostState} {names : List Text} {gs lent : List Guest} → IsKept w h names gs → {p : Path} {i n : ℕ} {r : Result AssignedFunction AssignError} → lent ≡ gs
    → ((v : WorldNow) (ts : List Text) → IsKept v h ts lent → MakesGift v p i n r) → MakesGift w p i n r
makes_gift {w} {h} {names} kept same makes = makes w names (subst (IsKept w h names) (sym same) kept)

pub nothing_given : (w : WorldNow) (g : Gift) {number : ℕ} → Some number ≡ give_fault w g → w ≡ after_give w g
nothing_given w g fault = ap (λ (o : Option ℕ). cond (is_some o) w (given g (declared (board_at w.handoff.functions) g.path) w)) fault

pub board_kept : {w : WorldNow} {h : HostState} {names : List Text} {gs : List Guest} → IsKept w h names gs → IsStateOfBoard h.state.functions
board_kept {w} kept = subst (λ (s : State). IsStateOfBoard s.functions) (sym kept.agrees) (state_stays w.handoff kept.lawful.handoff.board w.guests)

module _ {w : WorldNow} {h : HostState} {names : List Text} {gs : List Guest} {i : ℕ} {g : Guest} (at : GuestAt w h names gs i g) {p : Path} {n : ℕ} {held : AssignedFunction} (makes : MakesGift w p i n (Ok held)) where
  abbrev the_gift : Gift
  the_gift = gift_nth w p i n

  fault : give_fault w the_gift ≡ None
  fault = sym makes.fault

  can : (d : Endpoint) × CanGive w the_gift d
  can = can_give w the_gift fault

  abbrev d : Endpoint
  d = can.0

  pub has_room : HasSlot gs i n
  has_room = let low : n < 32 = below n can.1.low in has_nth at (omega arith)

  there : IsSome (guest_named w.guests (name_nth w i))
  there = subst IsSome (sym (named at)) refl

  abbrev filled : GuestNow
  filled = with_slot_filled n (Some p) d (guest_nth w i)

  abbrev world : WorldNow
  world = record { handoff = with_reset_at p w.handoff; guests = with_guest (with_slot_filled n (Some p) d) (name_nth w i) w.guests }

  is : after_give w the_gift ≡ world
  is = given_is w the_gift d fault can.1.declares

  alike : IsAlike w.handoff (with_reset_at p w.handoff)
  alike = is_alike w at.kept.lawful the_gift d can.1

  comes : IsSlot w.handoff (Some p) (reset_function (Some d)) (Some held)
  comes = subst (λ (o : Option Endpoint). IsSlot w.handoff (Some p) (reset_function o) (Some held)) can.1.declares makes.comes

  pub give_left : {empty : Option AssignedFunction} {back : List Guest} {new : HostState} → IsExchanged gs i n empty (Some held) back → new ≡ with_functions (with_reset_nth held.index h.state.functions) h
      → Leaves (after_give w the_gift) h new names back
  give_left {empty} {back} {new} ex is_new = leaves at.kept kept_given (sym alike.routing_is ∙ ap (λ (x : WorldNow). routing x.handoff.functions) (sym is))
    where
      put : AreGuests w.handoff names (slice_set w.guests i filled) (slice_set gs i ex.guest)
      put =
          guests_set w.handoff names w.guests gs i (guest_nth w i) filled ex.guest at.kept.guests at.there (λ t e. record {
            name_is = e;
            latch = at.is.latch ∙ sym (latch_stays at ex);
            slots = subst (AreSlots w.handoff (slice_set (guest_nth w i).paths n (Some p)) (slice_set (lone_nth w i).slots n (reset_function (Some d)))) (sym (items_are at ex))
                (slots_put w.handoff (guest_nth w i).paths (lone_nth w i).slots g.slots.items n (Some p) (reset_function (Some d)) (Some held) at.is.slots comes);
          })

      guests : AreGuests world.handoff names world.guests back
      guests =
          subst (AreGuests world.handoff names world.guests) (sym ex.after)
          (subst (λ (ws : GuestsNow). AreGuests (with_reset_at p w.handoff) names ws (slice_set gs i ex.guest)) (sym (with_named at (with_slot_filled n (Some p) d)))
          (guests_carried w.handoff (with_reset_at p w.handoff) at.kept.lawful.handoff.board alike.handoff.board alike.board alike.routing_is names (slice_set w.guests i filled) (slice_set gs i ex.guest) put))

      row_now : slice_get (board_at h.state.functions) held.index ≡ Some (record { path = p; decl = endpoint d })
      row_now = ap (λ (s : State). slice_get (board_at s.functions) held.index) at.kept.agrees ∙ ap (λ (b : Board). slice_get b held.index) (keeps_board w.handoff w.guests) ∙ comes.row

      board_reset : new.state ≡ with_reset_at p (board_state w)
      board_reset = grind (arith, reset_row, row_now, reset_by, keeps_board)

      kept_given : IsKept (after_give w the_gift) new names back
      kept_given = subst (λ (v : WorldNow). IsKept v new names back) (sym is) (record {
        lawful = subst IsLawfulOver is (lawful_after_gift w at.kept.lawful the_gift);
        clear = ap (λ (s : State). s.latch) (reset_by w.handoff p d can.1.declares) ∙ at.kept.clear;
        at_reset = ap (λ (v : WorldNow). with_seated_reset v.handoff v.guests) (sym is) ∙ shown_after_gift w at.kept.lawful the_gift there fault ∙ ap (with_reset_at p) at.kept.at_reset;
        agrees = board_reset ∙ sym (board_after_gift w at.kept.lawful the_gift there fault) ∙ ap board_state is;
        guests = guests;
      })
