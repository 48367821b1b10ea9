-- A move of a function in a world that is kept: the slot that it leaves, and the slot that it comes to.
use Rattle.std.{proofs.{Common.{◌≡◌, ℕ, zero, suc, ◌||◌, not, cond, List, [], ◌∷◌, Some, None, Option, slice_get, slice_set, refl, sym, ap, ap₂, ◌∙◌, subst, arith, true, ◌<◌, rules}, lemmas.Bool.Decides.nat_tests}, specs.{Prelude.{is_some, nat_le, unwrap_or, IsSome}, Option.option_map_or}}
use Rattle.model_board.specs.{Paths.Path, State.State, AtReset.board_at}
use Rattle.model_guests.{specs.{Text.Text, Slots.{Slots, slot_at}, Lone.reset_guest, Guests.{GuestNow, GuestsNow, Move, after_move, function_in, guest_named, move_fault, path_in, with_slot_emptied, with_slot_filled, handed_over}, WorldNow.{WorldNow, move_reply}, Accesses.{done, refused}}, proofs.{MoveIndices.moves, MovedFunctions.move_resets_one_function, SeatedMoves.seated_after_moves}}
use Rattle.model_handoff.proofs.{Served.served_after_moves, Views.reset_after_moves}
use Rattle.host_bridge.specs.{ByIndex.with_reset_nth, HostState.{HostState, with_functions}}
use Rattle.monitor.{specs.{declared.guest.{AssignedFunction.AssignedFunction, Guest.Guest}, Keeping.{IsHeld, AreSlots, AreGuests}, ByIndex.{name_nth, guest_nth, lone_nth}, Moves.{move_nth, is_taken, fault_between, reset_held, HandsOver, HasSlot, IsExchanged}, Configs.{HoldsAt, IsHolding}}, proofs.{Steps.{GuestOf, guests_set, named, GuestAt, SlotAt, function_by_name, function_there, guest_there, path_there, slot_nth, slots_lent, slots_put}, Reached.lawful, Calls.{Leaves, leaves}, ResetSteps.{at_reset, board_reset, held_reset}, Exchanges.{has_nth, held_same, holds_nth, items_are, latch_stays}}}

-- ---- slots

module _ (s : State) where
  -- a slot is taken just where it has a function
  taken_is : (qs : List (Option Path)) (fs : Slots) (os : List (Option AssignedFunction)) (n : ℕ) → AreSlots s qs fs os → is_taken os n ≡ is_some (slot_at fs n)
  taken_is [] [] [] n are = refl
  taken_is (None ∷ qs) (None ∷ fs) (None ∷ os) zero are = refl
  taken_is (Some p ∷ qs) (Some f ∷ fs) (Some h ∷ os) zero are = refl
  taken_is (q ∷ qs) (f ∷ fs) (o ∷ os) (suc n) are = taken_is qs fs os n are.1
  taken_is (q ∷ qs) (f ∷ fs) (o ∷ os) zero are = absurd are.0
  taken_is qs fs os n are = absurd are

-- ---- the checks

holding : (os : List (Option AssignedFunction)) (n : ℕ) → is_taken os n ≡ true → IsHolding os n
holding os n taken = cases (slice_get os n) refl taken
  where
    cases : (o : Option (Option AssignedFunction)) → slice_get os n ≡ o → is_some (unwrap_or o None) ≡ true → IsHolding os n
    cases None e h = cc
    cases (Some None) e h = cc
    cases (Some (Some held)) e h = record { held = held; there = e }

record Passes (os : List (Option AssignedFunction)) (n m : ℕ) : Type 0 where
  taken : is_taken os n ≡ true
  in_range : m < 32

passes : (os ps : List (Option AssignedFunction)) (n m : ℕ) → None ≡ fault_between os n ps m → Passes os n m
passes os ps n m h = grind (arith, nat_tests)

-- ---- guests

-- the name at an index, where one guest is changed and keeps its name
name_stays : (ws : GuestsNow) (i j : ℕ) (x y z d : GuestNow) → slice_get ws i ≡ Some x → y.name ≡ x.name → slice_get (slice_set ws i y) j ≡ Some z → (unwrap_or (slice_get ws j) d).name ≡ z.name
name_stays [] i j x y z d at same is = cc
name_stays (g ∷ ws) zero j x y z d at same is = grind arith
name_stays (g ∷ ws) (suc i) zero x y z d at same is = let one : g ≡ z = cc in ap (λ (t : GuestNow). t.name) one
name_stays (g ∷ ws) (suc i) (suc j) x y z d at same is = name_stays ws i j x y z d at same is

module _ {w : WorldNow} {h : HostState} {names : List Text} {gs : List Guest} {i : ℕ} {g : Guest} (at : GuestAt w h names gs i g) where
  pub taken_lent : {slots : List (Option AssignedFunction)} → slots ≡ g.slots.items → (n : ℕ) → is_taken slots n ≡ is_some (function_in w.guests (name_nth w i) n)
  taken_lent {slots} same n = taken_is w.handoff (guest_nth w i).paths (lone_nth w i).slots slots n (slots_lent at same) ∙ ap is_some (sym (function_by_name at n))

  pub left_guests : {n : ℕ} {was : Option AssignedFunction} {left : List Guest} → (is : IsExchanged gs i n was None left)
      → AreGuests w.handoff names (slice_set w.guests i (with_slot_emptied n (guest_nth w i))) (slice_set gs i is.guest)
  left_guests {n} is = search (rules, guests_set, items_are, latch_stays, slots_put)

-- a move between two guests, or from one to itself
module _ {w : WorldNow} {h : HostState} {names : List Text} {gs : List Guest} {i j : ℕ} {g k : Guest} (from : GuestAt w h names gs i g) (to : GuestAt w h names gs j k) (n m : ℕ)
    {os ps : List (Option AssignedFunction)} (os_are : os ≡ g.slots.items) (ps_are : ps ≡ k.slots.items) where
  abbrev the_move : Move
  the_move = move_nth w i n j m

  -- the checks in code are those of the definition
  pub fault_is : fault_between os n ps m ≡ move_fault w.guests the_move
  fault_is =
      ap₂ (λ x y. cond (nat_le 32 n || nat_le 32 m) (Some 303)
      (cond (not x) (Some 601) (cond y (Some 602) None)))
      (taken_lent from os_are n) (taken_lent to ps_are m)

  pub move_refused : {number : ℕ} → Some number ≡ fault_between os n ps m → refused number ≡ move_reply w.guests the_move
  move_refused is = ap (λ (o : Option ℕ). option_map_or refused o done) (is ∙ fault_is)

  pub nothing_moved : {number : ℕ} → Some number ≡ fault_between os n ps m → w ≡ (let v : WorldNow = record w { guests = after_move w.guests the_move } in v)
  nothing_moved is =
      ap (λ (o : Option ℕ). let v : WorldNow = record w { guests = cond (is_some o) w.guests (handed_over the_move (path_in w.guests (name_nth w i) n) (function_in w.guests (name_nth w i) n) w.guests) } in v)
      (is ∙ fault_is)

  module _ (passed : None ≡ fault_between os n ps m) where
    pub move_done : done ≡ move_reply w.guests the_move
    move_done = ap (λ (o : Option ℕ). option_map_or refused o done) (passed ∙ fault_is)

    holds : IsHolding g.slots.items n
    holds = subst (λ (xs : List (Option AssignedFunction)). IsHolding xs n) os_are (holding os n (passes os ps n m passed).taken)

    slot : SlotAt from n holds.held
    slot = slot_nth from holds.there

    pub holds_moved : HoldsAt gs i n
    holds_moved = holds_nth from slot

    pub has_moved : HasSlot gs j m
    has_moved = let low : m < 32 = (passes os ps n m passed).in_range in has_nth to (omega arith)

    -- the guests and the host as the call leaves them
    module _ {new : HostState} {back : List Guest} (over : HandsOver h gs i n j m new back) where
      same : over.held ≡ holds.held
      same = held_same from slot over.leaves

      abbrev emptied : GuestNow
      emptied = with_slot_emptied n (guest_nth w i)

      taker : GuestOf w.handoff (slice_set w.guests i emptied) j over.comes.before
      taker =
          guest_there w.handoff names (slice_set w.guests i emptied) (slice_set gs i over.leaves.guest) j over.comes.before (left_guests from over.leaves)
          (ap (λ (ls : List Guest). slice_get ls j) (sym over.leaves.after) ∙ over.comes.there)

      abbrev filled : GuestNow
      filled = with_slot_filled m (Some slot.p) slot.f.decl taker.x

      guests_are : after_move w.guests the_move ≡ slice_set (slice_set w.guests i emptied) j filled
      guests_are =
          moves w.guests the_move slot.p slot.f i (guest_nth w i)
          (record {
            names_apart = from.kept.lawful.seated.names_apart;
            not_refused = sym (passed ∙ fault_is);
            path = path_there from slot;
            function = function_there from slot;
            at = from.there;
            from = refl;
          })
          j taker.x taker.there
          (name_stays w.guests i j (guest_nth w i) emptied taker.x (record { name = []; paths = []; lone = reset_guest [] }) from.there refl taker.there)

      guests : AreGuests w.handoff names (after_move w.guests the_move) back
      guests =
          subst (AreGuests w.handoff names (after_move w.guests the_move)) (sym (over.comes.after ∙ ap (λ (ls : List Guest). slice_set ls j over.comes.guest) over.leaves.after))
          (subst (λ (ws : GuestsNow). AreGuests w.handoff names ws (slice_set (slice_set gs i over.leaves.guest) j over.comes.guest)) (sym guests_are)
          (guests_set w.handoff names (slice_set w.guests i emptied) (slice_set gs i over.leaves.guest) j taker.x filled over.comes.guest (left_guests from over.leaves) taker.there (λ t e. record {
            name_is = e;
            latch = taker.is.latch ∙ sym over.comes.latch;
            slots = subst (AreSlots w.handoff (slice_set taker.x.paths m (Some slot.p)) (slice_set taker.x.lone.slots m (Some (at_reset slot.f)))) (sym over.comes.items)
                (slots_put w.handoff taker.x.paths taker.x.lone.slots over.comes.before.slots.items m (Some slot.p) (Some (at_reset slot.f)) (Some (reset_held over.held)) taker.is.slots
                (subst (λ (x : AssignedFunction). IsHeld w.handoff slot.p (at_reset slot.f) (reset_held x)) (sym same) (held_reset w.handoff slot.p slot.f holds.held (lawful from slot) slot.held)));
          })))

      there : IsSome (guest_named w.guests (name_nth w j))
      there = subst IsSome (sym (named to)) refl

      pub move_left : Leaves (record w { guests = after_move w.guests the_move }) h new names back
      move_left = leaves from.kept (record {
        lawful = record {
          handoff = from.kept.lawful.handoff;
          order = from.kept.lawful.order;
          seated = seated_after_moves (board_at w.handoff.functions) w.guests from.kept.lawful.seated the_move;
          served = served_after_moves w.handoff w.guests from.kept.lawful.served the_move;
        };
        clear = from.kept.clear;
        at_reset = reset_after_moves w.handoff w.guests from.kept.lawful.seated the_move there ∙ from.kept.at_reset;
        agrees = board_reset from slot (over.board ∙ ap (λ (x : AssignedFunction). with_functions (with_reset_nth x.index h.state.functions) h) same)
            ∙ sym (move_resets_one_function w.handoff w.guests from.kept.lawful.seated the_move there (sym (passed ∙ fault_is)) slot.p slot.f (path_there from slot) (function_there from slot));
        guests = guests;
      }) refl
