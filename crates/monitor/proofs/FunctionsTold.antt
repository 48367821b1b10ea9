-- What is kept of guests and of the board says what is told of functions.
use Rattle.std.{proofs.{Common.{◌≡◌, ◌≤◌, ℕ, zero, suc, ◌+◌, ◌-◌, Bool, true, false, cond, List, [], ◌∷◌, Some, None, Option, Err, get_or, take, drop, length, refl, sym, ap, ◌∙◌, arith}, lemmas.List.take_all}, specs.{Prelude.{nat_le, option_map, option_and_then, position, unwrap_or, Result, is_some}, Option.ok_or, List.slice_get}}
use Rattle.lists.proofs.Indices.{map_at}
use Rattle.model_registers.specs.Decoding.{Function}
use Rattle.model_board.specs.{Paths.Path, Board.{Row, Board, IsBoard}, AtReset.board_at, State.{BoardFunction, State, row_at}}
use Rattle.model_guests.{specs.{Text.Text, Slots.{Slots, slot_at}, Guests.{GuestsNow, path_in}, WorldNow.{WorldNow, board_state}}, proofs.GuestsByName.path_at}
use Rattle.model_handoff.specs.Functions.{Assignment, seat_from, seat_of, LiveFunction, function_now, function_nth, function_at, slot_answer}
use Rattle.host_bridge.specs.HostState.{HostState}
use Rattle.monitor.{specs.{declared.guest.{AssignedFunction.AssignedFunction, Guest.Guest}, Keeping.{AreSlots, AreGuests, IsKept}, ByIndex.{name_nth, guest_nth, lone_nth}, FunctionsTold.seat_kept, InSlots.{is_at, IsInSlot, IsSlotFault}}, proofs.{Steps.{path_named, GuestAt, fault_lent, path_there, slot_lent, slots_lent}, Reached.{board_row, found_on_board}, Indexed.found_in_slots, GiftSteps.board_is, Checks.{low_slot, slot_checked}}}

-- ---- seats

seats_shown : (s : State) → IsBoard (board_at s.functions) → (i : ℕ) (r : Row) → slice_get (board_at s.functions) i ≡ Some r
    → (k : ℕ) (ts : List Text) (ws : GuestsNow) (gs : List Guest) → AreGuests s ts ws gs → seat_kept i k gs ≡ seat_from r.path k ws
seats_shown s board i r at k [] [] [] are = refl
seats_shown s board i r at k (t ∷ ts) (w ∷ ws) (g ∷ gs) are = grind (arith, found_in_slots, seats_shown s board i r at (k + 1) ts ws gs are.1)
seats_shown s board i r at k ts ws gs are = absurd are

-- the seat is none of the first guest's
pub seat_next : (i k : ℕ) (gs : List Guest) (g : Guest) (slots : List (Option AssignedFunction)) (r : Option Assignment) → 1 ≤ length gs → g ≡ get_or gs 0 g → slots ≡ g.slots.items
    → position (is_at i) slots ≡ None → r ≡ seat_kept i (k + 1) (take (length gs - 1) (drop 1 gs)) → r ≡ seat_kept i k gs
seat_next i k gs g slots r some is same none more = grind (arith, take_all)

-- ---- a slot without a function has no path

no_path : (s : State) (qs : List (Option Path)) (fs : Slots) (os : List (Option AssignedFunction)) (n : ℕ) → AreSlots s qs fs os → slot_at fs n ≡ None → path_at qs n ≡ None
no_path s [] [] [] n are at = refl
no_path s (None ∷ qs) (f ∷ fs) (o ∷ os) zero are at = refl
no_path s (Some p ∷ qs) (None ∷ fs) (o ∷ os) zero are at = absurd are.0
no_path s (Some p ∷ qs) (Some f ∷ fs) (o ∷ os) zero are at = cc
no_path s (q ∷ qs) (f ∷ fs) (o ∷ os) (suc n) are at = no_path s qs fs os n are.1 at
no_path s qs fs os n are at = absurd are

-- ---- an engine

module _ {w : WorldNow} {h : HostState} {names : List Text} {gs : List Guest} (kept : IsKept w h names gs) where
  pub seats_told : (i : ℕ) (p : Path) → option_map (λ (f : BoardFunction). f.path) (slice_get h.state.functions i) ≡ Some p → seat_kept i 0 gs ≡ seat_of w.guests p
  seats_told i p told = by (slice_get h.state.functions i) refl told
    where
      by : (o : Option BoardFunction) → slice_get h.state.functions i ≡ o → option_map (λ (f : BoardFunction). f.path) o ≡ Some p → seat_kept i 0 gs ≡ seat_of w.guests p
      by None at e = cc
      by (Some f) at e =
          let path : f.path ≡ p = cc e in
          let stands : slice_get (board_at w.handoff.functions) i ≡ Some (row_at f) = ap (λ (b : Board). slice_get b i) (sym (board_is w h names gs kept p)) ∙ map_at row_at h.state.functions i f at in
          seats_shown w.handoff kept.lawful.handoff.board.places i (row_at f) stands 0 names w.guests gs kept.guests ∙ ap (seat_of w.guests) path

  -- what is told over the host's registers is told over the board
  pub nth_told : (i : ℕ) {o : Option LiveFunction} → o ≡ function_nth h.state w.guests i → o ≡ function_nth (board_state w) w.guests i
  nth_told i told = told ∙ ap (λ (s : State). function_nth s w.guests i) kept.agrees

module _ {w : WorldNow} {h : HostState} {names : List Text} {gs : List Guest} {i : ℕ} {g : Guest} (at : GuestAt w h names gs i g) {slots : List (Option AssignedFunction)} (same : slots ≡ g.slots.items) (n : ℕ) where
  abbrev slot_by : Bool → Option Path → Result LiveFunction ℕ
  slot_by past q = cond past (Err 303) (ok_or (option_and_then (function_at (board_state w) w.guests) q) 601)

  pub slot_assign_error : {number : ℕ} → IsSlotFault slots n number → Err number ≡ slot_answer (board_state w) w.guests (name_nth w i) n
  slot_assign_error {number} fault = of (nat_le 32 n) (slot_at (lone_nth w i).slots n) refl (fault_lent at n same fault)
    where
      of : (past : Bool) (o : Option Function) → slot_at (lone_nth w i).slots n ≡ o → slot_checked past (is_some o) None ≡ Some number → Err number ≡ slot_by past (path_in w.guests (name_nth w i) n)
      of true o none e = cc
      of false None none e =
          let path = path_named at n ∙ no_path w.handoff (guest_nth w i).paths (lone_nth w i).slots slots n (slots_lent at same) none in
          ap (λ (k : Option ℕ). Err (unwrap_or k 0)) (sym e) ∙ ap (slot_by false) (sym path)
      of false (Some f) none e = cc

  pub slot_told : {held : AssignedFunction} → IsInSlot slots n held → {o : Option LiveFunction} → o ≡ function_nth h.state w.guests held.index → ok_or o 601 ≡ slot_answer (board_state w) w.guests (name_nth w i) n
  slot_told {held} inside told =
      let slot = slot_lent at same inside.there in
      ap (λ (x : Option LiveFunction). ok_or x 601) (nth_told at.kept held.index told ∙ ap (option_map (function_now (board_state w) w.guests)) (board_row at slot ∙ sym (found_on_board at slot)))
      ∙ ap (slot_by false) (sym (path_there at slot)) ∙ ap (λ (t : Bool). slot_by t (path_in w.guests (name_nth w i) n)) (sym (low_slot inside.low))
