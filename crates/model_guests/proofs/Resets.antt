-- A reset of a function is a move to an empty slot and back, and resets the function on the board.
use Rattle.std.{proofs.{Common.{◌≡◌, ℕ, true, false, List, Some, None, Option, refl, sym, ap, ◌∙◌, subst, arith}, lemmas.{List.{set-set, set-get_or}, Option.unwrap_or-slice_get}}, specs.{Prelude.{slice_get, slice_set, unwrap_or, is_some, nat_le, option_map, IsSome}, Option.option_map_or}}
use Rattle.model_registers.specs.{Registers.File, Decoding.Function, EndpointTable.endpoint_reset, CopiedFiles.after_reset}
use Rattle.model_board.specs.{Paths.Path, Board.Board, AtReset.board_at}
use Rattle.model_guests.{specs.{Accesses.{done, refused}, Slots.{Slots, slot_at}, Text.Text, Lone.{LoneGuest, filled}, Guests.{GuestNow, GuestsNow, guest_named, lone_of, path_in, function_in, with_guest, Move, move_fault, after_move, with_slot_emptied, with_slot_filled}, AgreedBoard.state_over, ChangeLaws.with_slot_changed, Seated.{AreSeated, IsSeat}, MoveLaws.IsMoved, DeviceEvents.{resets, slot_fault, after_device_event, device_answer, after_guest_device}, DeviceLaws.{between, IsMoveAndBack, ResetByMoves, ResetReachesBoard}}, proofs.{GuestsByName.{path_of, function_of, function_named, one, named_with}, GuestFiles.with_file_there, SeatedMoves.{seat_in, Placed, put_there, was_there, place_left, left_names, left_guests}, MoveIndices.moved_function, Changes.{changes_one_function, resets_alike}, OneGuest.{lone_found, with_alike, with_none, with_twice, guest_of_function}, Seats.{no_path, some_path}, FoundFiles.put_back}}
use Rattle.lists.proofs.Tests.{some_there}

-- ---- lists

-- an empty place is left as it was
pub set_back : {A : Type 0} (xs : List (Option A)) (n : ℕ) (x : Option A) → unwrap_or (slice_get xs n) None ≡ None → slice_set (slice_set xs n x) n None ≡ xs
set_back xs n x h = set-set xs n x None ∙ ap (slice_set xs n) (sym h ∙ unwrap_or-slice_get xs n None) ∙ set-get_or xs n None

-- ---- the checks

pub slot_taken : (slots : Slots) (n : ℕ) → slot_fault slots n ≡ None → nat_le 32 n ≡ false
slot_taken slots n h = grind arith

pub taken_passes : (slots : Slots) (n : ℕ) (f : Function) → nat_le 32 n ≡ false → slot_at slots n ≡ Some f → slot_fault slots n ≡ None
taken_passes slots n f low at = grind arith

-- ---- one guest

pub reset_there : (g : LoneGuest) (n : ℕ) (f : Function) → nat_le 32 n ≡ false → slot_at g.slots n ≡ Some f → after_device_event g (resets n) ≡ filled n f.decl g
reset_there g n f low at = grind (arith, taken_passes)

pub answer_there : (g : LoneGuest) (n : ℕ) (f : Function) → nat_le 32 n ≡ false → slot_at g.slots n ≡ Some f → device_answer g (resets n) ≡ done
answer_there g n f low at = ap (λ (o : Option ℕ). option_map_or refused o done) (taken_passes g.slots n f low at)

-- ---- moves

record Passed (gs : GuestsNow) (m : Move) : Type 0 where
  low_slot : nat_le 32 m.slot ≡ false
  low_target : nat_le 32 m.target ≡ false
  function : is_some (function_in gs m.from m.slot) ≡ true
  free : function_in gs m.to m.target ≡ None

passed : (gs : GuestsNow) (m : Move) → move_fault gs m ≡ None → Passed gs m
passed gs m h = grind arith

no_fault : (gs : GuestsNow) (m : Move) → nat_le 32 m.slot ≡ false → nat_le 32 m.target ≡ false → (f : Function) → function_in gs m.from m.slot ≡ Some f → function_in gs m.to m.target ≡ None → move_fault gs m ≡ None
no_fault gs m low_slot low_target f function free = grind arith

-- a move that is done, as two changes
moved_as : (gs : GuestsNow) (m : Move) → move_fault gs m ≡ None → (p : Option Path) (f : Function) → path_in gs m.from m.slot ≡ p → function_in gs m.from m.slot ≡ Some f
    → after_move gs m ≡ with_guest (with_slot_filled m.target p f.decl) m.to (with_guest (with_slot_emptied m.slot) m.from gs)
moved_as gs m fault p f path function = grind arith

no_function : (b : Board) (q : Option Path) (o : Option Function) → IsSeat b q o → q ≡ None → o ≡ None
no_function b q o h e = grind arith

pub none_is_some : {A : Type 0} (x : A) → None ≡ Some x → ⊥
none_is_some x h = cc

none_of : {A : Type 0} (o : Option A) → ((x : A) → o ≡ Some x → ⊥) → o ≡ None
none_of o h = grind arith

one_there_still : (g : GuestNow → GuestNow) (name : Text) (o : Option GuestNow) → IsSome o → IsSome (option_map (one g name) o)
one_there_still g name o h = grind arith

module _ (b : Board) (gs : GuestsNow) (seated : AreSeated b gs) (name : Text) (n : ℕ) (f : Function) (is : function_in gs name n ≡ Some f) (p : Path) (path : path_in gs name n ≡ Some p) where
  one_there : (x : GuestNow) × (guest_named gs name ≡ Some x)
  one_there = guest_of_function (guest_named gs name) n f (sym (function_named gs name n) ∙ is)

  abbrev x : GuestNow
  x = one_there.0

  function_here : slot_at x.lone.slots n ≡ Some f
  function_here = sym (ap (λ (o : Option GuestNow). function_of o n) one_there.1) ∙ sym (function_named gs name n) ∙ is

  pub again : nat_le 32 n ≡ false → with_guest (with_slot_filled n (Some p) f.decl) name (with_guest (with_slot_emptied n) name gs) ≡ after_guest_device name (resets n) gs
  again low = grind (arith, with_twice, with_alike, set-set, put_back, reset_there, function_here)

  pub answered_here : nat_le 32 n ≡ false → device_answer (lone_of gs name) (resets n) ≡ done
  answered_here low = ap (λ (g : LoneGuest). device_answer g (resets n)) (lone_found gs name x one_there.1) ∙ answer_there x.lone n f low function_here

  pub as_changed : nat_le 32 n ≡ false → after_guest_device name (resets n) gs ≡ with_guest (with_slot_changed (λ (own : File). endpoint_reset f.decl false) n) name gs
  as_changed low = grind (arith, with_alike, reset_there, function_here, with_file_there)

pub reset_reaches_board : ResetReachesBoard
reset_reaches_board s gs seated name n fault p f path is =
    ap (state_over s) (as_changed (board_at s.functions) gs seated name n f is p path (slot_taken (lone_of gs name).slots n fault))
    ∙ changes_one_function s gs seated name n p path (λ (own : File). endpoint_reset f.decl false) (after_reset f.decl) (resets_alike f.decl)

-- ---- there and back

module _ (b : Board) (gs : GuestsNow) (seated : AreSeated b gs) (name to : Text) (n m : ℕ) (there : IsSome (guest_named gs to)) (fault : move_fault gs (between name n to m) ≡ None) where
  abbrev away : Move
  away = between name n to m

  abbrev back : Move
  back = between to m name n

  ok : Passed gs away
  ok = passed gs away fault

  the_function : (f : Function) × (function_in gs name n ≡ Some f)
  the_function = some_there (function_in gs name n) ok.function

  abbrev f : Function
  f = the_function.0

  the_path : (p : Path) × (path_in gs name n ≡ Some p)
  the_path = some_path b (path_in gs name n) f (subst (IsSeat b (path_in gs name n)) the_function.1 (seat_in b gs seated.guests name n))

  abbrev p : Path
  p = the_path.0

  abbrev left : GuestsNow
  left = with_guest (with_slot_emptied n) name gs

  moved : IsMoved (after_move gs away) away p f
  moved = moved_function b gs seated away there fault p f the_path.1 the_function.1

  back_fault : move_fault (after_move gs away) back ≡ None
  back_fault = no_fault (after_move gs away) back ok.low_target ok.low_slot (record { decl = f.decl; file = endpoint_reset f.decl false }) moved.function moved.no_function

  second : after_move (after_move gs away) back ≡ with_guest (with_slot_filled n (Some p) f.decl) name (with_guest (with_slot_emptied m) to (after_move gs away))
  second = moved_as (after_move gs away) back back_fault (Some p) (record { decl = f.decl; file = endpoint_reset f.decl false }) moved.path moved.function

  -- the slot that it comes to is empty
  free_path : path_in left to m ≡ None
  free_path = none_of (path_in left to m) (λ q e. of (place_left b gs seated away f the_function.1 to m q e))
    where
      was_free : path_in gs to m ≡ None
      was_free = no_path b (path_in gs to m) (function_in gs to m) (seat_in b gs seated.guests to m) ok.free

      of : {q : Path} → Placed gs name to n m None q → ⊥
      of {q} (put_there c d e) = none_is_some q e
      of {q} (was_there c d) = none_is_some q (sym was_free ∙ c)

  free_function : function_in left to m ≡ None
  free_function = no_function b (path_in left to m) (function_in left to m) (seat_in b left (left_guests b gs seated away f the_function.1) to m) free_path

  taker : (y : GuestNow) × (guest_named left to ≡ Some y)
  taker = some_there (guest_named left to) (subst IsSome (sym (named_with (with_slot_emptied n) (λ t. refl) name to gs)) (one_there_still (with_slot_emptied n) name (guest_named gs to) there))

  third : with_guest (with_slot_emptied m) to (with_guest (with_slot_filled m (Some p) f.decl) to left) ≡ left
  third =
      with_twice (with_slot_emptied m) (with_slot_filled m (Some p) f.decl) (λ t. refl) to left
      ∙ with_none left (left_names b gs seated away f the_function.1) to taker.0 taker.1 (λ t. with_slot_emptied m (with_slot_filled m (Some p) f.decl t))
      (grind (arith, set_back, path_of, free_path, function_of, function_named, free_function))

  pub there_and_back : IsMoveAndBack gs name n to m
  there_and_back = grind (arith, answered_here, back_fault, second, third, again, moved_as)

pub reset_by_moves : ResetByMoves
reset_by_moves b gs seated name to n m there fault = there_and_back b gs seated name to n m there fault
