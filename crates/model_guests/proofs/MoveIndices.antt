-- What a move does to the guests, by their indices, and to the slots.
use Rattle.std.{proofs.{Common.{◌≡◌, ℕ, Some, None, Option, refl, sym, ap, ◌∙◌, subst, arith}, lemmas.List.set-set}, specs.{Prelude.{slice_get, slice_set, IsFalse, IsSome}, Str.bytes_eq}}
use Rattle.lists.{specs.Elements.EachPair, proofs.Indices.{get_set, get_other}}
use Rattle.model_registers.specs.Decoding.{Function}
use Rattle.model_board.specs.{Paths.Path, Board.Board}
use Rattle.model_guests.{specs.{Guests.{GuestNow, GuestsNow, guest_named, path_in, function_in, with_guest, Move, with_slot_emptied, with_slot_filled, after_move}, Seated.{AreSeated, IsSeat}, MoveLaws.{IsDone, MoveWithin, MoveBetween, InputsWithin, IsMoved, MovedFunction}}, proofs.{Along.by_index, Names.same_text, GuestsByName.function_named, Seats.names_stay, SeatedMoves.{seat_in, Placed, put_there, was_there, placed, place_left}, MovedFunctions.{NoFault, no_fault, moved, moved_seated, takes}}}

module _ (gs : GuestsNow) (m : Move) (p : Path) (f : Function) (i : ℕ) (g : GuestNow) (is : IsDone gs m p f i g) where
  abbrev emptied : GuestNow
  emptied = with_slot_emptied m.slot g

  abbrev filling : GuestNow → GuestNow
  filling = with_slot_filled m.target (Some p) f.decl

  left : with_guest (with_slot_emptied m.slot) m.from gs ≡ slice_set gs i emptied
  left = ap (λ n. with_guest (with_slot_emptied m.slot) n gs) is.from ∙ (by_index gs is.names_apart i g is.at).1 (with_slot_emptied m.slot)

  left_names : EachPair (λ (x y : GuestNow). IsFalse (bytes_eq x.name y.name)) (slice_set gs i emptied)
  left_names = subst (λ (xs : GuestsNow). EachPair (λ (x y : GuestNow). IsFalse (bytes_eq x.name y.name)) xs) left (names_stay (with_slot_emptied m.slot) (λ x. refl) m.from gs is.names_apart)

  pub moves : (j : ℕ) (h : GuestNow) → slice_get (slice_set gs i emptied) j ≡ Some h → m.to ≡ h.name → after_move gs m ≡ slice_set (slice_set gs i emptied) j (filling h)
  moves j h at to = grind (arith, left, by_index (slice_set gs i emptied) left_names j h, left_names)

pub move_within : MoveWithin
move_within gs m p f i g is to =
    moves gs m p f i g is i (with_slot_emptied m.slot g) (get_set gs i g (with_slot_emptied m.slot g) is.at) to
    ∙ set-set gs i (with_slot_emptied m.slot g) (with_slot_filled m.target (Some p) f.decl (with_slot_emptied m.slot g))

pub move_between : MoveBetween
move_between gs m p f i g is j h at to apart = grind (arith, moves, get_other, same_text)

pub inputs_within : InputsWithin
inputs_within m f same = grind (arith, same_text)

-- ---- the slots afterwards

module _ (b : Board) (gs : GuestsNow) (seated : AreSeated b gs) (m : Move) (f : Function) (is : function_in gs m.from m.slot ≡ Some f) (p : Path) (at : path_in gs m.from m.slot ≡ Some p)
    (to_there : IsSome (guest_named gs m.to)) (can : NoFault gs m) where
  abbrev after : GuestsNow
  after = moved b gs seated m f is p at to_there can

  no_path : (q : Path) → path_in after m.from m.slot ≡ Some q → ⊥
  no_path q h = grind (arith, by_place, placed (with_slot_filled m.target (path_in gs m.from m.slot) f.decl) m.target (path_in gs m.from m.slot))
    where
      by_left : Placed gs m.from m.from m.slot m.slot None q → ⊥
      by_left (put_there x y z) = cc
      by_left (was_there x y) = y refl refl

      by_place : Placed (with_guest (with_slot_emptied m.slot) m.from gs) m.to m.from m.target m.slot (path_in gs m.from m.slot) q → ⊥
      by_place h = grind (arith, by_left, place_left)

  left_empty : IsSeat b (path_in after m.from m.slot) (function_in after m.from m.slot)
  left_empty = seat_in b after (moved_seated b gs seated m f is p at to_there can).guests m.from m.slot

  pub is_moved : IsMoved after m p f
  is_moved = record {
    path = (takes b gs seated m f is p at to_there can).path_is ∙ at;
    function = function_named after m.to m.target ∙ (takes b gs seated m f is p at to_there can).function_is;
    no_path = none (path_in after m.from m.slot) no_path;
    no_function = no_seat (path_in after m.from m.slot) (function_in after m.from m.slot) left_empty no_path;
  }
    where
      none : (o : Option Path) → ((q : Path) → o ≡ Some q → ⊥) → o ≡ None
      none o h = grind arith

      no_seat : (o : Option Path) (g : Option Function) → IsSeat b o g → ((q : Path) → o ≡ Some q → ⊥) → g ≡ None
      no_seat o g s h = grind arith

pub moved_function : MovedFunction
moved_function b gs seated m to_there fault p f at is =
    let can : NoFault gs m = no_fault gs m fault in
    let same : after_move gs m ≡ moved b gs seated m f is p at to_there can = grind arith in
    subst (λ (x : GuestsNow). IsMoved x m p f) (sym same) (is_moved b gs seated m f is p at to_there can)
