-- Guests stay seated when a function is moved.
use Rattle.std.{proofs.{Common.{◌≡◌, ℕ, zero, suc, Bool, cond, List, [], ◌∷◌, Some, None, Option, refl, sym, ap, ◌∙◌, subst, arith}, lemmas.List.length-set}, specs.{Prelude.{slice_set, is_some, option_map, IsFalse}, Str.bytes_eq}}
use Rattle.lists.specs.Elements.{Each, EachPair}
use Rattle.model_registers.specs.Decoding.{Function}
use Rattle.model_board.specs.{Paths.Path, Board.Board}
use Rattle.model_guests.{specs.{Text.Text, Guests.{GuestNow, GuestsNow, Move, function_in, guest_named, handed_over, move_fault, path_in, with_guest, with_slot_emptied, with_slot_filled}, Seated.{AreSeated, IsSeat, IsSeatedGuest, SeatedAfterMoves}}, proofs.{Names.{equal_texts, same_text}, GuestsByName.{path_at, Keeps, one, named_with, found, path_of, function_named}, Seats.{seats_at, seats_set, names_stay, guests_stay, at_reset_there}}}

pub seat_in : (b : Board) (s : GuestsNow) → Each (IsSeatedGuest b) s → (a : Text) (n : ℕ) → IsSeat b (path_in s a n) (function_in s a n)
seat_in b s all a n = grind (arith, function_named, seats_at, found)

-- ---- a path in a list with one set

data Where (qs : List (Option Path)) (n k : ℕ) (x : Option Path) (q : Path) : Type 0 where
  put : k ≡ n → x ≡ Some q → Where qs n k x q
  stays : path_at qs k ≡ Some q → (k ≡ n → ⊥) → Where qs n k x q

where_set : (qs : List (Option Path)) (n k : ℕ) (x : Option Path) (q : Path) → path_at (slice_set qs n x) k ≡ Some q → Where qs n k x q
where_set [] n k x q h = cc
where_set (p ∷ ps) zero k x q h = grind arith
where_set (p ∷ ps) (suc n) zero x q h = stays h (λ e. omega arith)
where_set (p ∷ ps) (suc n) (suc k) x q h = grind (arith, where_set ps n k x q)

-- ---- a path in a slot of some guest, after one guest's slot is set

pub data Placed (s : GuestsNow) (name a : Text) (n k : ℕ) (x : Option Path) (q : Path) : Type 0 where
  put_there : a ≡ name → k ≡ n → x ≡ Some q → Placed s name a n k x q
  was_there : path_in s a k ≡ Some q → (a ≡ name → k ≡ n → ⊥) → Placed s name a n k x q

pub placed : (g : GuestNow → GuestNow) (n : ℕ) (x : Option Path) → Keeps g → ((t : GuestNow) → (g t).paths ≡ slice_set t.paths n x)
    → (s : GuestsNow) (name a : Text) (k : ℕ) (q : Path) → path_in (with_guest g name s) a k ≡ Some q → Placed s name a n k x q
placed g n x keeps sets s name a k q h = cases (guest_named s a) refl (sym (ap (λ (o : Option GuestNow). path_of o k) (named_with g keeps name a s)) ∙ h)
  where
    there : (t : GuestNow) → guest_named s a ≡ Some t → t.name ≡ a
    there t e = (found (λ u. Unit {0}) s a t (each_unit s) e).name_is
      where
        each_unit : (us : GuestsNow) → Each (λ (u : GuestNow). Unit {0}) us
        each_unit [] = tt
        each_unit (u ∷ us) = (tt, each_unit us)

    cases : (o : Option GuestNow) → guest_named s a ≡ o → path_of (option_map (one g name) o) k ≡ Some q → Placed s name a n k x q
    cases o e h = grind (arith, path_at, where_set, there, equal_texts name, path_of, same_text)

-- ---- a move

module _ (b : Board) (s : GuestsNow) (seated : AreSeated b s) (m : Move) (f : Function) (is : function_in s m.from m.slot ≡ Some f) where
  abbrev left : GuestsNow
  left = with_guest (with_slot_emptied m.slot) m.from s

  abbrev the_path : Option Path
  the_path = path_in s m.from m.slot

  abbrev filled : GuestNow → GuestNow
  filled = with_slot_filled m.target the_path f.decl

  seat : IsSeat b the_path (Some f)
  seat = subst (IsSeat b the_path) is (seat_in b s seated.guests m.from m.slot)

  place : (a : Text) (k : ℕ) (q : Path) → path_in (with_guest filled m.to left) a k ≡ Some q → Placed left m.to a m.target k the_path q
  place a k q h = placed filled m.target the_path (λ t. refl) (λ t. refl) left m.to a k q h

  pub place_left : (a : Text) (k : ℕ) (q : Path) → path_in left a k ≡ Some q → Placed s m.from a m.slot k None q
  place_left a k q h = placed (with_slot_emptied m.slot) m.slot None (λ t. refl) (λ t. refl) s m.from a k q h

  -- what is at a path of the function that left
  gone : (a : Text) (k : ℕ) (q : Path) → Placed s m.from a m.slot k None q → the_path ≡ Some q → ⊥
  gone a k q h e = grind (arith, seated.paths_apart)

  pub left_names : EachPair (λ (t u : GuestNow). IsFalse (bytes_eq t.name u.name)) left
  left_names = names_stay (with_slot_emptied m.slot) (λ t. refl) m.from s seated.names_apart

  pub left_guests : Each (IsSeatedGuest b) left
  left_guests = grind (arith, guests_stay, length-set, seats_set)

  pub seated_handed : AreSeated b (with_guest filled m.to left)
  seated_handed = grind (arith, names_stay, left_names, guests_stay, length-set, seats_set, at_reset_there, seat, left_guests, place, gone, place_left)

pub seated_after_moves : SeatedAfterMoves
seated_after_moves b s seated m = cases (is_some (move_fault s m)) (function_in s m.from m.slot) refl
  where
    cases : (t : Bool) (o : Option Function) → function_in s m.from m.slot ≡ o → AreSeated b (cond t s (handed_over m (path_in s m.from m.slot) o s))
    cases t o e = grind (arith, seated_handed)
