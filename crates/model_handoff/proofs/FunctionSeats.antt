-- A seat that is told holds the function, and where none is told no slot does.
use Rattle.std.{proofs.{Common.{◌≡◌, ℕ, suc, ◌+◌, Bool, true, false, cond, List, [], ◌∷◌, Option, Some, None, refl, sym, ap, ◌∙◌, arith}, lemmas.Iterator.Adapters.position_from-zero}, specs.{Prelude.{option_map, position, unwrap_or, slice_get}, List.position_from}}
use Rattle.lists.specs.Elements.{first_of_two}
use Rattle.model_board.{specs.Paths.Path, proofs.{PathOrder.path_same, PathEnds.path_self}}
use Rattle.model_guests.specs.Guests.{GuestNow, GuestsNow}
use Rattle.model_handoff.specs.{Functions.{Assignment, is_there, seat_from}, FunctionLaws.{path_in_seat, SeatsHold, NoSeatHolds}}

-- ---- the first of a list that passes a test

record Passes {A : Type 0} (t : A → Bool) (n : ℕ) (xs : List A) (i : ℕ) : Type 0 where
  place : ℕ
  from : i ≡ n + place
  element : A
  there : slice_get xs place ≡ Some element
  passes : t element ≡ true

first_at : {A : Type 0} (t : A → Bool) (n : ℕ) (xs : List A) (i : ℕ) → position_from t n xs ≡ Some i → Passes t n xs i
first_at t n [] i e = cc
first_at {A} t n (x ∷ xs) i e = by (t x) refl e (first_at t (n + 1) xs i)
  where
    by : (b : Bool) → t x ≡ b → cond b (Some n) (position_from t (n + 1) xs) ≡ Some i → (position_from t (n + 1) xs ≡ Some i → Passes t (n + 1) xs i) → Passes t n (x ∷ xs) i
    by true h f more = let same : n ≡ i = cc in record { place = 0; from = omega arith; element = x; there = refl; passes = h }
    by false h f more =
        let m = more f in
        let further : i ≡ n + suc m.place = omega (arith, m.from) in
        record { place = suc m.place; from = further; element = m.element; there = m.there; passes = m.passes }

none_at : {A : Type 0} (t : A → Bool) (n : ℕ) (xs : List A) → position_from t n xs ≡ None → (k : ℕ) (x : A) → slice_get xs k ≡ Some x → t x ≡ false
none_at t n [] e k x there = cc
none_at {A} t n (y ∷ ys) e k x there = grind (arith, none_at t (n + 1) ys)

-- ---- one guest

is_it : (p : Path) (q : Option Path) → is_there p q ≡ true → q ≡ Some p
is_it p None h = cc
is_it p (Some x) h = ap Some (path_same x p h)

abbrev path_in : GuestNow → ℕ → Option Path
path_in g n = unwrap_or (slice_get g.paths n) None

held_in : (p : Path) (g : GuestNow) (n : ℕ) → position (is_there p) g.paths ≡ Some n → path_in g n ≡ Some p
held_in p g n e = grind (arith, first_at (is_there p) 0 g.paths n (sym (position_from-zero (is_there p) g.paths) ∙ e), position_from-zero (is_there p) g.paths, is_it)

not_in : (p : Path) (g : GuestNow) → position (is_there p) g.paths ≡ None → (n : ℕ) → path_in g n ≡ Some p → ⊥
not_in p g e n = grind (arith, none_at, position_from-zero, path_self)

-- ---- all guests

record HoldsFrom (p : Path) (i : ℕ) (gs : GuestsNow) (s : Assignment) : Type 0 where
  place : ℕ
  from : s.guest ≡ i + place
  holds : path_in_seat gs (record { guest = place; slot = s.slot }) ≡ Some p

holds_from : (p : Path) (i : ℕ) (gs : GuestsNow) (s : Assignment) → seat_from p i gs ≡ Some s → HoldsFrom p i gs s
holds_from p i [] s e = cc
holds_from p i (g ∷ gs) s e = by (position (is_there p) g.paths) refl e (holds_from p (i + 1) gs s)
  where
    later : HoldsFrom p (i + 1) gs s → HoldsFrom p i (g ∷ gs) s
    later m =
        let further : s.guest ≡ i + suc m.place = omega (arith, m.from) in
        record { place = suc m.place; from = further; holds = m.holds }

    by : (o : Option ℕ) → position (is_there p) g.paths ≡ o
        → first_of_two (option_map (λ (n : ℕ). record { guest = i; slot = n }) o) (seat_from p (i + 1) gs) ≡ Some s
        → (seat_from p (i + 1) gs ≡ Some s → HoldsFrom p (i + 1) gs s) → HoldsFrom p i (g ∷ gs) s
    by o here f more = grind (arith, later, held_in)

pub reported_slot_holds_function : SeatsHold
reported_slot_holds_function gs p s e = grind (arith, holds_from p 0 gs s e)

none_from : (p : Path) (i : ℕ) (gs : GuestsNow) → seat_from p i gs ≡ None → (k n : ℕ) → path_in_seat gs (record { guest = k; slot = n }) ≡ Some p → ⊥
none_from p i [] e k n h = cc
none_from p i (g ∷ gs) e k n h = by (position (is_there p) g.paths) refl e (λ f j. none_from p (i + 1) gs f j n) k h
  where
    by : (o : Option ℕ) → position (is_there p) g.paths ≡ o
        → first_of_two (option_map (λ (n : ℕ). record { guest = i; slot = n }) o) (seat_from p (i + 1) gs) ≡ None
        → (seat_from p (i + 1) gs ≡ None → (j : ℕ) → path_in_seat gs (record { guest = j; slot = n }) ≡ Some p → ⊥)
        → (k : ℕ) → path_in_seat (g ∷ gs) (record { guest = k; slot = n }) ≡ Some p → ⊥
    by o here f more k h = grind (arith, not_in)

pub no_seat_holds : NoSeatHolds
no_seat_holds gs p e s h = none_from p 0 gs e s.guest s.slot h
