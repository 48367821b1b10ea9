-- Guests of whom one gets a function that nobody has, or loses one: all stay seated, and every other path finds the file
-- that it found.
use Rattle.std.{proofs.{Common.{◌≡◌, ℕ, zero, suc, ◌<◌, Bool, true, false, ◌||◌, cond, List, [], ◌∷◌, length, Some, None, Option, refl, sym, ap, ap₂, ◌∙◌, subst, arith}, lemmas.{Bool.Decides.nat_tests, List.length-set}}, specs.{Prelude.{slice_set, is_some, nat_le, IsFalse, IsSome}, List.list_any, Str.bytes_eq}}
use Rattle.lists.specs.Elements.{Each, EachPair}
use Rattle.model_registers.specs.{Registers.File, Declarations.Endpoint, EndpointTable.endpoint_reset, Decoding.Function}
use Rattle.model_board.{specs.{Paths.{Path, path_eq}, Board.Board}, proofs.PathOrder.path_same}
use Rattle.model_guests.{specs.{Text.Text, World.declared, Guests.{GuestNow, GuestsNow, file_of, function_in, guest_named, path_in, with_guest, with_slot_emptied, with_slot_filled}, Seated.{AreSeated, IsSeat, IsSeatedGuest}}, proofs.{FoundFiles.{file_found, file_past, file_stays, in_rest}, GuestsByName.{found, function_named, function_of, named_with, path_at, path_of}, Names.same_text, SeatedMoves.{Placed, placed, put_there, was_there, seat_in}, MovedFunctions.put_at, Seats.{as_many, guests_stay, names_stay, seats_set, no_path}, Resets.none_is_some}}
use Rattle.model_handoff.{specs.ViewLaws.{is_at, sits}, proofs.Views.sits_is}

abbrev pub fresh : Endpoint → Function
fresh d = record { decl = d; file = endpoint_reset d false }

set_count : {A : Type 0} (xs : List A) (n : ℕ) (x : A) → length xs ≡ 32 → length (slice_set xs n x) ≡ 32
set_count xs n x h = simp length-set h

pub below : (n : ℕ) → nat_le 32 n ≡ false → n < 32
below n h = grind (arith, nat_tests)

-- ---- seats

pub some_function : (b : Board) (q : Option Path) (o : Option Function) (p : Path) → IsSeat b q o → q ≡ Some p → (f : Function) × (o ≡ Some f)
some_function b q o p h e = grind arith

pub declared_there : (b : Board) (q : Option Path) (o : Option Function) (p : Path) (f : Function) → IsSeat b q o → q ≡ Some p → o ≡ Some f → declared b p ≡ Some f.decl
declared_there b q o p f h e i = (subst (λ (x : Option Path). IsSeat b x (Some f)) e (subst (IsSeat b q) i h)).decl

-- ---- who sits nowhere

none_in : (qs : List (Option Path)) (p : Path) → ((m : ℕ) → path_at qs m ≡ Some p → ⊥) → list_any (is_at p) qs ≡ false
none_in [] p h = refl
none_in (None ∷ qs) p h = none_in qs p (λ m. h (suc m))
none_in (Some q ∷ qs) p h = by (path_eq q p) refl (none_in qs p (λ m. h (suc m)))
  where
    by : (t : Bool) → path_eq q p ≡ t → list_any (is_at p) qs ≡ false → (t || list_any (is_at p) qs) ≡ false
    by true e more = absurd (h zero (ap Some (path_same q p e)))
    by false e more = more

pub none_sits : (gs : GuestsNow) (p : Path) → EachPair (λ (t u : GuestNow). IsFalse (bytes_eq t.name u.name)) gs → ((a : Text) (m : ℕ) → path_in gs a m ≡ Some p → ⊥) → sits gs p ≡ false
none_sits [] p names free = refl
none_sits (t ∷ ts) p names free =
    ap₂ ◌||◌ (none_in t.paths p (λ m h. free t.name m (ap (λ v. path_of (cond v (Some t) (guest_named ts t.name)) m) (same_text t.name) ∙ h)))
    (none_sits ts p names.1 (λ a m h. free a m (in_rest t ts a m p names.0 h)))

none_found : (o : Option File) → is_some o ≡ false → o ≡ None
none_found o h = grind arith

pub no_file : (b : Board) (gs : GuestsNow) → Each (IsSeatedGuest b) gs → (p : Path) → sits gs p ≡ false → file_of gs p ≡ None
no_file b gs all p h = none_found (file_of gs p) (sits_is b gs all p ∙ h)

-- a guest that sits there has the path in a slot, so its file is found
pub sits_nowhere : (b : Board) (gs : GuestsNow) → AreSeated b gs → (p : Path) → sits gs p ≡ false → (a : Text) (m : ℕ) → path_in gs a m ≡ Some p → ⊥
sits_nowhere b gs seated p free a m h =
    let there = some_function b (path_in gs a m) (function_in gs a m) p (seat_in b gs seated.guests a m) h in
    let file : file_of gs p ≡ Some there.0.file = file_found gs seated.names_apart seated.paths_apart a m p there.0 h (sym (function_named gs a m) ∙ there.1) in
    none_is_some there.0.file (sym (no_file b gs seated.guests p free) ∙ file)

other_path : (p q : Path) → path_eq p q ≡ false → (o : Option Path) → o ≡ Some p → (r : Path) → o ≡ Some r → path_eq r q ≡ false
other_path p q other o e r i = let same : r ≡ p = cc in ap (λ (x : Path). path_eq x q) same ∙ other

none_such : (q : Path) (o : Option Path) → o ≡ None → (r : Path) → o ≡ Some r → path_eq r q ≡ false
none_such q o e r i = cc

-- ---- a function comes

module _ (b : Board) (gs : GuestsNow) (seated : AreSeated b gs) (name : Text) (n : ℕ) (p : Path) (d : Endpoint) (declares : declared b p ≡ Some d) where
  abbrev pub came : GuestsNow
  came = with_guest (with_slot_filled n (Some p) d) name gs

  at_place : (a : Text) (k : ℕ) (q : Path) → path_in came a k ≡ Some q → Placed gs name a n k (Some p) q
  at_place a k q h = placed (with_slot_filled n (Some p) d) n (Some p) (λ t. refl) (λ t. refl) gs name a k q h

  module _ (free : (a : Text) (m : ℕ) → path_in gs a m ≡ Some p → ⊥) where
    pub came_seated : AreSeated b came
    came_seated = grind (arith, names_stay, guests_stay, set_count, seats_set, at_place, put_there, was_there)

    module _ (there : IsSome (guest_named gs name)) (low : nat_le 32 n ≡ false) where
      pub record Takes (o : Option GuestNow) : Type 0 where
        pub path_is : path_of o n ≡ Some p
        pub function_is : function_of o n ≡ Some (fresh d)

      takes : Takes (guest_named came name)
      takes = grind (arith, named_with, found, same_text, below, as_many, put_at)

      pub came_path : path_in came name n ≡ Some p
      came_path = takes.path_is

      pub came_function : function_in came name n ≡ Some (fresh d)
      came_function = function_named came name n ∙ takes.function_is

      pub came_file : file_of came p ≡ Some (endpoint_reset d false)
      came_file = file_found came came_seated.names_apart came_seated.paths_apart name n p (fresh d) takes.path_is takes.function_is

    pub came_others : function_in gs name n ≡ None → (q : Path) → path_eq p q ≡ false → file_of came q ≡ file_of gs q
    came_others empty q other =
        grind (arith, file_stays (with_slot_filled n (Some p) d) name q gs seated.names_apart, file_past, none_such q, no_path b (path_in gs name n) (function_in gs name n) (seat_in b gs seated.guests name n) empty, seat_in b gs seated.guests name n, other_path p q other (Some p) refl)

-- ---- a function leaves

module _ (b : Board) (gs : GuestsNow) (seated : AreSeated b gs) (name : Text) (n : ℕ) where
  abbrev pub left : GuestsNow
  left = with_guest (with_slot_emptied n) name gs

  left_place : (a : Text) (k : ℕ) (q : Path) → path_in left a k ≡ Some q → Placed gs name a n k None q
  left_place a k q h = placed (with_slot_emptied n) n None (λ t. refl) (λ t. refl) gs name a k q h

  pub left_was : (a : Text) (k : ℕ) (q : Path) → path_in left a k ≡ Some q → path_in gs a k ≡ Some q
  left_was a k q h = grind (arith, left_place, put_there, was_there)

  pub left_seated : AreSeated b left
  left_seated = grind (arith, names_stay, guests_stay, set_count, seats_set, left_place, put_there, was_there)

  module _ (p : Path) (at : path_in gs name n ≡ Some p) where
    gone : (a : Text) (m : ℕ) → path_in left a m ≡ Some p → ⊥
    gone a m h = grind (arith, left_place, put_there, none_is_some, was_there)

    pub left_file : file_of left p ≡ None
    left_file = no_file b left left_seated.guests p (none_sits left p left_seated.names_apart gone)

    pub left_others : (q : Path) → path_eq p q ≡ false → file_of left q ≡ file_of gs q
    left_others q other = grind (arith, file_stays, file_past, other_path, none_such)
