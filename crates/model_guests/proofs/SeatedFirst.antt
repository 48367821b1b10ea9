-- Guests are seated at first.
use Rattle.std.{proofs.{Common.{◌≡◌, ℕ, zero, suc, ◌≤◌, Bool, true, false, cond, List, [], ◌∷◌, ◌++◌, length, Some, None, refl, sym, ap, ◌∙◌, subst, arith}, lemmas.List.{length-append, length-map, length-replicate}}, specs.{Prelude.{map, find, flat_map, replicate, slice_get, IsFalse, IsSome}, Option.option_map_or, Str.bytes_eq}}
use Rattle.lists.{specs.Elements.{Each, EachPair}, proofs.{Indices.each_at, EachLemmas.{each_parts, PairParts, pair_parts}}}
use Rattle.model_board.{specs.{Paths.{Path, path_eq}, Board.Board}, proofs.PathEnds.path_self}
use Rattle.model_guests.{specs.{Slots.reset_function, Text.Text, World.{Guest, World, declared}, Guests.{GuestNow, guest_at_first, path_in}, Seated.{AreSeats, IsSeatedGuest, SeatedAtFirst}}, proofs.{Names.equal_texts, GuestFiles.{slots_among, NamesApart, PathsApart, of_slot}, GuestsByName.path_at}}

-- ---- one guest

empty_seats : (b : Board) (k : ℕ) → AreSeats b (replicate k None) (map reset_function (replicate k None))
empty_seats b zero = tt
empty_seats b (suc k) = (tt, empty_seats b k)

first_seats : (b : Board) (ps : List Path) (k : ℕ) → Each (λ p. IsSome (declared b p)) ps → AreSeats b (map Some ps ++ replicate k None) (map reset_function (map (declared b) ps ++ replicate k None))
first_seats b [] k all = empty_seats b k
first_seats b (p ∷ ps) k all = grind (arith, first_seats b ps k)

first_guest : (w : World) (g : Guest) → length g.slots ≤ 32 → Each (λ p. IsSome (declared w.board p)) g.slots → IsSeatedGuest w.board (guest_at_first w g)
first_guest w g few all = grind (arith, length-append, length-map, length-replicate, first_seats)

first_guests : (w : World) (gs : List Guest) → Each (λ g. length g.slots ≤ 32) gs → Each (λ p. IsSome (declared w.board p)) (flat_map (λ (g : Guest). g.slots) gs)
    → Each (IsSeatedGuest w.board) (map (guest_at_first w) gs)
first_guests w [] few all = tt
first_guests w (g ∷ gs) few all =
    let parts = each_parts (λ p. IsSome (declared w.board p)) g.slots (flat_map (λ (h : Guest). h.slots) gs) all in
    (first_guest w g few.0 parts.0, first_guests w gs few.1 parts.1)

first_names : (w : World) (gs : List Guest) → NamesApart gs → EachPair (λ (t u : GuestNow). IsFalse (bytes_eq t.name u.name)) (map (guest_at_first w) gs)
first_names w [] h = tt
first_names w (g ∷ gs) h = (later gs h.0, first_names w gs h.1)
  where
    later : (hs : List Guest) → Each (λ n. IsFalse (bytes_eq g.name n)) (map (λ (k : Guest). k.name) hs) → Each (λ (u : GuestNow). IsFalse (bytes_eq g.name u.name)) (map (guest_at_first w) hs)
    later [] h = tt
    later (k ∷ ks) h = (h.0, later ks h.1)

-- ---- paths

no_path : (k n : ℕ) → path_at (replicate k None) n ≡ None
no_path zero n = refl
no_path (suc k) zero = refl
no_path (suc k) (suc n) = no_path k n

path_first : (ps : List Path) (k n : ℕ) → path_at (map Some ps ++ replicate k None) n ≡ slice_get ps n
path_first [] k n = no_path k n
path_first (p ∷ ps) k zero = refl
path_first (p ∷ ps) k (suc n) = path_first ps k n

path_among : (w : World) (gs : List Guest) (a : Text) (n : ℕ) → path_in (map (guest_at_first w) gs) a n ≡ slice_get (slots_among gs a) n
path_among w [] a n = refl
path_among w (g ∷ gs) a n = grind (arith, path_among w gs a n, path_first)

clash : {A : Type 0} (p : Path) → path_eq p p ≡ false → A
clash p h = cc (path_self p)

same_slot : (ps : List Path) (n m : ℕ) (p : Path) → EachPair (λ p q. IsFalse (path_eq p q)) ps → slice_get ps n ≡ Some p → slice_get ps m ≡ Some p → n ≡ m
same_slot [] n m p h i j = cc
same_slot (q ∷ qs) zero zero p h i j = refl
same_slot (q ∷ qs) zero (suc m) p h i j = let is : q ≡ p = cc in clash p (subst (λ (x : Path). path_eq x p ≡ false) is (each_at (λ x. path_eq q x ≡ false) qs m p h.0 j))
same_slot (q ∷ qs) (suc n) zero p h i j = let is : q ≡ p = cc in clash p (subst (λ (x : Path). path_eq x p ≡ false) is (each_at (λ x. path_eq q x ≡ false) qs n p h.0 i))
same_slot (q ∷ qs) (suc n) (suc m) p h i j = ap suc (same_slot qs n m p h.1 i j)

across_apart : {A : Type 0} (ps : List Path) (gs : List Guest) (c : Text) (n m : ℕ) (p : Path) → Each (λ x. Each (λ y. IsFalse (path_eq x y)) (flat_map (λ (h : Guest). h.slots) gs)) ps
    → slice_get ps n ≡ Some p → slice_get (slots_among gs c) m ≡ Some p → A
across_apart ps gs c n m p across i j =
    clash p (of_slot (λ y. path_eq p y ≡ false) gs c m p (each_at (λ x. Each (λ y. IsFalse (path_eq x y)) (flat_map (λ (h : Guest). h.slots) gs)) ps n p across i) j)

apart_among : (gs : List Guest) → PathsApart gs → (a c : Text) (n m : ℕ) (p : Path) → slice_get (slots_among gs a) n ≡ Some p → slice_get (slots_among gs c) m ≡ Some p → (a ≡ c) × (n ≡ m)
apart_among [] apart a c n m p i j = cc
apart_among (g ∷ gs) apart a c n m p i j = cases (bytes_eq g.name a) refl (bytes_eq g.name c) refl i j (apart_among gs parts.second a c n m p)
  where
    parts : PairParts (λ p q. IsFalse (path_eq p q)) g.slots (flat_map (λ (h : Guest). h.slots) gs)
    parts = pair_parts (λ p q. IsFalse (path_eq p q)) g.slots (flat_map (λ (h : Guest). h.slots) gs) apart

    cases : (t : Bool) → bytes_eq g.name a ≡ t → (u : Bool) → bytes_eq g.name c ≡ u
        → slice_get (option_map_or (λ (h : Guest). h.slots) (cond t (Some g) (find (λ h. bytes_eq h.name a) gs)) []) n ≡ Some p
        → slice_get (option_map_or (λ (h : Guest). h.slots) (cond u (Some g) (find (λ h. bytes_eq h.name c) gs)) []) m ≡ Some p
        → (slice_get (slots_among gs a) n ≡ Some p → slice_get (slots_among gs c) m ≡ Some p → (a ≡ c) × (n ≡ m)) → (a ≡ c) × (n ≡ m)
    cases true e true f i j more = (sym (equal_texts g.name a e) ∙ equal_texts g.name c f, same_slot g.slots n m p parts.first i j)
    cases true e false f i j more = across_apart g.slots gs c n m p parts.across i j
    cases false e true f i j more = across_apart g.slots gs a m n p parts.across j i
    cases false e false f i j more = more i j

pub seated_at_first : SeatedAtFirst
seated_at_first w lawful = grind (arith, first_names, first_guests, apart_among, path_among)
