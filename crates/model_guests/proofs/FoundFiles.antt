-- Which file a path finds among seated guests, and what of it a change of one guest changes.
use Rattle.std.{proofs.{Common.{◌≡◌, ℕ, zero, suc, Bool, true, false, cond, List, [], ◌∷◌, Some, None, Option, refl, sym, ap, ap₂, ◌∙◌, subst, arith}, lemmas.{List.set-get_or, Option.unwrap_or-slice_get}}, specs.{Prelude.{slice_set, option_map, IsFalse}, Str.bytes_eq}}
use Rattle.lists.specs.Elements.{Each, EachPair, first_of_two}
use Rattle.model_board.{proofs.{PathEnds.path_self, PathOrder.path_same}, specs.{Paths.{Path, path_eq}, Board.Board}}
use Rattle.model_registers.specs.{Registers.{Place, File}, Decoding.Function, CopiedFiles.{places_of, shape_of}}
use Rattle.model_guests.{specs.{Slots.{Slots, slot_at}, Text.Text, Guests.{GuestNow, GuestsNow, file_in, file_of, guest_named, path_in, with_guest}, Seated.{AreSeats, IsSeatedGuest}}, proofs.{Names.{equal_texts, same_text}, GuestFiles.other_name, SlotPlaces.IsFileOf, GuestsByName.{path_at, path_of, function_of, past_first}}}

-- ---- files of one shape have the same places

pub shape_places : (file : File) → places_of (shape_of file) ≡ places_of file
shape_places [] = refl
shape_places (e ∷ es) = ap (λ (ps : List Place). e.place ∷ ps) (shape_places es)

pub same_places : (f g : File) → shape_of f ≡ shape_of g → places_of f ≡ places_of g
same_places f g same = sym (shape_places f) ∙ ap places_of same ∙ shape_places g

-- ---- one guest

skip : (o : Option Path) (f : Option Function) (qs : List (Option Path)) (fs : Slots) (q : Path) → ((r : Path) → o ≡ Some r → path_eq r q ≡ false) → file_in (o ∷ qs) (f ∷ fs) q ≡ file_in qs fs q
skip o f qs fs q h = grind arith

-- a path that is put where it stands
pub put_back : (qs : List (Option Path)) (n : ℕ) → slice_set qs n (path_at qs n) ≡ qs
put_back qs n = ap (slice_set qs n) (unwrap_or-slice_get qs n None) ∙ set-get_or qs n None

-- another slot, set anew
pub file_past : (qs : List (Option Path)) (fs : Slots) (n : ℕ) (x : Option Path) (f : Option Function) (q : Path)
    → ((r : Path) → path_at qs n ≡ Some r → path_eq r q ≡ false) → ((r : Path) → x ≡ Some r → path_eq r q ≡ false) → file_in (slice_set qs n x) (slice_set fs n f) q ≡ file_in qs fs q
file_past [] fs n x f q h k = refl
file_past (o ∷ os) [] n x f q h k = grind arith
file_past (o ∷ os) (g ∷ gs) zero x f q h k = skip x f os gs q k ∙ sym (skip o g os gs q h)
file_past (None ∷ os) (g ∷ gs) (suc n) x f q h k = file_past os gs n x f q h k
file_past (Some r ∷ os) (g ∷ gs) (suc n) x f q h k = ap (cond (path_eq r q) (option_map (λ (y : Function). y.file) g)) (file_past os gs n x f q h k)

-- the same, where the path stays
pub file_beside : (qs : List (Option Path)) (fs : Slots) (n : ℕ) (f : Option Function) (q : Path) → ((r : Path) → path_at qs n ≡ Some r → path_eq r q ≡ false) → file_in qs (slice_set fs n f) q ≡ file_in qs fs q
file_beside qs fs n f q h = sym (ap (λ (ps : List (Option Path)). file_in ps (slice_set fs n f) q) (put_back qs n)) ∙ file_past qs fs n (path_at qs n) f q h h

no_such : (o : Option Path) (p : Path) → (o ≡ Some p → ⊥) → (r : Path) → o ≡ Some r → path_eq r p ≡ false
no_such o p h r e = grind (arith, path_same r p)

file_own : (qs : List (Option Path)) (fs : Slots) (n : ℕ) (p : Path) (f : Function) → ((m : ℕ) → path_at qs m ≡ Some p → n ≡ m) → path_at qs n ≡ Some p → slot_at fs n ≡ Some f → file_in qs fs p ≡ Some f.file
file_own [] fs n p f once at there = cc
file_own (o ∷ os) [] n p f once at there = cc
file_own (o ∷ os) (g ∷ gs) zero p f once at there = grind (arith, path_self)
file_own (o ∷ os) (g ∷ gs) (suc n) p f once at there =
    skip o g os gs p (no_such o p (λ e. let no : suc n ≡ 0 = once 0 e in omega arith)) ∙ file_own os gs n p f (λ m e. let same : suc n ≡ suc m = once (suc m) e in omega arith) at there

pub file_none : (qs : List (Option Path)) (fs : Slots) (p : Path) → ((m : ℕ) → path_at qs m ≡ Some p → ⊥) → file_in qs fs p ≡ None
file_none [] fs p none = refl
file_none r [] p none = refl
file_none (o ∷ os) (g ∷ gs) p none = skip o g os gs p (no_such o p (none 0)) ∙ file_none os gs p (λ m. none (suc m))

seat_file : (b : Board) (qs : List (Option Path)) (fs : Slots) (p : Path) (file : File) → AreSeats b qs fs → file_in qs fs p ≡ Some file → IsFileOf shape_of b p file
seat_file b [] fs p file h e = cc
seat_file b (o ∷ os) [] p file h e = absurd h
seat_file b (None ∷ os) (g ∷ gs) p file h e = seat_file b os gs p file h.1 e
seat_file b (Some r ∷ os) (None ∷ gs) p file h e = absurd h.0
seat_file b (Some r ∷ os) (Some f ∷ gs) p file h e = cases (path_eq r p) refl e (seat_file b os gs p file h.1)
  where
    cases : (t : Bool) → path_eq r p ≡ t → cond t (Some f.file) (file_in os gs p) ≡ Some file → (file_in os gs p ≡ Some file → IsFileOf shape_of b p file) → IsFileOf shape_of b p file
    cases false i e more = more e
    cases true i e more =
        let same : f.file ≡ file = cc in
        subst (λ (x : Path). IsFileOf shape_of b x file) (path_same r p i) (subst (IsFileOf shape_of b r) same (record { decl = f.decl; declares = h.0.decl; same = h.0.shape }))

-- ---- all guests

abbrev pub NamesApart : GuestsNow → Type 0
NamesApart s = EachPair (λ (t u : GuestNow). IsFalse (bytes_eq t.name u.name)) s

abbrev pub PathsApart : GuestsNow → Type 0
PathsApart s = (a c : Text) (n m : ℕ) (p : Path) → path_in s a n ≡ Some p → path_in s c m ≡ Some p → (a ≡ c) × (n ≡ m)

-- what a path finds is declared there
pub seated_file : (b : Board) (s : GuestsNow) (p : Path) (file : File) → Each (IsSeatedGuest b) s → file_of s p ≡ Some file → IsFileOf shape_of b p file
seated_file b [] p file all e = cc
seated_file b (t ∷ ts) p file all e = grind (arith, seated_file b ts p file, seat_file)

pub in_rest : (t : GuestNow) (ts : GuestsNow) (a : Text) (n : ℕ) (p : Path) → Each (λ (v : GuestNow). IsFalse (bytes_eq t.name v.name)) ts → path_in ts a n ≡ Some p → path_in (t ∷ ts) a n ≡ Some p
in_rest t ts a n p apart h = grind (arith, past_first)

rest_apart : (t : GuestNow) (ts : GuestsNow) → NamesApart (t ∷ ts) → PathsApart (t ∷ ts) → PathsApart ts
rest_apart t ts names apart a c n m p h k = apart a c n m p (in_rest t ts a n p names.0 h) (in_rest t ts c m p names.0 k)

first_path : (t : GuestNow) (ts : GuestsNow) (m : ℕ) (p : Path) → path_at t.paths m ≡ Some p → path_in (t ∷ ts) t.name m ≡ Some p
first_path t ts m p h = ap (λ v. path_of (cond v (Some t) (guest_named ts t.name)) m) (same_text t.name) ∙ h

-- a path in a slot finds the file of that slot
pub file_found : (s : GuestsNow) → NamesApart s → PathsApart s → (a : Text) (n : ℕ) (p : Path) (f : Function) → path_in s a n ≡ Some p → function_of (guest_named s a) n ≡ Some f → file_of s p ≡ Some f.file
file_found [] names apart a n p f at there = cc
file_found (t ∷ ts) names apart a n p f at there = cases (bytes_eq t.name a) refl at there (file_found ts names.1 (rest_apart t ts names apart) a n p f)
  where
    cases : (v : Bool) → bytes_eq t.name a ≡ v → path_of (cond v (Some t) (guest_named ts a)) n ≡ Some p → function_of (cond v (Some t) (guest_named ts a)) n ≡ Some f
        → (path_in ts a n ≡ Some p → function_of (guest_named ts a) n ≡ Some f → file_of ts p ≡ Some f.file) → file_of (t ∷ ts) p ≡ Some f.file
    cases true e at there more =
        let here : file_in t.paths t.lone.slots p ≡ Some f.file =
        file_own t.paths t.lone.slots n p f (λ m h. (apart t.name t.name n m p (first_path t ts n p at) (first_path t ts m p h)).1) at there in
        ap (λ (o : Option File). first_of_two o (file_of ts p)) here
    cases false e at there more =
        let here : file_in t.paths t.lone.slots p ≡ None =
        file_none t.paths t.lone.slots p
        (λ m h. let same = (apart t.name a m n p (first_path t ts m p h) (ap (λ v. path_of (cond v (Some t) (guest_named ts a)) n) e ∙ at)).0 in clash same) in
        ap (λ (o : Option File). first_of_two o (file_of ts p)) here ∙ more at there
      where
        clash : t.name ≡ a → ⊥
        clash same = let yes : bytes_eq t.name a ≡ true = ap (bytes_eq t.name) (sym same) ∙ same_text t.name in cc

-- guests of other names stay
pub others_stay : (g : GuestNow → GuestNow) (name : Text) (s : GuestsNow) → Each (λ (v : GuestNow). IsFalse (bytes_eq name v.name)) s → with_guest g name s ≡ s
others_stay g name [] h = refl
others_stay g name (t ∷ ts) h = let here : bytes_eq name t.name ≡ false = h.0 in ap₂ (λ (x : GuestNow) (xs : GuestsNow). x ∷ xs) (ap (λ v. cond v (g t) t) here) (others_stay g name ts h.1)

-- two changes of a guest that leave the same file there
pub file_alike : (g h : GuestNow → GuestNow) (name : Text) (q : Path) (s : GuestsNow) → NamesApart s
    → ((t : GuestNow) → guest_named s name ≡ Some t → file_in (g t).paths (g t).lone.slots q ≡ file_in (h t).paths (h t).lone.slots q) → file_of (with_guest g name s) q ≡ file_of (with_guest h name s) q
file_alike g h name q [] names same = refl
file_alike g h name q (t ∷ ts) names same = cases (bytes_eq name t.name) refl (file_alike g h name q ts names.1)
  where
    cases : (v : Bool) → bytes_eq name t.name ≡ v
        → (((u : GuestNow) → guest_named ts name ≡ Some u → file_in (g u).paths (g u).lone.slots q ≡ file_in (h u).paths (h u).lone.slots q) → file_of (with_guest g name ts) q ≡ file_of (with_guest h name ts) q)
        → first_of_two (file_in (cond v (g t) t).paths (cond v (g t) t).lone.slots q) (file_of (with_guest g name ts) q)
        ≡ first_of_two (file_in (cond v (h t) t).paths (cond v (h t) t).lone.slots q) (file_of (with_guest h name ts) q)
    cases true e more =
        let is : name ≡ t.name = equal_texts name t.name e in
        let there : bytes_eq t.name name ≡ true = ap (bytes_eq t.name) is ∙ same_text t.name in
        let apart = subst (λ (x : Text). Each (λ (v : GuestNow). IsFalse (bytes_eq x v.name)) ts) (sym is) names.0 in
        ap₂ first_of_two (same t (ap (λ v. cond v (Some t) (guest_named ts name)) there)) (ap (λ (us : GuestsNow). file_of us q) (others_stay g name ts apart ∙ sym (others_stay h name ts apart)))
    cases false e more = grind (arith, other_name)

same_guests : (name : Text) (s : GuestsNow) → with_guest (λ t. t) name s ≡ s
same_guests name [] = refl
same_guests name (t ∷ ts) = grind (arith, same_guests name ts)

-- a path that the change of a guest leaves
pub file_stays : (g : GuestNow → GuestNow) (name : Text) (q : Path) (s : GuestsNow) → NamesApart s
    → ((t : GuestNow) → guest_named s name ≡ Some t → file_in (g t).paths (g t).lone.slots q ≡ file_in t.paths t.lone.slots q) → file_of (with_guest g name s) q ≡ file_of s q
file_stays g name q s names same = file_alike g (λ t. t) name q s names same ∙ ap (λ (us : GuestsNow). file_of us q) (same_guests name s)
