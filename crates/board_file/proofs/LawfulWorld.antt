-- The world of a judged file is lawful.
use Rattle.std.{proofs.{Common.{◌≡◌, ◌⊎◌, inl, inr, ℕ, ◌+◌, ◌≤◌, Bool, true, false, ◌&&◌, ◌||◌, not, List, [], ◌∷◌, map, length, nat_le, refl, sym, ap, ◌∙◌, subst, arith, leb-true, IsTrue, IsFalse, IsSome}, lemmas.{Bool.{and_parts, not-true, or_cases}, List.{length-map, map-append}, Simd.map-map}}, specs.{Prelude.flat_map, List.{list_all, list_any, enumerate_from}, Str.bytes_eq}}
use Rattle.lists.{specs.Elements.{IsIn, Each, EachPair, all_pairs}, proofs.{EachLemmas.{each_map, each_of_map, each_from_map, each_test, pairs_map, pairs_from_map, pairs_test}, Members.{all_in, each_from, pairs_of_map, pairs_weaker}, Tests.{left_true, right_true}}}
use Rattle.model_board.{specs.{Paths.{Path, IsPath, path_eq, parent, function_zero}, Board.{Decl, Row, Board, IsBoard, is_bridge, stands_at, is_bridge_at}, Places.{Standing, standing, has_path, has_bridge, board_of, IsFounded, AreLawfulPlaces}, Lawful.{HasLawfulDecls, IsLawfulDecl}, State.{row_at, State}, AtReset.{reset_state, reset_file, board_at, IsAtReset}}, proofs.PlacesLaw.{any_board, apart_turn, each_to_board, lawful_places_are_boards}}
use Rattle.model_guests.specs.World.{is_name, declared, HasLawfulGuests, IsLawfulWorld}
use Rattle.board_file.{specs.{Endpoints.Endpoint, Entries.{Bridge, Guest, File}, Functions.{rows, standings, guest}, PathTexts.{is_path_text, is_path_within, path_at}, Rules.{device_limit, is_root, is_endpoint, names_endpoint}, EntryRules.{are_same_valid_path, is_existing_bus}, MarkedPaths.{guest_texts, function_texts, slot_texts}, Problems.{none, problems_in}, Judged.{is_judged, IsShortGuest}, Meaning.world_of, declared.entry.Entry.Entry}, proofs.{Asked.{others, unbroken, counts, names, places, slots}, ListTests.pairs_of_test, PathParts.path_at_is_path, Tests.{first_three, imply_all}}}
use Rattle.model_registers.specs.Registers as registers
use Rattle.model_guests.specs.World as world
use Rattle.board_file.specs.declared.fault.BoardFault.TheVariants as fault

-- ---- texts of paths

-- what is made of each element with its index, but not of the index
unnumbered : {A B : Type 0} (g : A → B) (n : ℕ) (xs : List A) → map (λ (p : ℕ × A). g p.1) (enumerate_from n xs) ≡ map g xs
unnumbered g n [] = refl
unnumbered g n (x ∷ xs) = ap (λ ys. g x ∷ ys) (unnumbered g (n + 1) xs)

abbrev pub path_in : Entry × List ℕ → Path
path_in s = path_at s.1

differ : (s t : List ℕ) → is_path_text s ≡ true → is_path_text t ≡ true → not (are_same_valid_path s t) ≡ true → path_eq (path_at s) (path_at t) ≡ false
differ s t a b h = grind arith

apart : (texts : List (Entry × List ℕ)) → list_all (λ s. is_path_text s.1) texts ≡ true → all_pairs others texts ≡ true
    → EachPair (λ p q. IsFalse (path_eq p q)) (map path_in texts)
apart texts paths own =
    pairs_of_map (λ p q. IsFalse (path_eq p q)) path_in texts
    (pairs_weaker (λ s t. IsTrue (others s t)) (λ s t. IsFalse (path_eq (path_in s) (path_in t))) texts (pairs_test others texts own)
    (λ s t a b. differ s.1 t.1 (all_in (λ u. is_path_text u.1) s texts paths a) (all_in (λ u. is_path_text u.1) t texts paths b)))

-- ---- the board

pub place_paths : (f : File) → map path_in (function_texts f) ≡ map (λ (s : Standing). s.path) (standings f)
place_paths f = simp (map-append, map-map, unnumbered (λ (e : Endpoint). path_at e.at) 0 f.endpoints, unnumbered (λ (b : Bridge). path_at b.at) 0 f.bridges)

root_of_test : (p : Path) → is_root p ≡ true → p ≡ []
root_of_test p h = grind arith

abbrev Founded : List Standing → Path → Type 0
Founded ss p = IsPath p × ((parent p ≡ []) ⊎ IsTrue (has_bridge ss (parent p))) × IsTrue (has_path ss (function_zero p))

behind : (ss : List Standing) (p : Path) → is_existing_bus ss p ≡ true → (p ≡ []) ⊎ IsTrue (has_bridge ss p)
behind ss p h = grind (arith, or_cases, root_of_test)

lawful_places : (f : File) → none (problems_in f fault.Place) ≡ true → AreLawfulPlaces (standings f)
lawful_places f h =
    let ss = standings f in let texts = function_texts f in
    let (limited, own, bridges, zeros) = first_three _ _ _ _ (sym (places f) ∙ h) in
    let paths = imply_all (λ s. is_path_within (device_limit f.devices) s.1) (λ s. is_path_text s.1) (λ s. left_true (is_path_text s.1) _) texts limited in
    let each = each_from (λ t. Founded ss (path_in t)) texts
    (λ t m. (
      path_at_is_path t.1,
      behind ss (parent (path_in t)) (all_in (λ u. is_existing_bus ss (parent (path_in u))) t texts bridges m),
      all_in (λ u. has_path ss (function_zero (path_in u))) t texts zeros m,
    )) in
    let there = each_from_map (Founded ss) (λ (s : Standing). s.path) ss (subst (Each (Founded ss)) (place_paths f) (each_of_map (Founded ss) path_in texts each)) in
    let turned = pairs_map (λ p q. IsFalse (path_eq p q)) (λ p q. IsFalse (path_eq q p)) (map path_in texts) apart_turn (apart texts paths own) in
    record {
      founded = each_map (λ (s : Standing). Founded ss s.path) (IsFounded ss) ss (λ s k. record { path = k.0; behind_bridge = k.1; function_zero = k.2 }) there;
      apart = pairs_from_map (λ p q. IsFalse (path_eq q p)) (λ (s : Standing). s.path) ss (subst (EachPair (λ p q. IsFalse (path_eq q p))) (place_paths f) turned);
    }

pub places_of_rows : (f : File) → map standing (rows f) ≡ standings f
places_of_rows f = simp (map-append, map-map)

pub is_board : (f : File) → is_judged f ≡ true → IsBoard (board_of (rows f))
is_board f j = (lawful_places_are_boards (rows f)).0 (subst AreLawfulPlaces (sym (places_of_rows f)) (lawful_places f (unbroken f j fault.Place (inr (inr (inl refl))))))

-- ---- slots

any_map : {A B : Type 0} (t : B → Bool) (f : A → B) (xs : List A) → list_any t (map f xs) ≡ list_any (λ x. t (f x)) xs
any_map t f [] = refl
any_map t f (x ∷ xs) = ap (λ b. t (f x) || b) (any_map t f xs)

stands : (rs : List Row) (p : Path) → has_path (map standing rs) p ≡ stands_at (board_of rs) p
stands rs p = any_map (λ s. path_eq s.path p) standing rs ∙ sym (any_board (λ r. path_eq r.path p) rs)

bridges : (rs : List Row) (p : Path) → has_bridge (map standing rs) p ≡ is_bridge_at (board_of rs) p
bridges rs p = any_map (λ s. s.is_bridge && path_eq s.path p) standing rs ∙ sym (any_board (λ r. is_bridge r.decl && path_eq r.path p) rs)

-- where a function stands and no bridge does, an endpoint is declared
finds : (b : Board) (p : Path) → stands_at b p ≡ true → is_bridge_at b p ≡ false → IsSome (declared b p)
finds [] p h k = cc
finds (r ∷ b) p h k = grind (arith, finds b p)

names_slot : (f : File) (t : List ℕ) → names_endpoint (standings f) t ≡ true → IsSome (declared (board_of (rows f)) (path_at t))
names_slot f t h =
    let stand = right_true (is_path_text t) (is_endpoint (standings f) (path_at t)) h in
    let (there, no_bridge) = and_parts (has_path (standings f) (path_at t)) (not (has_bridge (standings f) (path_at t))) stand in
    let same = places_of_rows f in
    let there' : has_path (map standing (rows f)) (path_at t) ≡ true = rw same there in
    let bridge' : has_bridge (map standing (rows f)) (path_at t) ≡ false = rw same (not-true (has_bridge (standings f) (path_at t)) no_bridge) in
    finds (board_of (rows f)) (path_at t) (sym (stands (rows f) (path_at t)) ∙ there') (sym (bridges (rows f) (path_at t)) ∙ bridge')

slots_named : (f : File) → list_all (λ s. names_endpoint (standings f) s.1) (slot_texts f) ≡ true → Each (λ p. IsSome (declared (board_of (rows f)) p)) (map path_in (slot_texts f))
slots_named f h = grind (arith, each_of_map, each_from, names_slot, all_in)

-- ---- guests

slot_paths : (n : ℕ) (gs : List Guest) → map path_in (flat_map guest_texts (enumerate_from n gs)) ≡ flat_map (λ (g : world.Guest). g.slots) (map guest gs)
slot_paths n [] = refl
slot_paths n (g ∷ gs) = simp (map-append, map-map, unnumbered path_at 0 g.slots, slot_paths (n + 1) gs)

module _ (f : File) (j : is_judged f ≡ true) where
  counts_of : (length f.guests ≤ 32) × (list_all (λ g. nat_le (length g.slots) 32) f.guests ≡ true)
  counts_of = grind (arith, first_three, counts, unbroken, leb-true, right_true)

  names_of : (list_all (λ g. is_name g.name) f.guests ≡ true) × (all_pairs (λ g h. not (bytes_eq g.name h.name)) f.guests ≡ true)
  names_of = and_parts _ _ (sym (names f) ∙ unbroken f j fault.GuestName (inr (inr (inr (inr (inr (inl refl)))))))

  few : (g : Guest) → IsIn g f.guests → length g.slots ≤ 32
  few g m = leb-true (length g.slots) 32 (all_in (λ (h : Guest). nat_le (length h.slots) 32) g f.guests counts_of.1 m)

short_name : (n : List ℕ) → is_name n ≡ true → length n ≤ 16
short_name [] h = omega arith
short_name (c ∷ cs) h = let short : length cs ≤ 15 = search (left_true, right_true, leb-true) in omega arith

pub short_guests : (f : File) → is_judged f ≡ true → Each IsShortGuest f.guests
short_guests f j =
    each_from IsShortGuest f.guests (λ g m. record { name = short_name g.name (all_in (λ (h : Guest). is_name h.name) g f.guests (names_of f j).0 m); slots = few f j g m })

lawful_guests : (f : File) → is_judged f ≡ true → HasLawfulGuests (world_of f)
lawful_guests f j =
    let (named, own) = and_parts _ _ (sym (slots f) ∙ unbroken f j fault.Slot (inr (inr (inr (inr (inr (inr (inl refl)))))))) in
    let texts = imply_all (λ s. names_endpoint (standings f) s.1) (λ s. is_path_text s.1) (λ s. left_true (is_path_text s.1) (is_endpoint (standings f) (path_in s))) (slot_texts f) named in
    record {
      lawful_names = each_of_map (λ n. IsTrue (is_name n)) (λ (g : world.Guest). g.name) (map guest f.guests) (each_of_map (λ g. IsTrue (is_name g.name)) guest f.guests (each_test (λ g. is_name g.name) f.guests (names_of f j).0));
      names_apart =
          pairs_of_map (λ m n. IsFalse (bytes_eq m n)) (λ (g : world.Guest). g.name) (map guest f.guests)
          (pairs_of_map (λ g h. IsFalse (bytes_eq g.name h.name)) guest f.guests (pairs_of_test (λ g h. bytes_eq g.name h.name) f.guests (names_of f j).1));
      few_guests = rw (length-map f.guests guest) (counts_of f j).0;
      few_slots = each_of_map (λ (g : world.Guest). length g.slots ≤ 32) guest f.guests (each_from (λ g. length (map path_at g.slots) ≤ 32) f.guests (λ g m. rw (length-map g.slots path_at) (few f j g m)));
      endpoints = subst (Each (λ p. IsSome (declared (board_of (rows f)) p))) (slot_paths 0 f.guests) (slots_named f named);
      paths_apart = subst (EachPair (λ p q. IsFalse (path_eq p q))) (slot_paths 0 f.guests) (apart (slot_texts f) texts own);
    }

pub lawful_rows : (f : File) → HasLawfulDecls (rows f) → HasLawfulDecls (board_of (rows f))
lawful_rows f h = each_to_board (λ r. IsLawfulDecl r.decl) (rows f) h

pub lawful_world : (f : File) → is_judged f ≡ true → HasLawfulDecls (rows f) → IsLawfulWorld (world_of f)
lawful_world f j h = record { board = is_board f j; functions = lawful_rows f h; guests = lawful_guests f j }

-- ---- the state at reset

rows_at_reset : (b : Board) (g : Path → Decl → registers.File) → map row_at (map (λ (r : Row). record { path = r.path; decl = r.decl; file = g r.path r.decl }) b) ≡ b
rows_at_reset [] g = refl
rows_at_reset (r ∷ b) g = ap (λ rs. r ∷ rs) (rows_at_reset b g)

pub board_at_reset : (b : Board) → board_at (reset_state b).functions ≡ b
board_at_reset b = rows_at_reset b (reset_file b)

pub is_at_reset : (b : Board) (s : State) → IsBoard b → HasLawfulDecls b → s ≡ reset_state b → IsAtReset s
is_at_reset b s board lawful e = grind (arith, board_at_reset)
