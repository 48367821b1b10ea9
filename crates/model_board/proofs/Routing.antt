-- Claims depend on routing registers alone.
use Rattle.std.{proofs.{Common.{◌≡◌, ℕ, zero, suc, ◌+◌, ◌*◌, ◌≤◌, ◌<◌, Bool, true, cond, List, [], ◌∷◌, ◌++◌, Option, Some, None, refl, sym, ap, ap₂, ◌∙◌, arith, rules}, lemmas.Bool.Decides.nat_tests}, specs.{Prelude.{map, flat_map, slice_get, IsTrue}, Option.{option_map_or, option_to_list}}}
use Rattle.lists.{specs.Elements.{Each, first_of_two, first_some}, proofs.Members.flat_map_map}
use Rattle.model_registers.specs.{Registers.{config, File, cell_at, number}, Declarations.{Region, IsLawfulRegion, Endpoint, IoDecode, PrefDecode, Bridge}, Decoding.{Space, base_address, Hit}}
use Rattle.model_board.specs.{Paths.Path, Board.{Decl, endpoint, bridge}, State.BoardFunction, Windows.{io_window, pref_window}, Claims.{Claim, claim_at, endpoint_hits, endpoint_hit, claims_of, claim_of, is_forwarded, claims, first_claim}, Routing.{regions, ranges_of, routing, row_claims}, Lawful.IsLawfulDecl, RoutingLaws.{is_routing_register, HasSameRouting, SameRouting, ForwardedByRouting, ClaimsByRouting, FirstByRouting, SameClaims, RoutingOfCells, RoutingOfChange}}

-- ---- forwarding and claims by rows

pub forwarded_by_routing : ForwardedByRouting
forwarded_by_routing [] p space a = refl
forwarded_by_routing (f ∷ fs) p space a = grind (arith, forwarded_by_routing fs p space a)

claims_rows : (all : List BoardFunction) (space : Space) (a : ℕ) (fs : List BoardFunction) → flat_map (claims_of all space a) fs ≡ flat_map (row_claims (routing all) space a) (routing fs)
claims_rows all space a [] = refl
claims_rows all space a (f ∷ fs) = search (rules, claims_rows all space a fs, forwarded_by_routing, flat_map_map)

pub claims_by_routing : ClaimsByRouting
claims_by_routing fs space a = claims_rows fs space a fs

-- ---- the first claim is the first of all claims

first_append : {A : Type 0} (xs ys : List A) → slice_get (xs ++ ys) 0 ≡ first_of_two (slice_get xs 0) (slice_get ys 0)
first_append [] ys = refl
first_append (x ∷ xs) ys = refl

pub first_listed : {A : Type 0} (x : Option A) → x ≡ slice_get (option_to_list x) 0
first_listed x = grind arith

first_some_flat : {A B : Type 0} (f : A → Option B) (g : A → List B) → ((x : A) → f x ≡ slice_get (g x) 0) → (xs : List A) → first_some f xs ≡ slice_get (flat_map g xs) 0
first_some_flat f g h [] = refl
first_some_flat f g h (x ∷ xs) = ap₂ first_of_two (h x) (first_some_flat f g h xs) ∙ sym (first_append (g x) (flat_map g xs))

first_hit : (space : Space) (a : ℕ) (p : Path) (d : Decl) (file : File) → endpoint_hit (record { path = p; decl = d; file = file }) space a ≡ slice_get (endpoint_hits (record { path = p; decl = d; file = file }) space a) 0
first_hit space a p d file = grind (arith, first_some_flat, first_listed)

first_map : (p : Path) (hs : List Hit) → option_map_or (λ (h : Hit). Some (claim_at p h)) (slice_get hs 0) None ≡ slice_get (map (claim_at p) hs) 0
first_map p [] = refl
first_map p (h ∷ hs) = refl

first_where : (t : Bool) (p : Path) (h : Option Hit) (hs : List Hit) → h ≡ slice_get hs 0
    → cond t (option_map_or (λ (k : Hit). Some (claim_at p k)) h None) None ≡ slice_get (cond t (map (claim_at p) hs) []) 0
first_where t p h hs e = grind (arith, first_map)

pub first_of_claims : (fs : List BoardFunction) (space : Space) (a : ℕ) → first_claim fs space a ≡ slice_get (claims fs space a) 0
first_of_claims fs space a =
    first_some_flat (claim_of fs space a) (claims_of fs space a)
    (λ f. first_where (is_forwarded fs f.path space a) f.path (endpoint_hit f space a) (endpoint_hits f space a) (first_hit space a f.path f.decl f.file)) fs

pub first_by_routing : FirstByRouting
first_by_routing fs space a = first_of_claims fs space a ∙ ap (λ (cs : List Claim). slice_get cs 0) (claims_by_routing fs space a)

pub same_claims : SameClaims
same_claims fs gs e space a = grind (arith, claims_by_routing, first_of_claims)

-- ---- the same bytes

pub same_number : (w a : ℕ) (f g : File) → ((n : ℕ) → a ≤ n → n < a + w → (cell_at f (config n)).value ≡ (cell_at g (config n)).value) → number f (config a) w ≡ number g (config a) w
same_number zero a f g h = refl
same_number (suc w) a f g h = ap₂ (λ x y. x + 256 * y) (h a (omega arith) (omega arith)) (same_number w (a + 1) f g (λ n l u. h n (omega arith) (omega arith)))

-- one value in each routing register of a declaration
abbrev SameBytes : Decl → File → File → Type 0
SameBytes d f g = (n : ℕ) → IsTrue (is_routing_register d n) → (cell_at f (config n)).value ≡ (cell_at g (config n)).value

in_memory_windows : (d : Bridge) (n : ℕ) → 32 ≤ n → n < 52 → is_routing_register (bridge d) n ≡ true
in_memory_windows d n l u = grind (arith, nat_tests)

same_regions : (d : Endpoint) (f g : File) → SameBytes (endpoint d) f g → (rs : List Region) → Each IsLawfulRegion rs → map (base_address f) rs ≡ map (base_address g) rs
same_regions d f g h [] lawful = refl
same_regions d f g h (r ∷ rs) lawful = search (rules, same_regions d f g h rs, same_number)

module _ (d : Bridge) (f g : File) (h : SameBytes (bridge d) f g) where
  high : (a w : ℕ) → 32 ≤ a → a + w ≤ 52 → number f (config a) w ≡ number g (config a) w
  high a w l u = same_number w a f g (λ m k j. h m (in_memory_windows d m (omega arith) (omega arith)))

  same_io : (k : IoDecode) → io_window k f ≡ io_window k g
  same_io k = grind (arith, high, same_number)

  same_pref : (k : PrefDecode) → pref_window k f ≡ pref_window k g
  same_pref k = grind (arith, high)

same_ranges : (d : Decl) (f g : File) → IsLawfulDecl d → SameBytes d f g → ranges_of f d ≡ ranges_of g d
same_ranges (endpoint d) f g lawful h = ap regions (same_regions d f g h d.regions lawful.regions.each)
same_ranges (bridge d) f g lawful h = grind (arith, same_io, high, same_pref)

pub routing_of_cells : RoutingOfCells
routing_of_cells [] g lawful h = grind arith
routing_of_cells (f ∷ fs) [] lawful h = absurd h
routing_of_cells (f ∷ fs) (g ∷ gs) lawful h = search (rules, routing_of_cells fs gs, same_number, same_ranges, nat_tests)

same_after : (change : BoardFunction → BoardFunction) (fs : List BoardFunction) → Each (λ f. HasSameRouting f (change f)) fs → SameRouting fs (map change fs)
same_after change [] h = tt
same_after change (f ∷ fs) h = (h.0, same_after change fs h.1)

pub routing_of_change : RoutingOfChange
routing_of_change change fs lawful h = sym (routing_of_cells fs (map change fs) lawful (same_after change fs h))
