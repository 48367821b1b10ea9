-- What a table answers, where its claims are those of the board.
use Rattle.std.{proofs.{Common.{◌++◌, arith, ◌≡◌, ℕ, ◌+◌, ◌-◌, ◌≤◌, ◌<◌, Bool, true, false, cond, List, [], ◌∷◌, length, get_or, Option, Some, None, refl, sym, ap, ap₂, ◌∙◌, subst, leb, ltb}, lemmas.{List.map-append, Simd.map-map, Bool.leb-true, Option.{slice_get_within, slice_get-get_or, unwrap_or-slice_get}}}, specs.{Prelude.{map, find, slice_get}, Option.option_map}}
use Rattle.lists.{specs.Elements.{Each, first_of_two, first_some}, proofs.{EachLemmas.{each_parts, each_from_map}, Tests.left_true, FirstFound.{found_passes, each_found}}}
use Rattle.model_registers.specs.Decoding.{Space, io, memory}
use Rattle.model_board.specs.{Paths.Path, State.BoardFunction, Claims.{Claim, first_claim}}
use Rattle.bridge_forward.specs.Locating.{located_claim}
use Rattle.model_set_up.specs.PlacedRegions.{claim_in}
use Rattle.host_bridge.specs.HostState.{HostState}
use Rattle.claim_table.{specs.{declared.region_entry.RegionEntry.RegionEntry, Tables.{TableEntry, table_claim, IsOfFunction, FitsTable}, Entries.{lies_in, by_space, AreEntries, path_nth, table_entry, table_of}, Fitting.{paths, nth_path}}, proofs.Listing.region_of}

-- ---- the functions

path_there : (qs : List Path) (i : ℕ) → i < length qs → slice_get qs i ≡ Some (path_nth qs i)
path_there qs i h = slice_get-get_or qs i [] h ∙ ap Some (sym (unwrap_or-slice_get qs i []))

pub of_functions : (fs : List BoardFunction) (qs : List Path) (space : Space) (es : List RegionEntry) → paths fs ≡ qs → Each (λ (e : RegionEntry). e.function < length qs) es → Each (IsOfFunction fs) (map (table_entry qs space) es)
of_functions fs qs space [] is h = tt
of_functions fs qs space (e ∷ es) is h =
    (nth_path fs e.function ∙ ap (λ (xs : List Path). slice_get xs e.function) is ∙ path_there qs e.function h.0, of_functions fs qs space es is h.1)

-- ---- the entry that is found gives the claim

abbrev pub claim_for : List Path → ℕ → RegionEntry → Claim
claim_for qs n e = record { path = path_nth qs e.function; index = e.region; offset = n - e.first }

one_claim : (qs : List Path) (n : ℕ) (e : RegionEntry) (t : Bool) (c : Option Claim) (found : Option RegionEntry)
    → c ≡ option_map (claim_for qs n) found → first_of_two (cond t (Some (claim_for qs n e)) None) c ≡ option_map (claim_for qs n) (cond t (Some e) found)
one_claim qs n e true c found more = refl
one_claim qs n e false c found more = more

-- the claim of one list of its own space
own_claim : (qs : List Path) (space : Space) (n : ℕ) (es : List RegionEntry) → first_some (claim_in space n) (map (region_of qs space) es) ≡ option_map (claim_for qs n) (find (lies_in n) es)
own_claim qs space n [] = refl
own_claim qs io n (e ∷ es) = one_claim qs n e (lies_in n e) _ _ (own_claim qs io n es)
own_claim qs memory n (e ∷ es) = one_claim qs n e (lies_in n e) _ _ (own_claim qs memory n es)

other_claim_io : (qs : List Path) (n : ℕ) (es : List RegionEntry) → first_some (claim_in io n) (map (region_of qs memory) es) ≡ None
other_claim_io qs n [] = refl
other_claim_io qs n (e ∷ es) = other_claim_io qs n es

other_claim_memory : (qs : List Path) (n : ℕ) (es : List RegionEntry) → first_some (claim_in memory n) (map (region_of qs io) es) ≡ None
other_claim_memory qs n [] = refl
other_claim_memory qs n (e ∷ es) = other_claim_memory qs n es

first_some-append : {A B : Type 0} (f : A → Option B) (xs ys : List A) → first_some f (xs ++ ys) ≡ first_of_two (first_some f xs) (first_some f ys)
first_some-append f [] ys = refl
first_some-append {A} {B} f (x ∷ xs) ys = grind (arith, first_some-append f xs ys)

or_none : {B : Type 0} (o : Option B) → first_of_two o None ≡ o
or_none None = refl
or_none (Some y) = refl

module _ (qs : List Path) (ports mems : List RegionEntry) (n : ℕ) where
  split : (space : Space) → table_claim (table_of qs ports mems) space n ≡ first_of_two (first_some (claim_in space n) (map (region_of qs io) ports)) (first_some (claim_in space n) (map (region_of qs memory) mems))
  split space = grind (arith, map-append, map-map, first_some-append, region_of)

  pub claim_found : (space : Space) → table_claim (table_of qs ports mems) space n ≡ option_map (claim_for qs n) (find (lies_in n) (by_space space ports mems))
  claim_found io = split io ∙ ap₂ first_of_two (own_claim qs io n ports) (other_claim_io qs n mems) ∙ or_none (option_map (claim_for qs n) (find (lies_in n) ports))
  claim_found memory = split memory ∙ ap₂ first_of_two (other_claim_memory qs n ports) (own_claim qs memory n mems)

-- ---- what the table answers

pub known_in : (qs : List Path) (ports mems : List RegionEntry) → AreEntries qs ports × AreEntries qs mems → (space : Space) → Each (λ (e : RegionEntry). e.function < length qs) (by_space space ports mems)
known_in qs ports mems h io = h.0.known
known_in qs ports mems h memory = h.1.known

module _ (qs : List Path) (ports mems : List RegionEntry) (t : List TableEntry) (h : HostState) (is : table_of qs ports mems ≡ t) (fits : FitsTable t h) where
  abbrev hosted : List BoardFunction
  hosted = h.state.functions

  pub answer : (space : Space) (n : ℕ) → option_map (claim_for qs n) (find (lies_in n) (by_space space ports mems)) ≡ first_claim hosted space n
  answer space n = sym (claim_found qs ports mems n space) ∙ ap (λ (t : List TableEntry). table_claim t space n) is ∙ fits.claims space n

  of_all : Each (IsOfFunction hosted) (table_of qs ports mems)
  of_all = subst (Each (IsOfFunction hosted)) (sym is) fits.functions

  parts : Each (IsOfFunction hosted) (map (table_entry qs io) ports) × Each (IsOfFunction hosted) (map (table_entry qs memory) mems)
  parts = each_parts (IsOfFunction hosted) (map (table_entry qs io) ports) (map (table_entry qs memory) mems) of_all

  of_space : (space : Space) → Each (λ (e : RegionEntry). IsOfFunction hosted (table_entry qs space e)) (by_space space ports mems)
  of_space io = each_from_map (IsOfFunction hosted) (table_entry qs io) ports parts.0
  of_space memory = each_from_map (IsOfFunction hosted) (table_entry qs memory) mems parts.1

  module _ (space : Space) (n : ℕ) (e : RegionEntry) (found : find (lies_in n) (by_space space ports mems) ≡ Some e) where
    pub from : e.first ≤ n
    from = leb-true e.first n (left_true (leb e.first n) (ltb n (e.first + e.size)) (found_passes (lies_in n) (by_space space ports mems) e found))

    pub claimed : Some (claim_for qs n e) ≡ first_claim hosted space n
    claimed = sym (ap (option_map (claim_for qs n)) found) ∙ answer space n

    of_entry : option_map (λ (f : BoardFunction). f.path) (slice_get hosted e.function) ≡ Some (path_nth qs e.function)
    of_entry = each_found (λ (d : RegionEntry). IsOfFunction hosted (table_entry qs space d)) (lies_in n) (by_space space ports mems) e (of_space space) found

    pub claimed_bar_offset : (located_claim hosted (Some (record { index = e.function; region = e.region; offset = n - e.first })) ≡ first_claim hosted space n) × (e.function < length hosted)
    claimed_bar_offset = grind (arith, of_entry, claimed, slice_get_within)

pub none_claimed : (qs : List Path) (ports mems : List RegionEntry) (t : List TableEntry) (h : HostState) → table_of qs ports mems ≡ t → FitsTable t h → (space : Space) (n : ℕ) → find (lies_in n) (by_space space ports mems) ≡ None → None ≡ first_claim h.state.functions space n
none_claimed qs ports mems t h is fits space n none = sym (ap (option_map (claim_for qs n)) none) ∙ answer qs ports mems t h is fits space n

-- the path that is read by an index
pub path_at : (qs : List Path) (i : ℕ) (p d : Path) → i < length qs → p ≡ get_or qs i d → p ≡ path_nth qs i
path_at qs i p d h e = let same : Some (get_or qs i d) ≡ Some (path_nth qs i) = sym (slice_get-get_or qs i d h) ∙ path_there qs i h in e ∙ cc
