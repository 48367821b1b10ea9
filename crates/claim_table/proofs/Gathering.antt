-- The table of a board in order: its regions are the open ones, and its claims are those of the board.
use Rattle.std.{proofs.{Common.{◌≡◌, ℕ, Option, suc, ◌+◌, ◌≤◌, ◌<◌, Bool, true, false, cond, List, [], ◌∷◌, ◌++◌, length, Some, refl, sym, ap, ap₂, ◌∙◌, subst, arith}, lemmas.{List.{map-append, length-map, Elements.filter-append}, Simd.map-map, Option.slice_get-map}}, specs.Prelude.{map, filter, slice_get, option_map, unwrap_or}}
use Rattle.lists.{specs.Elements.Each, proofs.{EachLemmas.{each_append, each_map, each_of_map, each_filter}, Members.each_from}}
use Rattle.model_registers.{specs.{Registers.File, Declarations.{Kind, io_kind, mem32, mem64, least_size, Region, IsLawfulRegion}, EndpointTable.BaseAddress, Decoding.{Space, io, memory, space_of, same_space, opens_space, base_address, command_word}}, proofs.HitRegions.space_same}
use Rattle.model_board.specs.{Paths.Path, Board.{Decl, endpoint, bridge}, Lawful.{IsLawfulDecl, HasLawfulDecls}, State.{BoardFunction, row_at}, Routing.{Ranges, regions, windows, RoutingRow, row_of, routing}}
use Rattle.model_set_up.specs.PlacedRegions.{PlacedRegion}
use Rattle.model_findings.{specs.{OpenRegions.{region_now, open_of, open_regions}, Orderly.{IsStateOfBoard, IsOrderly, HasClaimsOfRegions}}, proofs.Claims.consistent_claims_are_unique}
use Rattle.host_bridge.specs.HostState.{HostState}
use Rattle.claim_table.{specs.{declared.region_entry.RegionEntry.RegionEntry, Tables.{table_claim, FitsTable, IsOfFunction}, Entries.{entry_for, of_space, open_at, open_entries, AreEntries, path_nth, table_entry, table_of}, Fitting.{paths, fits_by_routing}}, proofs.{Listing.{region_of, is_of, IsSortedOf, AreGathered, entries_are, claims_listed}, Answering.of_functions}}

pub paths_read : {A : Type 0} (path : A → Path) (rows : List A) (j : ℕ) (r : A) → slice_get rows j ≡ Some r → path_nth (map path rows) j ≡ path r
paths_read path rows j r e = ap (λ (o : Option Path). unwrap_or o []) (slice_get-map path rows j ∙ ap (option_map path) e)

-- ---- the entries of a function are its open regions

module _ (ps : List Path) (space : Space) (i : ℕ) (p : Path) (path : path_nth ps i ≡ p) (command : ℕ) where
  abbrev told : List BaseAddress → List PlacedRegion
  told bs = map (region_of ps space) (map (entry_for i) (of_space space bs))

  abbrev kept : List BaseAddress → List PlacedRegion
  kept bs = filter (is_of space) (filter (λ (q : PlacedRegion). opens_space command q.space) (map (region_now p) bs))

  entry_is : (b : BaseAddress) → same_space (space_of b.kind) space ≡ true → region_of ps space (entry_for i b) ≡ region_now p b
  entry_is b same = grind (arith, space_same)

  open_kept : ((k : Space) → same_space k space ≡ true → opens_space command k ≡ true) → (bs : List BaseAddress) → told bs ≡ kept bs
  open_kept opens [] = refl
  open_kept opens (b ∷ bs) = grind (arith, region_of, is_of, entry_is, open_kept opens bs)

  closed_kept : ((k : Space) → same_space k space ≡ true → opens_space command k ≡ false) → (bs : List BaseAddress) → [] ≡ kept bs
  closed_kept opens [] = refl
  closed_kept opens (b ∷ bs) = grind (arith, is_of, closed_kept opens bs)

  of_row : (rs : Ranges) → map (region_of ps space) (open_at space i (record { path = p; command = command; ranges = rs })) ≡ filter (is_of space) (open_of (record { path = p; command = command; ranges = rs }))
  of_row (windows wio wmem wpref) = refl
  of_row (regions bs) = by_test (opens_space command space) refl
    where
      by_test : (u : Bool) → opens_space command space ≡ u → map (region_of ps space) (map (entry_for i) (cond u (of_space space bs) [])) ≡ kept bs
      by_test true e = open_kept (λ k same. ap (opens_space command) (space_same k space same) ∙ e) bs
      by_test false e = closed_kept (λ k same. ap (opens_space command) (space_same k space same) ∙ e) bs

module _ (ps : List Path) (space : Space) where
  pub of_rows : (i : ℕ) (rows : List RoutingRow) → ((j : ℕ) (r : RoutingRow) → slice_get rows j ≡ Some r → path_nth ps (i + j) ≡ r.path)
      → map (region_of ps space) (open_entries space i rows) ≡ filter (is_of space) (open_regions rows)
  of_rows i [] at = refl
  of_rows i (r ∷ rows) at =
      let z : i ≡ i + 0 = omega arith in
      let here : path_nth ps i ≡ r.path = ap (path_nth ps) z ∙ at 0 r refl in
      map-append (region_of ps space) (open_at space i r) (open_entries space (i + 1) rows)
      ∙ ap₂ ◌++◌ (of_row ps space i r.path here r.command r.ranges) (of_rows (i + 1) rows (λ j s e. let y : i + 1 + j ≡ i + suc j = omega arith in ap (path_nth ps) y ∙ at (suc j) s e))
      ∙ sym (filter-append (is_of space) (open_of r) (open_regions rows))

known : (space : Space) (i : ℕ) (rows : List RoutingRow) (n : ℕ) → i + length rows ≤ n → Each (λ (e : RegionEntry). e.function < n) (open_entries space i rows)
known space i [] n h = tt
known space i (r ∷ rows) n h =
    each_append (λ (e : RegionEntry). e.function < n) (open_at space i r) (open_entries space (i + 1) rows)
    (each_of_map (λ (e : RegionEntry). e.function < n) (entry_for i) _ (each_from (λ b. i < n) _ (λ b _. omega (arith, h)))) (known space (i + 1) rows n (omega arith))

-- ---- each open region has a byte

pub some_bytes : (kind : Kind) (n : ℕ) → least_size kind ≤ n → 0 < n
some_bytes io_kind n h = omega (arith, h)
some_bytes (mem32 pref) n h = omega (arith, h)
some_bytes (mem64 pref) n h = omega (arith, h)

of_decl : (p : Path) (file : File) (d : Decl) → IsLawfulDecl d → Each (λ (q : PlacedRegion). 0 < q.size) (open_of (row_of (record { path = p; decl = d; file = file })))
of_decl p file (bridge d) lawful = tt
of_decl p file (endpoint d) lawful =
    each_filter (λ (q : PlacedRegion). 0 < q.size) (λ (q : PlacedRegion). opens_space (command_word file) q.space) (map (region_now p) (map (base_address file) d.regions))
    (each_of_map (λ (q : PlacedRegion). 0 < q.size) (region_now p) (map (base_address file) d.regions)
    (each_of_map (λ (b : BaseAddress). 0 < b.size) (base_address file) d.regions
    (each_map IsLawfulRegion (λ (r : Region). 0 < r.size) d.regions (λ r h. some_bytes r.kind r.size h.size_is_lawful.not_less) lawful.regions.each)))

sized : (fs : List BoardFunction) → HasLawfulDecls (map row_at fs) → Each (λ (q : PlacedRegion). 0 < q.size) (open_regions (routing fs))
sized [] h = tt
sized (f ∷ fs) h = each_append (λ (q : PlacedRegion). 0 < q.size) (open_of (row_of f)) (open_regions (routing fs)) (of_decl f.path f.file f.decl h.0) (sized fs h.1)

-- ---- a board in order

module _ (h : HostState) (board : IsStateOfBoard h.state.functions) (order : IsOrderly (routing h.state.functions)) where
  abbrev fs : List BoardFunction
  fs = h.state.functions

  abbrev ps : List Path
  ps = map (λ (r : RoutingRow). r.path) (routing fs)

  claims : HasClaimsOfRegions fs
  claims = consistent_claims_are_unique fs board order

  abbrev all_of : Space → List RegionEntry
  all_of space = open_entries space 0 (routing fs)

  gathered : AreGathered ps (open_regions (routing fs)) all_of
  gathered = grind (arith, of_rows, paths_read, claims, sized, known, length-map)

  module _ (qs : List Path) (rows : List RoutingRow) (rows_are : rows ≡ routing fs) (paths_are : qs ≡ map (λ (r : RoutingRow). r.path) rows) where
    own_paths : qs ≡ ps
    own_paths = paths_are ∙ ap (map (λ (r : RoutingRow). r.path)) rows_are

    sorted_of : (space : Space) (es : List RegionEntry) → IsSortedOf (open_entries space 0 rows) es → IsSortedOf (all_of space) es
    sorted_of space es s = subst (λ (rs : List RoutingRow). IsSortedOf (open_entries space 0 rs) es) rows_are s

    pub open_are : (space : Space) (es : List RegionEntry) → IsSortedOf (open_entries space 0 rows) es → AreEntries qs es
    open_are space es s = subst (λ (xs : List Path). AreEntries xs es) (sym own_paths) (entries_are ps (open_regions (routing fs)) all_of gathered space es (sorted_of space es s))

    module _ (ports mems : List RegionEntry) (hp : IsSortedOf (open_entries io 0 rows) ports) (hm : IsSortedOf (open_entries memory 0 rows) mems) where
      host_paths : paths fs ≡ qs
      host_paths = sym (own_paths ∙ map-map (λ (r : RoutingRow). r.path) row_of fs)

      fits_own : FitsTable (table_of qs ports mems) h
      fits_own = record {
        claims = λ space n.
            ap (λ (xs : List Path). table_claim (table_of xs ports mems) space n) own_paths
            ∙ claims_listed ps (open_regions (routing fs)) all_of gathered ports mems (sorted_of io ports hp) (sorted_of memory mems hm) space n
            ∙ sym (claims.first space n);
        functions =
            each_append (IsOfFunction fs) (map (table_entry qs io) ports) (map (table_entry qs memory) mems)
            (of_functions fs qs io ports host_paths (open_are io ports hp).known) (of_functions fs qs memory mems host_paths (open_are memory mems hm).known);
      }

      pub fits_open : (k : HostState) → routing k.state.functions ≡ routing fs → FitsTable (table_of qs ports mems) k
      fits_open k same = fits_by_routing (table_of qs ports mems) h k (sym same) fits_own
