-- What sizing finds of the function that a number of a numbered board reaches.
use Rattle.std.{proofs.Common.{◌≡◌, ℕ, ◌+◌, ◌*◌, ◌<◌, List, [], Option, Some, sym, ap, ◌∙◌, subst, arith, true, map}, specs.{Prelude.{bit_and, IsTrue}, Option.option_map_or}}
use Rattle.model_registers.specs.{Registers.config, ByteEnables.lanes, Declarations.{Bridge, HasLawfulRegions, IoDecode, no_io, io16, io32, PrefDecode, no_pref, pref32, pref64, Bar, Endpoint}, DeclarationRules.IsLawfulEndpoint, EndpointTable.endpoint_reset, BridgeTable.bridge_file, OwnCopies.bare}
use Rattle.model_board.{specs.{Board.{Decl, endpoint, bridge, is_bridge, has_multifunction_bit, Board, Row, stands_at}, State.{BoardFunction, State, row_at}, Cycles.{BusAddress, reached}, Lawful.IsLawfulDecl, AtReset.board_at, Paths.{Path, path_eq, last_part}}, proofs.PathEnds.path_self}
use Rattle.model_set_up.{specs.{Scanning.{board_numbers, with_numbers, IsNumbered}, Reach.address_of, FunctionTable.{TableRow, table_row, met_decl, found_decl}}, proofs.Routes.bdf_reaches_its_function_only}
use Rattle.bus_scan.{specs.{Probes.{mask_shown, TakesBack, decl_reached, IsEndpointReached, IsBridgeReached, regions_in, io_in, pref_in, regions_reached, io_reached, pref_reached}, declared.table.Enumerated.{Enumerated, TheVariants.{Endpoint as FoundEndpoint, Bridge as FoundBridge}}, Rows.{regions_of, decl_of, range_of}, SizedRows.{IsScannedRow, bars_of}}, proofs.{ProbedFiles.{Probed, io_mask, pref_mask, probed_io, probed_pref}, ProbedEndpoints.{mask_at, probed_endpoint}, NumberedStates.{holds, each_reached, each_unmapped, has_numbers, in_itself, only_there}, ReachedFiles.{shows, takes_back}, SizedBars.regions_of_bars}}
use Rattle.lists.{specs.Elements.IsIn, proofs.Members.{each_in, from_map, any_in}}
use Rattle.headers.specs.{Decodes.{io_decode_of, pref_decode_of}, declared.decodes.{IoDecode.IoDecode as ShownIo, PrefDecode.PrefDecode as ShownPref}}

pub reached_decl : (fs : List BoardFunction) (at : BusAddress) (d : Decl) → decl_reached fs at ≡ Some d → (f : BoardFunction) × (reached fs at ≡ Some f) × (f.decl ≡ d)
reached_decl fs at d h = grind arith

module _ (s : State) (h : IsNumbered s) (at : BusAddress) where
  -- ---- bridges

  module _ (is : IsBridgeReached s.functions at) where
    d : Bridge
    d = is.0

    there : (f : BoardFunction) × (reached s.functions at ≡ Some f) × (f.decl ≡ bridge is.0)
    there = reached_decl s.functions at (bridge is.0) is.1

    file : there.0.file ≡ bridge_file is.0 (has_multifunction_bit (board_at s.functions) there.0.path) (with_numbers (board_numbers (board_at s.functions) there.0.path))
    file = grind (arith, each_reached, there, holds)

    io_probed : Probed (lanes 0b0011) (config 0x1c) there.0.file (io_mask is.0.io)
    io_probed = subst (λ x. Probed (lanes 0b0011) (config 0x1c) x (io_mask is.0.io)) (sym file) (probed_io is.0 (has_multifunction_bit (board_at s.functions) there.0.path) (board_numbers (board_at s.functions) there.0.path))

    pref_probed : Probed (lanes 0b1111) (config 0x24) there.0.file (pref_mask is.0.pref)
    pref_probed = subst (λ x. Probed (lanes 0b1111) (config 0x24) x (pref_mask is.0.pref)) (sym file) (probed_pref is.0 (has_multifunction_bit (board_at s.functions) there.0.path) (board_numbers (board_at s.functions) there.0.path))

    pub io_taken : TakesBack s at 0x1c (lanes 0b0011)
    io_taken = takes_back s h at there.0 there.1 (lanes 0b0011) 0x1c (λ _. omega arith) (io_mask is.0.io) io_probed

    pub io_shown : mask_shown s.functions at 0x1c (lanes 0b0011) ≡ io_mask (io_reached s.functions at)
    io_shown = shows s h at there.0 there.1 (lanes 0b0011) 0x1c (λ _. omega arith) (io_mask is.0.io) io_probed ∙ ap (λ o. io_mask (option_map_or io_in o no_io)) (sym is.1)

    pub pref_taken : TakesBack s at 0x24 (lanes 0b1111)
    pref_taken = takes_back s h at there.0 there.1 (lanes 0b1111) 0x24 (λ _. omega arith) (pref_mask is.0.pref) pref_probed

    pub pref_shown : mask_shown s.functions at 0x24 (lanes 0b1111) ≡ pref_mask (pref_reached s.functions at)
    pref_shown = shows s h at there.0 there.1 (lanes 0b1111) 0x24 (λ _. omega arith) (pref_mask is.0.pref) pref_probed ∙ ap (λ o. pref_mask (option_map_or pref_in o no_pref)) (sym is.1)

  -- ---- endpoints

  module _ (is : IsEndpointReached s.functions at) where
    stands : (f : BoardFunction) × (reached s.functions at ≡ Some f) × (f.decl ≡ endpoint is.0)
    stands = reached_decl s.functions at (endpoint is.0) is.1

    cells : stands.0.file ≡ endpoint_reset is.0 (has_multifunction_bit (board_at s.functions) stands.0.path)
    cells = grind (arith, each_reached, holds)

    lawful : IsLawfulEndpoint is.0
    lawful = subst IsLawfulDecl stands.2 (each_reached (λ f. IsLawfulDecl f.decl) s.functions at stands.0 (each_unmapped (λ r. IsLawfulDecl r.decl) s.functions h.declarations) stands.1)

    no_bridge : IsTrue (is_bridge stands.0.decl) → ⊥
    no_bridge k = let e : is_bridge stands.0.decl ≡ is_bridge (endpoint is.0) = ap is_bridge stands.2 in cc

    regions : regions_reached s.functions at ≡ is.0.regions
    regions = ap (λ o. option_map_or regions_in o []) is.1

    module _ (n : ℕ) (below : n < 6) where
      probed : Probed (lanes 0b1111) (config (0x10 + 4 * n)) stands.0.file (mask_at n is.0.regions)
      probed = subst (λ x. Probed (lanes 0b1111) (config (0x10 + 4 * n)) x (mask_at n is.0.regions)) (sym cells) (probed_endpoint n is.0 (has_multifunction_bit (board_at s.functions) stands.0.path) below lawful)

      pub bar_taken : TakesBack s at (0x10 + 4 * n) (lanes 0b1111)
      bar_taken = takes_back s h at stands.0 stands.1 (lanes 0b1111) (0x10 + 4 * n) (λ k. absurd (no_bridge k)) (mask_at n is.0.regions) probed

      pub bar_shown : mask_shown s.functions at (0x10 + 4 * n) (lanes 0b1111) ≡ mask_at n (regions_reached s.functions at)
      bar_shown = shows s h at stands.0 stands.1 (lanes 0b1111) (0x10 + 4 * n) (λ k. absurd (no_bridge k)) (mask_at n is.0.regions) probed ∙ ap (mask_at n) (sym regions)

    pub lawful_regions : HasLawfulRegions (regions_reached s.functions at)
    lawful_regions = subst HasLawfulRegions (sym regions) lawful.regions

-- ---- the decode that a mask tells

pub io_told : (io : IoDecode) (mask : ℕ) → mask ≡ io_mask io
    → (mask ≡ 0 → no_io ≡ io) × ((mask ≡ 0 → ⊥) → bit_and mask 15 ≡ 0 → io16 ≡ io) × ((mask ≡ 0 → ⊥) → (bit_and mask 15 ≡ 0 → ⊥) → io32 ≡ io)
io_told io mask e = grind arith

pub pref_told : (pref : PrefDecode) (mask : ℕ) → mask ≡ pref_mask pref
    → (mask ≡ 0 → no_pref ≡ pref) × ((mask ≡ 0 → ⊥) → bit_and mask 15 ≡ 0 → pref32 ≡ pref) × ((mask ≡ 0 → ⊥) → (bit_and mask 15 ≡ 0 → ⊥) → pref64 ≡ pref)
pref_told pref mask e = grind arith

-- ---- rows of the table: the function that a row's number reaches, and a row before and after sizing

-- ---- the function of a row

module _ (s : State) (h : IsNumbered s) where
  row_reached : (r : Row) → IsIn r (board_at s.functions) → decl_reached s.functions (address_of (board_at s.functions) r.path) ≡ Some r.decl
  row_reached r m =
      let f = from_map row_at r s.functions m in
      let stands : stands_at (board_at s.functions) r.path ≡ true = any_in (λ (q : Row). path_eq q.path r.path) r (board_at s.functions) m (path_self r.path) in
      let g = bdf_reaches_its_function_only (board_at s.functions) h.board s.functions (has_numbers s h) r.path stands in
      let inside : IsIn g.0 s.functions = each_reached (λ x. IsIn x s.functions) s.functions (address_of (board_at s.functions) r.path) g.0 (in_itself s.functions) g.1 in
      grind (arith, each_in, only_there, path_self)

  pub found_reached : (at : BusAddress) (row : TableRow) → at ≡ record { bus = row.bus; part = last_part row.path } → (r : Row) → IsIn r (board_at s.functions) → row ≡ table_row (board_at s.functions) met_decl r
      → decl_reached s.functions at ≡ Some r.decl
  found_reached at row number r m e = ap (decl_reached s.functions) (number ∙ ap (λ (t : TableRow). record { bus = t.bus; part = last_part t.path }) e) ∙ row_reached r m

  met_as_endpoint : (d : Decl) (e : Endpoint) → endpoint e ≡ met_decl d → (x : Endpoint) × (d ≡ endpoint x)
  met_as_endpoint d e h = grind arith

  met_as_bridge : (d : Decl) (e : Bridge) → bridge e ≡ met_decl d → (x : Bridge) × (d ≡ bridge x)
  met_as_bridge d e h = grind arith

  pub endpoint_reached : (at : BusAddress) (row : TableRow) → at ≡ record { bus = row.bus; part = last_part row.path } → IsScannedRow (board_at s.functions) row → (e : Endpoint) → row.decl ≡ endpoint e → IsEndpointReached s.functions at
  endpoint_reached at row number is e decl = grind (arith, met_as_endpoint, found_reached)

  pub bridge_reached : (at : BusAddress) (row : TableRow) → at ≡ record { bus = row.bus; part = last_part row.path } → IsScannedRow (board_at s.functions) row → (e : Bridge) → row.decl ≡ bridge e → IsBridgeReached s.functions at
  bridge_reached at row number is e decl = grind (arith, met_as_bridge, found_reached)

-- ---- a row before and after

abbrev pub row_of : Path → ℕ → ℕ → ℕ → Enumerated → TableRow
row_of path bus vendor device found = record { path = path; bus = bus; behind = range_of found; decl = decl_of vendor device found }

row_at_path : Path → Decl → Row
row_at_path p d = record { path = p; decl = d }

sized_endpoint_at : (b : Board) (path : Path) (bus vendor device pin : ℕ) (old bars : List (Option Bar)) (p : Path) (d : Decl)
    → row_of path bus vendor device (FoundEndpoint pin old) ≡ table_row b met_decl (row_at_path p d) → regions_of bars ≡ map bare (regions_in d)
    → row_of path bus vendor device (FoundEndpoint pin bars) ≡ table_row b found_decl (row_at_path p d)
unfolding row_at_path
sized_endpoint_at b path bus vendor device pin old bars p d e h = grind arith

sized_bridge_at : (b : Board) (path : Path) (bus vendor device secondary subordinate : ℕ) (io jo : ShownIo) (pref qref : ShownPref) (p : Path) (d : Decl)
    → row_of path bus vendor device (FoundBridge secondary subordinate io pref) ≡ table_row b met_decl (row_at_path p d) → io_decode_of jo ≡ io_in d → pref_decode_of qref ≡ pref_in d
    → row_of path bus vendor device (FoundBridge secondary subordinate jo qref) ≡ table_row b found_decl (row_at_path p d)
unfolding row_at_path
sized_bridge_at b path bus vendor device secondary subordinate io jo pref qref p d e ios prefs = grind arith

module _ (s : State) (h : IsNumbered s) (at : BusAddress) (row : TableRow) (number : at ≡ record { bus = row.bus; part = last_part row.path }) (r : Row) (m : IsIn r (board_at s.functions)) (met : row ≡ table_row (board_at s.functions) met_decl r) where
  pub sized_endpoint : IsEndpointReached s.functions at → (path : Path) (bus vendor device pin : ℕ) (old bars : List (Option Bar)) → row_of path bus vendor device (FoundEndpoint pin old) ≡ row
      → bars ≡ bars_of (regions_reached s.functions at) → row_of path bus vendor device (FoundEndpoint pin bars) ≡ table_row (board_at s.functions) found_decl r
  unfolding row_at_path
  sized_endpoint is path bus vendor device pin old bars view told =
      sized_endpoint_at (board_at s.functions) path bus vendor device pin old bars r.path r.decl (view ∙ met)
      (ap regions_of told ∙ regions_of_bars (regions_reached s.functions at) (lawful_regions s h at is)
      ∙ ap (λ o. map bare (option_map_or regions_in o [])) (found_reached s h at row number r m met))

  pub sized_bridge : (path : Path) (bus vendor device secondary subordinate : ℕ) (io jo : ShownIo) (pref qref : ShownPref) → row_of path bus vendor device (FoundBridge secondary subordinate io pref) ≡ row
      → io_decode_of jo ≡ io_reached s.functions at → pref_decode_of qref ≡ pref_reached s.functions at
      → row_of path bus vendor device (FoundBridge secondary subordinate jo qref) ≡ table_row (board_at s.functions) found_decl r
  unfolding row_at_path
  sized_bridge path bus vendor device secondary subordinate io jo pref qref view ios prefs = grind (arith, sized_bridge_at, found_reached)
