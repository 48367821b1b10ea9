-- One endpoint that is reset alone: its cells, part by part.
use Rattle.std.{proofs.{Common.{◌≡◌, ℕ, zero, suc, ◌+◌, ◌*◌, ◌-◌, ◌/◌, ◌^◌, ◌<◌, ◌≤◌, ◌⊎◌, inl, inr, Bool, false, ◌||◌, cond, Some, List, [], ◌∷◌, ◌++◌, map, length, refl, ap, ap₂, sym, ◌∙◌, arith, rules}, lemmas.{Bool.{Decides.nat_tests, ne_eqb, eq-eqb, eqb-true, cases_lt}, List.length-map, Option.slice_get-map}}, specs.{Prelude.Option, List.slice_get, Option.option_map_or}}
use Rattle.lists.specs.Elements.{Each}
use Rattle.model_registers.{proofs.Owned.base_is_own, specs.{Cell.Cell, Registers.{Place, config, block, offset_of, place_eq, PlacedCell, File, cell_at, field, cells_from, in_region}, FileLaws.{has_place, IsConfig, IsConfigFile}, Declarations.{Region, registers_of, IsLawfulRegion, Endpoint}, EndpointTable.{type_bits, base_width, BaseAddress, opened, closed, config_reset, endpoint_reset}, OwnCopies.is_own, CopiedFiles.after_reset}}
use Rattle.config_bytes.specs.CellFile.{CellFile, reset_entry, reset_outside, places_of}
use Rattle.bridge_forward.{specs.EndpointParts.{block_at, block_at_reset, region_parts, AreParts, region_at, declared_block, IsHeaderKept, KnowReset, blocks_after}, proofs.{EndpointAccess.{cell_of_block, cell_of_config, lawful_bars, no_block}, EndpointReset.{parts_new, file_new}}}

-- an entry of an endpoint after the reset
abbrev entry_after : Endpoint → PlacedCell → PlacedCell
entry_after d e = cond (is_own e.place) e (record e { cell = cell_at (endpoint_reset d false) e.place })

after_joined : (d : Endpoint) (xs ys : File) → after_reset d (xs ++ ys) ≡ after_reset d xs ++ after_reset d ys
after_joined d [] ys = refl
after_joined d (x ∷ xs) ys = ap (λ (es : File). entry_after d x ∷ es) (after_joined d xs ys)

-- ---- base address registers stay

base_stays : (d : Endpoint) (w a v m c : ℕ) → 0x10 ≤ a → a + w ≤ 0x28 → after_reset d (field (config a) w v m c) ≡ field (config a) w v m c
base_stays d zero a v m c low high = refl
base_stays d (suc w) a v m c low high = search (rules, base_is_own, base_stays d w (a + 1) (v / 256) (m / 256) (c / 256) (omega arith) (omega arith))

-- ---- blocks

cell_from : (a k : ℕ) (cs : List Cell) (c : Cell) → slice_get cs k ≡ Some c → cell_at (cells_from (config a) cs) (config (a + k)) ≡ c
cell_from a k [] c e = absurd (cc)
cell_from a zero (x ∷ xs) c e = search (rules, eq-eqb)
cell_from a (suc k) (x ∷ xs) c e = search (rules, ne_eqb, cell_from (a + 1) k xs c e)

-- the cells of a block go back to those at reset, which stand one after the other
refilled : (d : Endpoint) (a : ℕ) (cs : List Cell) (n : ℕ) (xs : File) → places_of xs ≡ places_of (cells_from (config a) cs)
    → ((k : ℕ) (c : Cell) → slice_get cs k ≡ Some c → cell_at (endpoint_reset d false) (block n (a + k)) ≡ c)
    → after_reset d (in_region n xs) ≡ in_region n (cells_from (config a) cs)
refilled d a [] n [] e h = refl
refilled d a [] n (x ∷ xs) e h = absurd (cc)
refilled d a (c ∷ cs) n [] e h = absurd (cc)
refilled d a (c ∷ cs) n (x ∷ xs) e h =
    let here : x.place ≡ config a = cc in
    let rest : places_of xs ≡ places_of (cells_from (config (a + 1)) cs) = cc in
    let at : a + 0 ≡ a = omega arith in
    let first : cell_at (endpoint_reset d false) (block n a) ≡ c = ap (λ k. cell_at (endpoint_reset d false) (block n k)) (sym at) ∙ h 0 c refl in
    let there : (k : ℕ) → a + 1 + k ≡ a + suc k = λ k. omega arith in
    ap₂ (λ (y : PlacedCell) (ys : File). y ∷ ys)
    (ap (λ p. record { place = block n (offset_of p); cell = cell_at (endpoint_reset d false) (block n (offset_of p)) }) here ∙ ap (λ y. record { place = block n a; cell = y }) first)
    (refilled d (a + 1) cs n xs rest (λ k y g. ap (λ j. cell_at (endpoint_reset d false) (block n j)) (there k) ∙ h (suc k) y g))

after_at : (blocks : List CellFile) (n : ℕ) → block_at (blocks_after blocks) n ≡ block_at_reset blocks n
after_at blocks n = grind (arith, slice_get-map)

again_at : (blocks : List CellFile) (n : ℕ) → block_at_reset (blocks_after blocks) n ≡ block_at_reset blocks n
again_at blocks n = grind (arith, slice_get-map)

-- ---- configuration cells

no_entries : (xs : File) → places_of xs ≡ [] → xs ≡ []
no_entries [] h = refl
no_entries (x ∷ xs) h = absurd (cc)

module _ (d : Endpoint) (cells : CellFile) (bars : List BaseAddress) (blocks : List CellFile) (parts : AreParts d cells.now bars (block_at blocks)) (know : KnowReset d cells blocks) where
  abbrev later : List CellFile
  later = blocks_after blocks

  filled : (n : ℕ) → n < 6 → block_at later n ≡ declared_block d.regions n
  filled n l = after_at blocks n ∙ know.block_cells n l

  six : length later ≡ 6
  six = length-map blocks (λ (f : CellFile). record f { now = f.initial }) ∙ know.six

  whole : config_reset d false ++ region_parts (map closed d.regions) (block_at later) ≡ endpoint_reset d false
  whole = file_new d know.lawful later six filled false (config_reset d false) (map closed d.regions) refl refl

  at_reset : AreParts d (config_reset d false) (map closed d.regions) (block_at later)
  at_reset = parts_new d know.lawful later six filled false (config_reset d false) (map closed d.regions) refl refl

  at_block : (n q : ℕ) → cell_at (endpoint_reset d false) (block n q) ≡ cell_at (block_at later n) (config q)
  at_block n q = ap (λ (xs : File). cell_at xs (block n q)) (sym whole) ∙ cell_of_block d (config_reset d false) (map closed d.regions) (block_at later) at_reset n q

  at_config : (q : ℕ) → (q < 0x10) ⊎ (0x28 ≤ q) → cell_at (endpoint_reset d false) (config q) ≡ cell_at (config_reset d false) (config q)
  at_config q away = ap (λ (xs : File). cell_at xs (config q)) (sym whole) ∙ cell_of_config d (config_reset d false) (map closed d.regions) (block_at later) at_reset q away

  -- ---- blocks

  abbrev cells_declared : Option Region → List Cell
  cells_declared o = option_map_or (λ (r : Region). r.cells) o []

  block_back : (n : ℕ) → after_reset d (in_region n (block_at blocks n)) ≡ in_region n (block_at later n)
  block_back n = by_size (cases_lt n 6)
    where
      declared : n < 6 → block_at later n ≡ cells_from (config 0) (cells_declared (region_at d.regions n))
      declared l = grind (arith, filled n l)

      by_size : (n < 6) ⊎ (6 ≤ n) → after_reset d (in_region n (block_at blocks n)) ≡ in_region n (block_at later n)
      by_size (inl l) =
          refilled d 0 (cells_declared (region_at d.regions n)) n (block_at blocks n) (know.block_places n ∙ ap places_of (sym (after_at blocks n) ∙ declared l))
          (λ k c e. at_block n (0 + k) ∙ ap (λ (xs : File). cell_at xs (config (0 + k))) (declared l) ∙ cell_from 0 k (cells_declared (region_at d.regions n)) c e)
          ∙ ap (in_region n) (sym (declared l))
      by_size (inr l) = grind (arith, no_block blocks n, no_block later n, know.six, six)

  bases_back : (bs : List BaseAddress) → Each IsLawfulRegion (map opened bs) → after_reset d (region_parts bs (block_at blocks)) ≡ region_parts bs (block_at later)
  bases_back [] l = refl
  bases_back (b ∷ bs) l =
      let within = l.0.registers in
      let stays = base_stays d (4 * registers_of b.kind) (0x10 + 4 * b.index) (b.base + type_bits b.kind) (2 ^ base_width b.kind - b.size) 0 (omega arith) (omega (arith, within)) in
      simp (after_joined, stays, block_back, bases_back bs l.1)

  -- ---- configuration cells

  entry_back : (p : Place) (c : Cell) → IsConfig p → ((q : ℕ) → (0x10 ≤ q) × (q < 0x28) → place_eq p (config q) ≡ false) → IsHeaderKept cells.initial (record { place = p; cell = c })
      → reset_entry 4 5 cells.initial (record { place = p; cell = c }) ≡ entry_after d (record { place = p; cell = c })
  entry_back (block n q) c h none header = absurd (h)
  entry_back (config q) c h none header = grind (arith, nat_tests, know.declared (config q), at_config q, header, none q)

  config_back : (xs : File) → IsConfigFile xs → ((q : ℕ) → (0x10 ≤ q) × (q < 0x28) → has_place xs (config q) ≡ false) → Each (IsHeaderKept cells.initial) xs
      → reset_outside 4 5 cells.initial xs ≡ after_reset d xs
  config_back [] h none header = refl
  config_back (x ∷ xs) h none header =
      ap₂ (λ (y : PlacedCell) (ys : File). y ∷ ys)
      (entry_back x.place x.cell h.0 (λ q l. let n = none q l in grind arith) header.0)
      (config_back xs h.1 (λ q l. let n = none q l in grind arith) header.1)

  -- the file of an endpoint that was reset
  pub file_back : (xs : File) → xs ≡ reset_outside 4 5 cells.initial cells.now → (bs : List CellFile) → bs ≡ blocks_after blocks
      → xs ++ region_parts bars (block_at bs) ≡ after_reset d (cells.now ++ region_parts bars (block_at blocks))
  file_back xs is bs are =
      ap₂ (λ (ys : File) (fs : List CellFile). ys ++ region_parts bars (block_at fs)) is are
      ∙ ap₂ (λ (ys zs : File). ys ++ zs)
      (config_back cells.now parts.config_places (λ q l. parts.config_within q (inl l)) know.header)
      (sym (bases_back bars (lawful_bars d cells.now bars (block_at blocks) parts).each))
      ∙ sym (after_joined d cells.now (region_parts bars (block_at blocks)))

  -- ---- what its parts keep

  place_stays : (e : PlacedCell) → (reset_entry 4 5 cells.initial e).place ≡ e.place
  place_stays e = search rules

  same_places : (xs : File) (p : Place) → has_place (reset_outside 4 5 cells.initial xs) p ≡ has_place xs p
  same_places [] p = refl
  same_places (x ∷ xs) p = ap₂ (λ (q : Place) (t : Bool). place_eq q p || t) (place_stays x) (same_places xs p)

  pub parts_back : (xs : File) → IsConfigFile xs → xs ≡ reset_outside 4 5 cells.initial cells.now → (bs : List CellFile) → bs ≡ blocks_after blocks → AreParts d xs bars (block_at bs)
  parts_back xs places is bs are = grind (arith, same_places, at_reset, no_entries, after_at)

  header_stays : (p : Place) (c : Cell) → IsHeaderKept cells.initial (record { place = p; cell = c }) → IsHeaderKept cells.initial (reset_entry 4 5 cells.initial (record { place = p; cell = c }))
  header_stays (block n q) c h = λ e. absurd (cc)
  header_stays (config q) c h = search (rules, eqb-true)

  headers_stay : (xs : File) → Each (IsHeaderKept cells.initial) xs → Each (IsHeaderKept cells.initial) (reset_outside 4 5 cells.initial xs)
  headers_stay [] h = tt
  headers_stay (x ∷ xs) h = (header_stays x.place x.cell h.0, headers_stay xs h.1)

  pub know_back : (f : CellFile) → f ≡ record cells { now = reset_outside 4 5 cells.initial cells.now } → (bs : List CellFile) → bs ≡ blocks_after blocks → KnowReset d f bs
  know_back f is bs are = search (rules, headers_stay, six, again_at, after_at)
