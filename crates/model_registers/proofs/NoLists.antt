-- Without a capability list, bit 4 of Status and the Capabilities Pointer always read 0.
use Rattle.std.{proofs.{Common.{◌≡◌, ℕ, ◌+◌, ◌*◌, ◌%◌, ◌≤◌, inl, inr, Bool, true, false, true≢false, cond, List, [], ◌∷◌, ◌++◌, length, refl, sym, ap, ◌∙◌, arith, append_assoc}, lemmas.{Bool.{or_parts}, Nat.{and_mod, and_or_self}}}, specs.{Prelude.{bit_and, bit_or, flat_map}, List.list_any}}
use Rattle.lists.specs.Elements.{Each}
use Rattle.model_registers.{specs.{Cell.{no_cell}, Registers.{config, block, File, cell_at, cells_from}, Declarations.{ConfigBlock, IsLawfulRegion, Region, registers_of, Endpoint}, DeclarationRules.{is_capabilities_pointer, IsInPlace, IsConfigBlock, IsLawfulEndpoint}, EndpointTable.{base_cells, block_cells, header_cells, region_cells, endpoint_file}, Capabilities.{Change, after_changes, ShowsNoList}}, proofs.{Capabilities.{changes_still, held_byte}, LawfulDeclarations.pointer_test, Owned.{cells_above, cells_elsewhere}, Parts.cell_outside}}

high : (b : ConfigBlock) → is_capabilities_pointer b ≡ false → IsConfigBlock b → 0x40 ≤ b.offset
high b none h = of_place h.in_place
  where
    of_place : IsInPlace b.offset (length b.cells) → 0x40 ≤ b.offset
    of_place (inl low) = low
    of_place (inr is) = absurd (true≢false (sym (pointer_test b is.0 is.1 (h.read_only is.0)) ∙ none))

all_high : (bs : List ConfigBlock) → list_any is_capabilities_pointer bs ≡ false → Each IsConfigBlock bs → Each (λ b. 0x40 ≤ b.offset) bs
all_high [] none h = tt
all_high (b ∷ bs) none h = let (here, more) = or_parts (is_capabilities_pointer b) (list_any is_capabilities_pointer bs) none in (high b here h.0, all_high bs more h.1)

past_blocks : (bs : List ConfigBlock) → Each (λ b. 0x40 ≤ b.offset) bs → (rest : File) → cell_at (flat_map block_cells bs ++ rest) (config 0x34) ≡ cell_at rest (config 0x34)
past_blocks [] h rest = refl
past_blocks (b ∷ bs) h rest = grind (arith, append_assoc, cells_above, past_blocks bs h.1 rest)

past_regions : (bases : Region → ℕ) (rs : List Region) → Each IsLawfulRegion rs → cell_at (flat_map (region_cells bases) rs) (config 0x34) ≡ no_cell
past_regions bases [] h = refl
past_regions bases (r ∷ rs) h =
    let fits = h.0.registers in
    let rest : File = flat_map (region_cells bases) rs in
    ap (λ f. cell_at f (config 0x34)) (append_assoc (base_cells r.index r.kind r.size (bases r)) (cells_from (block r.index 0) r.cells) rest)
    ∙ cell_outside (4 * registers_of r.kind) (0x10 + 4 * r.index) 0x34 _ _ 0 (cells_from (block r.index 0) r.cells ++ rest) (inr (omega (arith, fits)))
    ∙ cells_elsewhere r.cells r.index 0 0x34 rest
    ∙ past_regions bases rs h.1

-- a Status without bit 4
bit_clear : (t : Bool) (x s : ℕ) → bit_or x (cond t 0x10 0) ≡ s → bit_and s 0x10 ≡ 0 → t ≡ false
bit_clear false x s is clear = refl
bit_clear true x s is clear =
    let same : 0x10 ≡ 0 = sym (and_or_self 0x10 x) ∙ ap (λ n. bit_and n 0x10) is ∙ clear in absurd (omega (arith, same))

module _ (d : Endpoint) (lawful : IsLawfulEndpoint d) (clear : bit_and d.status 0x10 ≡ 0) (multifunction : Bool) (command : ℕ) (bases : Region → ℕ) where
  abbrev first : File
  first = endpoint_file d multifunction command bases

  no_pointer : cell_at first (config 0x34) ≡ no_cell
  no_pointer =
      let regions : File = flat_map (region_cells bases) d.regions in
      let blocks : File = flat_map block_cells d.blocks in
      ap (λ f. cell_at f (config 0x34)) (append_assoc (header_cells d multifunction command) blocks regions)
      ∙ past_blocks d.blocks (all_high d.blocks (bit_clear (list_any is_capabilities_pointer d.blocks) (bit_and d.status 0xffe0) d.status lawful.status clear) lawful.config_blocks) regions
      ∙ past_regions bases d.regions lawful.regions.each

  pub no_list_stays : (changes : List Change) → ShowsNoList (after_changes first changes)
  no_list_stays changes =
      let status = changes_still changes (d.status % 256) (omega arith) (config 6) first refl in
      let pointer = changes_still changes 0 (omega arith) (config 0x34) first no_pointer in
      let now : File = after_changes first changes in
      record {
        status = ap (λ n. bit_and n 0x10) (held_byte now 6 _ status) ∙ sym (and_mod d.status 0x10 8) ∙ ap (λ n. n % 256) clear;
        pointer = held_byte now 0x34 0 pointer;
      }
