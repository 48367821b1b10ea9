-- What an endpoint knows of its cells at reset: at the beginning, and after each change.
use Rattle.std.{proofs.{Common.{◌≡◌, ℕ, ◌+◌, ◌/◌, ◌<◌, ◌≤◌, inl, inr, Bool, true, false, Some, List, [], ◌∷◌, ◌++◌, length, refl, ap, sym, ◌∙◌, subst, arith, get_or, rules, ltb}, lemmas.{Bool.{ne_eqb, ltb-true, ltb-false, Decides.nat_tests}, List.length-set, Option.slice_get_past}}, specs.{Prelude.flat_map, List.{slice_get, slice_set}, Option.option_map_or}}
use Rattle.lists.{specs.Elements.Each, proofs.{Indices.read_at, EachLemmas.each_append}}
use Rattle.model_registers.{specs.{Cell.{Cell, IsConstant}, Registers.{Place, config, after, File, cell_at, changed, write, field, number}, FileLaws.{has_place, IsConfigFile}, Declarations.{ConfigBlock, Endpoint}, DeclarationRules.{IsConfigBlock, IsLawfulEndpoint}, EndpointTable.{block_cells, header_type, config_reset, BaseAddress}, OwnCopies.is_own, Decoding.Function}, proofs.{Files.{changed_config, change_keeps_places}, ConstantCells.constant_written}}
use Rattle.config_bytes.specs.CellFile.{CellFile, places_of}
use Rattle.bridge_forward.{specs.EndpointParts.{block_at, declared_block, IsHeaderKept, KnowReset, as_made, region_parts, IsShort, IsEndpointFn}, proofs.{EndpointAccess.{get_set, get_other, block_there, block_set, other_blocks, IsBlockChange, no_block, block_short, config_kept, table_changed, table_kept, nothing_there}, EndpointReset.{none_field, none_cells}}}

-- ---- the header type stays

pub header_changed : (f : Cell → Cell) → ((c : Cell) → IsConstant c → f c ≡ c) → (initial : File) (p : Place) (xs : File) → Each (IsHeaderKept initial) xs → Each (IsHeaderKept initial) (changed f p xs)
header_changed f stays initial p [] h = tt
header_changed f stays initial p (x ∷ xs) h = search (rules, header_changed f stays initial p xs h.1)

pub header_written : (initial : File) (ons : List Bool) (v : ℕ) (p : Place) (xs : File) → Each (IsHeaderKept initial) xs → Each (IsHeaderKept initial) (write ons v p xs)
header_written initial [] v p xs h = h
header_written initial (true ∷ ons) v p xs h = grind (arith, header_written initial ons (v / 256), header_changed, constant_written)
header_written initial (false ∷ ons) v p xs h = header_written initial ons (v / 256) (after p) xs h

-- ---- changes

-- other configuration cells, of the same cells at reset
pub know_config : (d : Endpoint) (cells later : CellFile) (blocks : List CellFile) → KnowReset d cells blocks → later.initial ≡ cells.initial → Each (IsHeaderKept cells.initial) later.now → KnowReset d later blocks
know_config d cells later blocks know same header = search rules

-- another block, of the same cells at reset and at the same places
pub know_block : (d : Endpoint) (cells : CellFile) (blocks : List CellFile) → KnowReset d cells blocks → (n : ℕ) (f : CellFile) → n < length blocks → f ≡ get_or blocks n f
    → (k : CellFile) → k.initial ≡ f.initial → places_of k.now ≡ places_of f.now → KnowReset d cells (slice_set blocks n k)
know_block d cells blocks know n f l there k same places = grind (arith, length-set, get_set, get_other, block_set, block_there, other_blocks, read_at)

-- ---- at the beginning

no_header : (initial xs : File) → has_place xs (config 0x0e) ≡ false → Each (IsHeaderKept initial) xs
no_header initial [] h = tt
no_header initial (x ∷ xs) h = search (rules, no_header initial xs)

record IsKept (initial xs : File) : Type 0 where
  each : Each (IsHeaderKept initial) xs

join : {initial xs ys : File} → IsKept initial xs → IsKept initial ys → IsKept initial (xs ++ ys)
join {initial} {xs} {ys} h k = record { each = each_append (IsHeaderKept initial) xs ys h.each k.each }

below : (initial : File) (a w v m c : ℕ) → a + w ≤ 0x0e → IsKept initial (field (config a) w v m c)
below initial a w v m c l = record { each = no_header initial (field (config a) w v m c) (none_field 0x0e w a v m c (inr l)) }

above : (initial : File) (a w v m c : ℕ) → 0x0f ≤ a → IsKept initial (field (config a) w v m c)
above initial a w v m c l = record { each = no_header initial (field (config a) w v m c) (none_field 0x0e w a v m c (inl l)) }

kept_blocks : (initial : File) (bs : List ConfigBlock) → Each IsConfigBlock bs → Each (IsHeaderKept initial) (flat_map block_cells bs)
kept_blocks initial [] h = tt
kept_blocks initial (b ∷ bs) h = search (rules, each_append, no_header, none_cells, kept_blocks initial bs h.1)

own_header : (d : Endpoint) (multifunction : Bool) → IsKept (config_reset d multifunction) (field (config 0x0e) 1 (header_type 0 multifunction) 0 0)
own_header d multifunction = search rules

header_new : (d : Endpoint) (multifunction : Bool) → Each IsConfigBlock d.blocks → Each (IsHeaderKept (config_reset d multifunction)) (config_reset d multifunction)
header_new d multifunction lawful = grind (arith, join, kept_blocks (config_reset d multifunction) d.blocks lawful, below, above, own_header)

-- the header type alone tells whether the device holds other functions
same_cells : (d : Endpoint) (multifunction : Bool) (p : Place) → is_own p ≡ false → cell_at (config_reset d multifunction) p ≡ cell_at (config_reset d false) p
same_cells d multifunction p h = grind (arith, ne_eqb, nat_tests)

pub know_new : (d : Endpoint) → IsLawfulEndpoint d → (multifunction : Bool) (cells : CellFile) → cells ≡ as_made (config_reset d multifunction)
    → (blocks : List CellFile) → length blocks ≡ 6 → ((n : ℕ) → n < 6 → slice_get blocks n ≡ Some (as_made (declared_block d.regions n))) → KnowReset d cells blocks
know_new d lawful multifunction cells made blocks six filled = subst (λ (f : CellFile). KnowReset d f blocks) (sym made) (record {
  lawful = lawful;
  header = header_new d multifunction lawful.config_blocks;
  declared = same_cells d multifunction;
  six = six;
  block_cells = λ n l. ap (λ o. option_map_or (λ (x : CellFile). x.initial) o []) (filled n l);
  block_places = λ n. grind (arith, filled n, slice_get_past blocks n);
})

-- ---- an endpoint after a change of cells: of its own configuration cells, or of one block's

abbrev file_of : CellFile → List BaseAddress → List CellFile → File
file_of cells bars blocks = cells.now ++ region_parts bars (block_at blocks)

abbrev with_file : Endpoint → File → Function
with_file d file = record { decl = d; file = file }

module _ {d : Endpoint} {cells : CellFile} {command : ℕ} {bars : List BaseAddress} {blocks : List CellFile} (h : IsEndpointFn d cells command bars blocks) where
  -- its configuration cells, of the same header type and at the same places
  pub config_invariant : (later : CellFile) (now : ℕ) → later.initial ≡ cells.initial → now ≡ number later.now (config 0x04) 2 → IsConfigFile later.now → ((q : ℕ) → has_place later.now (config q) ≡ has_place cells.now (config q))
      → Each (IsHeaderKept cells.initial) later.now → IsEndpointFn d later now bars blocks
  config_invariant later now same command_is places stay header = grind (arith, config_kept, know_config)

  -- one cell of these
  pub cell_invariant : (f : Cell → Cell) (off : ℕ) (later : CellFile) (now : ℕ) → later ≡ record cells { now = changed f (config off) cells.now } → now ≡ number later.now (config 0x04) 2
      → Each (IsHeaderKept cells.initial) (changed f (config off) cells.now) → IsEndpointFn d later now bars blocks
  cell_invariant f off later now is command_is header = grind (arith, config_invariant, changed_config, change_keeps_places)

  module _ {n : ℕ} {change inner : File → File} (c : IsBlockChange n change inner) where
    -- no block stands at the register
    pub nothing_shown : false ≡ ltb n (length blocks) → {e : Function} → with_file d (file_of cells bars blocks) ≡ e → with_file d (file_of cells bars blocks) ≡ record e { file = change e.file }
    nothing_shown past view =
        ap (with_file d) (sym (nothing_there d cells.now bars (block_at blocks) h.parts n change inner c (no_block blocks n (ltb-false n (length blocks) (sym past)))))
        ∙ ap (λ (e : Function). record e { file = change e.file }) view

    module _ {f k : CellFile} (l : true ≡ ltb n (length blocks)) (there : f ≡ get_or blocks n f) (is : k ≡ record f { now = inner f.now }) where
      low : n < length blocks
      low = ltb-true n (length blocks) (sym l)

      now : k.now ≡ inner f.now
      now = ap (λ (x : CellFile). x.now) is

      pub block_invariant : IsEndpointFn d cells command bars (slice_set blocks n k)
      block_invariant = record {
        parts = table_kept d cells.now bars (block_at blocks) h.parts blocks refl n f low there change inner c k now;
        command_is = h.command_is;
        reset = know_block d cells blocks h.reset n f low there k (ap (λ (x : CellFile). x.initial) is) (ap places_of now ∙ c.all_places f.now);
      }

      pub block_shown : {e : Function} → with_file d (file_of cells bars blocks) ≡ e → with_file d (file_of cells bars (slice_set blocks n k)) ≡ record e { file = change e.file }
      block_shown view =
          ap (with_file d) (sym (table_changed d cells.now bars (block_at blocks) h.parts blocks refl n f low there change inner c k now))
          ∙ ap (λ (e : Function). record e { file = change e.file }) view

  pub short_there : (n : ℕ) (f : CellFile) → true ≡ ltb n (length blocks) → f ≡ get_or blocks n f → IsShort f.now
  short_there n f l there = subst IsShort (block_there blocks n f (ltb-true n (length blocks) (sym l)) there) (block_short d cells.now bars (block_at blocks) h.parts n)
