-- Accesses of an endpoint's file, by the part that they reach.
use Rattle.std.{proofs.{Common.{◌≡◌, ◌≢◌, ℕ, zero, suc, ◌+◌, ◌/◌, ◌%◌, ◌<◌, ◌≤◌, ◌⊎◌, inl, inr, Bool, true, false, cond, Some, get_or, List, [], ◌∷◌, ◌++◌, map, length, refl, ap, ap₂, sym, ◌∙◌, subst, arith, rules}, lemmas.{Option.{slice_get_past, slice_get_within}, List.length-set, Bool.{cases_eq, Decides.nat_tests}}}, specs.{Int.Bits.{or_zero_r, and_zero_r}, Prelude.◌==◌, Option.option_map_or, List.{slice_get, slice_set}}}
use Rattle.lists.{specs.Elements.{Each, EachPair}, proofs.{EachLemmas.each_append, Indices.read_at}}
use Rattle.model_registers.{specs.{Cell.{Cell, raised}, Registers.{config, block, PlacedCell, File, cell_at, read, changed, write, raise, field, in_region}, FileLaws.{has_place, HasNone, IsConfig, IsConfigFile}, Declarations.{Region, Endpoint, HasLawfulRegions, IsLawfulRegion}, EndpointTable.{BaseAddress, register_cells, base_file, opened}, DeviceBytes.{is_device_byte, with_value, set_value}}, proofs.{Files.{joined_write, joined_change, read_none, write_none, change_none, region_has_no_config, region_has_no_other, config_has_no_block, region_write, region_change, config_without_block, config_stays, places_stay, change_keeps_places, changed_config, cell_none, places_changed, places_written}, Parts.{write_apart, change_outside}, BareRegions.{bare_lawful, Follows}, Owned.{no_base, base_outside}, Bases.registers_positive, RegisterFiles.place_same, DeviceBytes.device_away}}
use Rattle.config_bytes.specs.CellFile.{CellFile, places_of}
use Rattle.bridge_forward.{specs.EndpointParts.{block_at, region_parts, IsShort, AreParts, IsHeaderKept}, proofs.RegionParts.{read_same, cell_second, cell_first, config_register, no_config_in, no_other_in, config_cell, Distinct, block_cell, IsChange, parts_changed, write_is_change, changed_is_change}}

config_bases : (bs : List BaseAddress) → IsConfigFile (base_file bs)
config_bases [] = tt
config_bases (b ∷ bs) = each_append (λ (e : PlacedCell). IsConfig e.place) (register_cells b) (base_file bs) (config_register b) (config_bases bs)

-- a word that begins outside the base address registers lies outside them
pub word_away : (off : ℕ) → off % 4 ≡ 0 → (off < 0x10) ⊎ (0x28 ≤ off) → (off + 4 ≤ 0x10) ⊎ (0x28 ≤ off)
word_away off word h = grind arith

-- ---- blocks by register

-- the block that is there, or none past the table
pub block_there : (blocks : List CellFile) (n : ℕ) (f : CellFile) → n < length blocks → f ≡ get_or blocks n f → block_at blocks n ≡ f.now
block_there blocks n f l e = ap (λ o. option_map_or (λ (x : CellFile). x.now) o []) (read_at blocks n f l e)

pub no_block : (blocks : List CellFile) (n : ℕ) → length blocks ≤ n → block_at blocks n ≡ []
no_block blocks n l = ap (λ o. option_map_or (λ (x : CellFile). x.now) o []) (slice_get_past blocks n l)

pub get_set : {A : Type 0} (xs : List A) (n : ℕ) (x : A) → n < length xs → slice_get (slice_set xs n x) n ≡ Some x
get_set [] n x l = absurd (omega (arith, l))
get_set (y ∷ ys) zero x l = refl
get_set (y ∷ ys) (suc n) x l = get_set ys n x (omega (arith, l))

pub get_other : {A : Type 0} (xs : List A) (n m : ℕ) (x : A) → m ≢ n → slice_get (slice_set xs n x) m ≡ slice_get xs m
get_other [] n m x d = refl
get_other (y ∷ ys) zero zero x d = absurd (d refl)
get_other (y ∷ ys) zero (suc m) x d = refl
get_other (y ∷ ys) (suc n) zero x d = refl
get_other (y ∷ ys) (suc n) (suc m) x d = get_other ys n m x (λ e. d (omega (arith, e)))

-- an element of a list in which one was set
pub set_cases : {A : Type 0} (xs : List A) (i j : ℕ) (x y : A) → slice_get (slice_set xs i x) j ≡ Some y → ((j ≡ i) × (y ≡ x)) ⊎ ((j ≢ i) × (slice_get xs j ≡ Some y))
set_cases xs i j x y e = grind (arith, cases_eq, get_other, length-set, slice_get_within, get_set)

pub block_set : (blocks : List CellFile) (n : ℕ) (f : CellFile) → n < length blocks → block_at (slice_set blocks n f) n ≡ f.now
block_set blocks n f l = ap (λ o. option_map_or (λ (x : CellFile). x.now) o []) (get_set blocks n f l)

pub other_blocks : (blocks : List CellFile) (n m : ℕ) (f : CellFile) → m ≢ n → block_at (slice_set blocks n f) m ≡ block_at blocks m
other_blocks blocks n m f d = ap (λ o. option_map_or (λ (x : CellFile). x.now) o []) (get_other blocks n m f d)

later : (b : BaseAddress) (bs : List BaseAddress) → Each (Follows (opened b)) (map opened bs) → Each (λ (c : BaseAddress). b.index ≢ c.index) bs
later b [] h = tt
later b (c ∷ bs) h = (λ e. let some = registers_positive b.kind in absurd (omega (arith, h.0, some, e)), later b bs h.1)

distinct_opened : (bs : List BaseAddress) → EachPair Follows (map opened bs) → Distinct bs
distinct_opened [] h = tt
distinct_opened (b ∷ bs) h = (later b bs h.0, distinct_opened bs h.1)

-- ---- places stay

-- what a change of one block's cells does to each part
pub record IsBlockChange (n : ℕ) (change inner : File → File) : Type 0 where
  pub change_is : IsChange change
  pub config_stays : (xs : File) → IsConfigFile xs → change xs ≡ xs
  pub here : (xs : File) → IsConfigFile xs → change (in_region n xs) ≡ in_region n (inner xs)
  pub other : (m : ℕ) (xs : File) → m ≢ n → change (in_region m xs) ≡ in_region m xs
  pub places_kept : (xs : File) → IsConfigFile xs → IsConfigFile (inner xs)
  pub place_stays : (xs : File) (q : ℕ) → has_place (inner xs) (config q) ≡ has_place xs (config q)
  pub all_places : (xs : File) → places_of (inner xs) ≡ places_of xs
  pub none : inner [] ≡ []

pub write_in_block : (n off v : ℕ) (ons : List Bool) → IsBlockChange n (write ons v (block n off)) (write ons v (config off))
write_in_block n off v ons = record {
  change_is = write_is_change ons v (block n off);
  config_stays = λ xs h. write_none ons v (block n off) xs (config_has_no_block ons n off xs h);
  here = λ xs h. region_write ons v n off xs h;
  other = λ m xs e. write_none ons v (block n off) (in_region m xs) (region_has_no_other ons m n off xs e);
  places_kept = λ xs h. config_stays ons v (config off) xs h;
  place_stays = λ xs q. places_stay ons v (config off) (config q) xs;
  all_places = λ xs. places_written ons v (config off) xs;
  none = Rattle.model_registers.proofs.Parts.write_none ons v (config off);
}

pub change_in_block : (f : Cell → Cell) (n off : ℕ) → IsBlockChange n (changed f (block n off)) (changed f (config off))
change_in_block f n off = record {
  change_is = changed_is_change f (block n off);
  config_stays = λ xs h. change_none f xs (block n off) (config_without_block xs n off h);
  here = λ xs h. region_change f n off xs h;
  other = λ m xs e. change_none f (in_region m xs) (block n off) (no_other_in m n off xs e);
  places_kept = λ xs h. changed_config f (config off) xs h;
  place_stays = λ xs q. change_keeps_places f (config off) (config q) xs;
  all_places = λ xs. places_changed f (config off) xs;
  none = refl;
}

-- no cell stands at the enabled places
pub none_from : (xs : File) (ons : List Bool) (off : ℕ) → ((q : ℕ) → off ≤ q → q < off + length ons → has_place xs (config q) ≡ false) → HasNone xs (config off) ons
none_from xs [] off h = tt
none_from xs (on ∷ ons) off h = (λ e. h off (omega arith) (omega arith), none_from xs ons (off + 1) (λ q l k. h q (omega arith) (omega arith)))

-- past all cells a read gives 0, and nothing changes
pub read_past : (xs : File) → IsShort xs → (off : ℕ) (ons : List Bool) → 0x10000 ≤ off → read xs (config off) ons ≡ 0
read_past xs short off ons l = read_none ons (config off) xs (none_from xs ons off (λ q k h. short q (omega arith)))

pub write_past : (xs : File) → IsShort xs → (off v : ℕ) (ons : List Bool) → 0x10000 ≤ off → write ons v (config off) xs ≡ xs
write_past xs short off v ons l = write_none ons v (config off) xs (none_from xs ons off (λ q k h. short q (omega arith)))

pub change_past : (f : Cell → Cell) (xs : File) → IsShort xs → (off : ℕ) → 0x10000 ≤ off → changed f (config off) xs ≡ xs
change_past f xs short off l = change_none f xs (config off) (short off l)

-- a raise finds no clearable bit in a base register
unraised : (t : Bool) (mask : ℕ) (e : PlacedCell) → e.cell.clearable ≡ 0 → cond t (record e { cell = raised mask e.cell }) e ≡ e
unraised t mask e h = grind (arith, and_zero_r, or_zero_r)

raise_field : (mask q w a v m : ℕ) → raise mask (config q) (field (config a) w v m 0) ≡ field (config a) w v m 0
raise_field mask q zero a v m = refl
raise_field mask q (suc w) a v m =
    ap₂ (λ (e : PlacedCell) (es : File). e ∷ es) (unraised (a == q) mask (record { place = config a; cell = record { value = v % 256; writable = m % 256; clearable = 0 } }) refl)
    (raise_field mask q w (a + 1) (v / 256) (m / 256))

module _ (d : Endpoint) (cells : File) (bars : List BaseAddress) (g : ℕ → File) (parts : AreParts d cells bars g) where
  abbrev file : File
  file = cells ++ region_parts bars g

  pub lawful_bars : HasLawfulRegions (map opened bars)
  lawful_bars = subst HasLawfulRegions (sym parts.registers) (bare_lawful d.regions parts.lawful)

  distinct : Distinct bars
  distinct = distinct_opened bars lawful_bars.in_order

  -- ---- reads

  -- at a block's offsets stands the block
  pub cell_of_block : (n q : ℕ) → cell_at file (block n q) ≡ cell_at (g n) (config q)
  cell_of_block n q = grind (arith, cell_second, config_without_block, block_cell, distinct)

  -- and elsewhere than at base registers the header with the device's own registers
  pub cell_of_config : (q : ℕ) → (q < 0x10) ⊎ (0x28 ≤ q) → cell_at file (config q) ≡ cell_at cells (config q)
  cell_of_config q away = cell_first cells (region_parts bars g) (config q) (config_cell bars g q ∙ no_base bars lawful_bars.each q away)

  -- a block's offsets show the block
  pub read_block : (n off : ℕ) (ons : List Bool) → read file (block n off) ons ≡ read (g n) (config off) ons
  read_block n off ons = read_same file (g n) (block n) config (λ k. refl) (λ k. refl) ons off (λ q l h. cell_of_block n q)

  -- base registers show the bases
  pub read_base : (off : ℕ) (ons : List Bool) → 0x10 ≤ off → off + length ons ≤ 0x28 → read file (config off) ons ≡ read (base_file bars) (config off) ons
  read_base off ons low high = read_same file (base_file bars) config config (λ k. refl) (λ k. refl) ons off (λ q l h.
      cell_second cells (region_parts bars g) (config q) (parts.config_within q (inl (omega arith, omega arith))) ∙ config_cell bars g q)

  -- all other configuration offsets show the header and the device's own registers
  pub read_config : (off : ℕ) (ons : List Bool) → (off + length ons ≤ 0x10) ⊎ (0x28 ≤ off) → read file (config off) ons ≡ read cells (config off) ons
  read_config off ons away = read_same file cells config config (λ k. refl) (λ k. refl) ons off (λ q l h.
      cell_of_config q (elim away [ inl low ↦ inl (omega arith) | inr high ↦ inr (omega arith) ]))

  -- ---- changes of a block

  pub block_changed : (n : ℕ) (change inner : File → File) → IsBlockChange n change inner → (h : ℕ → File) → h n ≡ inner (g n) → ((m : ℕ) → m ≢ n → h m ≡ g m) → change file ≡ cells ++ region_parts bars h
  block_changed n change inner c h here other =
      c.change_is.joined cells (region_parts bars g)
      ∙ ap₂ (λ (xs ys : File). xs ++ ys) (c.config_stays cells parts.config_places)
      (parts_changed change c.change_is bars bars g h refl (sym (c.config_stays (base_file bars) (config_bases bars))) (λ m. by_index m (cases_eq m n)))
    where
      by_index : (m : ℕ) → (m ≡ n) ⊎ (m ≢ n) → change (in_region m (g m)) ≡ in_region m (h m)
      by_index m e = grind arith

  pub block_kept : (n : ℕ) (h : ℕ → File) → IsConfigFile (h n) → ((q : ℕ) → has_place (h n) (config q) ≡ has_place (g n) (config q)) → (g n ≡ [] → h n ≡ []) → ((m : ℕ) → m ≢ n → h m ≡ g m) → AreParts d cells bars h
  block_kept n h places same none other = search (rules, cases_eq)

  -- ---- changes of configuration cells

  pub config_changed : (change : File → File) → IsChange change → ((m : ℕ) (xs : File) → change (in_region m xs) ≡ in_region m xs) → (cs : List BaseAddress) → map opened bars ≡ map opened cs → base_file cs ≡ change (base_file bars)
      → change file ≡ change cells ++ region_parts cs g
  config_changed change c region cs same bases = grind (arith, parts_changed)

  pub config_kept : (xs : File) (cs : List BaseAddress) → map opened cs ≡ map opened bars → IsConfigFile xs → ((q : ℕ) → has_place xs (config q) ≡ has_place cells (config q)) → AreParts d xs cs g
  config_kept xs cs same places holds = record {
    lawful = parts.lawful;
    registers = same ∙ parts.registers;
    config_places = places;
    config_within = λ q l. holds q ∙ parts.config_within q l;
    block_places = parts.block_places;
    block_within = parts.block_within;
    unused = λ m u. parts.unused m (same_indices cs bars same m u);
  }
    where
      same_indices : (ps bs : List BaseAddress) → map opened ps ≡ map opened bs → (m : ℕ) → Each (λ (b : BaseAddress). b.index ≢ m) ps → Each (λ (b : BaseAddress). b.index ≢ m) bs
      same_indices ps [] e m u = tt
      same_indices [] (b ∷ bs) e m u = absurd (cc)
      same_indices (a ∷ ps) (b ∷ bs) e m u =
          let head : opened a ≡ opened b = cc in
          let tail : map opened ps ≡ map opened bs = cc in
          (λ z. u.0 (ap (λ (r : Region). r.index) head ∙ z), same_indices ps bs tail m u.1)

  -- base registers stay where a write meets none
  bases_stay : (bs : List BaseAddress) → Each IsLawfulRegion (map opened bs) → (ons : List Bool) (v off : ℕ) → (off + length ons ≤ 0x10) ⊎ (0x28 ≤ off) → write ons v (config off) (base_file bs) ≡ base_file bs
  bases_stay [] l ons v off w = Rattle.model_registers.proofs.Parts.write_none ons v (config off)
  bases_stay (b ∷ bs) l ons v off w = search (rules, joined_write, write_apart, bases_stay bs l.1 ons v off w)

  pub write_config : (off v : ℕ) (ons : List Bool) → (off + length ons ≤ 0x10) ⊎ (0x28 ≤ off) → write ons v (config off) file ≡ write ons v (config off) cells ++ region_parts bars g
  write_config off v ons w =
      config_changed (write ons v (config off)) (write_is_change ons v (config off)) (λ m xs. write_none ons v (config off) (in_region m xs) (region_has_no_config ons m off xs))
      bars refl (sym (bases_stay bars lawful_bars.each ons v off w))

  -- ---- raises, and writes of base registers

  bases_unraised : (bs : List BaseAddress) (mask off : ℕ) → raise mask (config off) (base_file bs) ≡ base_file bs
  bases_unraised [] mask off = refl
  bases_unraised (b ∷ bs) mask off = search (rules, joined_change, raise_field, bases_unraised bs mask off)

  pub raise_config : (off mask : ℕ) → raise mask (config off) file ≡ raise mask (config off) cells ++ region_parts bars g
  raise_config off mask = search (rules, config_changed, changed_is_change (raised mask) (config off), change_none, no_config_in, bases_unraised bars mask off)

  -- a write of base registers
  pub write_base : (off v : ℕ) (ons : List Bool) (cs : List BaseAddress) → 0x10 ≤ off → off + length ons ≤ 0x28 → map opened cs ≡ map opened bars → base_file cs ≡ write ons v (config off) (base_file bars)
      → write ons v (config off) file ≡ cells ++ region_parts cs g
  write_base off v ons cs low high same bases = grind (arith, config_changed, write_is_change ons v (config off), write_none, region_has_no_config, none_from)

  pub block_short : (n : ℕ) → IsShort (g n)
  block_short n off l = parts.block_within n off (omega arith)

  -- ---- one block of the table, written or raised

  module _ (blocks : List CellFile) (table : g ≡ block_at blocks) (n : ℕ) (f : CellFile) (l : n < length blocks) (there : f ≡ get_or blocks n f) where
    here : g n ≡ f.now
    here = ap (λ (h : ℕ → File). h n) table ∙ block_there blocks n f l there

    others : (k : CellFile) (m : ℕ) → m ≢ n → block_at (slice_set blocks n k) m ≡ g m
    others k m d = other_blocks blocks n m k d ∙ sym (ap (λ (h : ℕ → File). h m) table)

    module _ (change inner : File → File) (c : IsBlockChange n change inner) (k : CellFile) (is : k.now ≡ inner f.now) where
      set_is : block_at (slice_set blocks n k) n ≡ inner (g n)
      set_is = block_set blocks n k l ∙ is ∙ sym (ap inner here)

      pub table_changed : change file ≡ cells ++ region_parts bars (block_at (slice_set blocks n k))
      table_changed = block_changed n change inner c (block_at (slice_set blocks n k)) set_is (others k)

      pub table_kept : AreParts d cells bars (block_at (slice_set blocks n k))
      table_kept = grind (arith, block_kept, set_is, others)

  -- a register at which no block stands
  pub nothing_there : (n : ℕ) (change inner : File → File) → IsBlockChange n change inner → g n ≡ [] → change file ≡ file
  nothing_there n change inner c e = block_changed n change inner c g (e ∙ sym c.none ∙ sym (ap inner e)) (λ m d. refl)

-- ---- what a device's own bytes hold, and what a value put into one changes, by the part of an endpoint that it reaches

-- past all cells nothing stands
pub value_past : (xs : File) → IsShort xs → (off : ℕ) → 0x10000 ≤ off → (cell_at xs (config off)).value ≡ 0
value_past xs short off l = ap (λ (c : Cell). c.value) (cell_none xs (config off) (short off l))

-- base registers have no such byte
bases_unset : (f : Cell → Cell) (bs : List BaseAddress) → Each IsLawfulRegion (map opened bs) → (off : ℕ) → (off < 0x10) ⊎ (0x28 ≤ off) → changed f (config off) (base_file bs) ≡ base_file bs
bases_unset f [] lawful off away = refl
bases_unset f (b ∷ bs) lawful off away = search (rules, joined_change, change_outside, base_outside, bases_unset f bs lawful.1 off away)

pub set_config : (d : Endpoint) (cells : File) (bars : List BaseAddress) (g : ℕ → File) → AreParts d cells bars g → (off v : ℕ) → is_device_byte (config off) ≡ true
    → set_value v (config off) (cells ++ region_parts bars g) ≡ set_value v (config off) cells ++ region_parts bars g
set_config d cells bars g parts off v reaches =
    config_changed d cells bars g parts (set_value v (config off)) (changed_is_change (with_value (v % 256)) (config off))
    (λ m xs. change_none (with_value (v % 256)) (in_region m xs) (config off) (no_config_in m off xs))
    bars refl (sym (bases_unset (with_value (v % 256)) bars (lawful_bars d cells bars g parts).each off (device_away off reaches)))

-- the header type is no such byte
pub header_set : (f : Cell → Cell) (initial : File) (off : ℕ) → is_device_byte (config off) ≡ true → (xs : File) → Each (IsHeaderKept initial) xs → Each (IsHeaderKept initial) (changed f (config off) xs)
header_set f initial off reaches [] h = tt
header_set f initial off reaches (x ∷ xs) h = search (rules, nat_tests, place_same, header_set f initial off reaches xs h.1)
