-- Joined files, and the cells of a block as those of a region.
use Rattle.std.proofs.{Common.{◌≡◌, ◌≢◌, ℕ, ◌+◌, ◌*◌, ◌/◌, ◌%◌, Bool, true, false, cond, List, [], ◌∷◌, refl, sym, ap, ap₂, ◌∙◌, subst, arith}, lemmas.Bool.{ne_eqb, eq-eqb, or_parts}}
use Rattle.model_registers.specs.{Cell.{Cell, no_cell, written}, Registers.{Place, config, block, place_eq, after, PlacedCell, File, cell_at, changed, write, in_region}, FileLaws.{has_place, IsConfig, IsConfigFile, JoinedCell, JoinedChange, JoinedWrite, ReadNone, WriteNone, ReadSecond, ReadFirst, PlacesStay, RegionCells, RegionCell, RegionRead, RegionChange, RegionWrite, RegionHasNoConfig, RegionHasNoOther, ConfigHasNoBlock, ConfigStays}, CopiedFiles.places_of}

-- ---- joined files

pub joined_cell : JoinedCell
joined_cell [] ys p = refl
joined_cell (e ∷ es) ys p = grind (arith, joined_cell es ys p)

pub joined_change : JoinedChange
joined_change f p [] ys = refl
joined_change f p (e ∷ es) ys = ap (λ (file : File). cond (place_eq e.place p) (record e { cell = f e.cell }) e ∷ file) (joined_change f p es ys)

pub joined_write : JoinedWrite
joined_write [] v p xs ys = refl
joined_write (true ∷ ons) v p xs ys = grind (arith, joined_write ons (v / 256) (after p) (changed (written (v % 256)) p xs) (changed (written (v % 256)) p ys), joined_change)
joined_write (false ∷ ons) v p xs ys = joined_write ons (v / 256) (after p) xs ys

-- a place without a cell
pub cell_none : (file : File) (p : Place) → has_place file p ≡ false → cell_at file p ≡ no_cell
cell_none [] p h = refl
cell_none (e ∷ es) p h = grind (arith, or_parts, cell_none es p)

pub change_none : (f : Cell → Cell) (file : File) (p : Place) → has_place file p ≡ false → changed f p file ≡ file
change_none f [] p h = refl
change_none f (e ∷ es) p h = grind (arith, or_parts, change_none f es p)

pub read_none : ReadNone
read_none [] p file h = refl
read_none (true ∷ ons) p file h = grind (arith, cell_none, read_none ons)
read_none (false ∷ ons) p file h = ap (λ n. 0 + 256 * n) (read_none ons (after p) file h.1)

pub write_none : WriteNone
write_none [] v p file h = refl
write_none (true ∷ ons) v p file h = grind (arith, change_none, write_none ons (v / 256))
write_none (false ∷ ons) v p file h = write_none ons (v / 256) (after p) file h.1

pub read_second : ReadSecond
read_second [] p xs ys h = refl
read_second (true ∷ ons) p xs ys h = grind (arith, joined_cell, read_second ons (after p) xs ys)
read_second (false ∷ ons) p xs ys h = ap (λ n. 0 + 256 * n) (read_second ons (after p) xs ys h.1)

pub read_first : ReadFirst
read_first [] p xs ys h = refl
read_first (true ∷ ons) p xs ys h = grind (arith, read_first ons (after p) xs ys, joined_cell, cell_none)
read_first (false ∷ ons) p xs ys h = ap (λ n. 0 + 256 * n) (read_first ons (after p) xs ys h.1)

pub same_place : (t : Bool) (e : PlacedCell) (c : Cell) → (cond t (record e { cell = c }) e).place ≡ e.place
same_place t e c = grind arith

pub change_keeps_places : (f : Cell → Cell) (p q : Place) (file : File) → has_place (changed f p file) q ≡ has_place file q
change_keeps_places f p q [] = refl
change_keeps_places f p q (e ∷ es) = grind (arith, same_place, change_keeps_places f p q es)

pub places_stay : PlacesStay
places_stay [] v p q file = refl
places_stay (true ∷ ons) v p q file = places_stay ons (v / 256) (after p) q (changed (written (v % 256)) p file) ∙ change_keeps_places (written (v % 256)) p q file
places_stay (false ∷ ons) v p q file = places_stay ons (v / 256) (after p) q file

-- ---- configuration cells

pub changed_config : (f : Cell → Cell) (p : Place) (file : File) → IsConfigFile file → IsConfigFile (changed f p file)
changed_config f p [] h = tt
changed_config f p (e ∷ es) h = (subst IsConfig (sym (same_place (place_eq e.place p) e (f e.cell))) h.0, changed_config f p es h.1)

pub config_stays : ConfigStays
config_stays [] v p file h = h
config_stays (true ∷ ons) v p file h = config_stays ons (v / 256) (after p) (changed (written (v % 256)) p file) (changed_config (written (v % 256)) p file h)
config_stays (false ∷ ons) v p file h = config_stays ons (v / 256) (after p) file h

pub config_without_block : (file : File) (n a : ℕ) → IsConfigFile file → has_place file (block n a) ≡ false
config_without_block [] n a h = refl
config_without_block (e ∷ es) n a h = grind (arith, config_without_block es n a)

pub config_has_no_block : ConfigHasNoBlock
config_has_no_block [] n a file h = tt
config_has_no_block (on ∷ ons) n a file h = (λ _. config_without_block file n a h, config_has_no_block ons n (a + 1) file h)

-- ---- regions

region_without_config : (file : File) (n a : ℕ) → has_place (in_region n file) (config a) ≡ false
region_without_config [] n a = refl
region_without_config (e ∷ es) n a = region_without_config es n a

pub region_has_no_config : RegionHasNoConfig
region_has_no_config [] n a file = tt
region_has_no_config (on ∷ ons) n a file = (λ _. region_without_config file n a, region_has_no_config ons n (a + 1) file)

region_without_other : (file : File) (n m a : ℕ) → n ≢ m → has_place (in_region n file) (block m a) ≡ false
region_without_other [] n m a h = refl
region_without_other (e ∷ es) n m a h = grind (arith, ne_eqb, region_without_other es n m a h)

pub region_has_no_other : RegionHasNoOther
region_has_no_other [] n m a file h = tt
region_has_no_other (on ∷ ons) n m a file h = (λ _. region_without_other file n m a h, region_has_no_other ons n m (a + 1) file h)

pub region_cells : RegionCells
region_cells n a [] = refl
region_cells n a (c ∷ cs) = ap (λ (file : File). record { place = block n a; cell = c } ∷ file) (region_cells n (a + 1) cs)

pub region_cell : RegionCell
region_cell n a [] h = refl
region_cell n a (e ∷ es) h = grind (arith, region_cell n a es h.1, eq-eqb)

pub region_read : RegionRead
region_read [] n a file h = refl
region_read (true ∷ ons) n a file h = ap₂ (λ (c : Cell) k. c.value + 256 * k) (region_cell n a file h) (region_read ons n (a + 1) file h)
region_read (false ∷ ons) n a file h = ap (λ k. 0 + 256 * k) (region_read ons n (a + 1) file h)

pub region_change : RegionChange
region_change f n a [] h = refl
region_change f n a (e ∷ es) h = grind (arith, eq-eqb, region_change f n a es)

pub region_write : RegionWrite
region_write [] v n a file h = refl
region_write (true ∷ ons) v n a file h = grind (arith, region_write ons (v / 256) n (a + 1) (changed (written (v % 256)) (config a) file), region_change, changed_config)
region_write (false ∷ ons) v n a file h = region_write ons (v / 256) n (a + 1) file h

-- ---- a write moves no cell

pub places_changed : (f : Cell → Cell) (p : Place) (file : File) → places_of (changed f p file) ≡ places_of file
places_changed f p [] = refl
places_changed f p (e ∷ es) = grind (arith, places_changed f p es)

pub places_written : (ons : List Bool) (v : ℕ) (p : Place) (file : File) → places_of (write ons v p file) ≡ places_of file
places_written [] v p file = refl
places_written (on ∷ ons) v p file = grind (arith, places_written ons (v / 256) (after p) (cond on (changed (written (v % 256)) p file) file), places_changed)
