-- Laws of joined register files, and of a block's cells as the cells of a region.
--     has_place file p      the place has a cell
--     HasNone file p ons      none of the enabled places from p on has a cell
--     IsConfigFile file      each cell is at a configuration offset
use Rattle.std.specs.Prelude.{◌≡◌, ◌≢◌, ◌++◌, ⊤, ℕ, Bool, false, true, ◌||◌, if◌then◌else◌, List, [], ◌∷◌}
use Rattle.lists.specs.Elements.{Each}
use Rattle.model_registers.specs.{Cell.Cell, Registers.{Place, config, block, place_eq, after, PlacedCell, File, cell_at, changed, read, write, cells_from, in_region}}

abbrev pub has_place : File → Place → Bool
has_place [] p = false
has_place (e ∷ es) p = place_eq e.place p || has_place es p

abbrev pub HasNone : File → Place → List Bool → Type 0
HasNone file p [] = ⊤
HasNone file p (on ∷ ons) = (on ≡ true → has_place file p ≡ false) × HasNone file (after p) ons

abbrev pub IsConfig : Place → Type 0
IsConfig (config a) = ⊤
IsConfig (block n a) = ⊥

abbrev pub IsConfigFile : File → Type 0
IsConfigFile file = Each (λ (e : PlacedCell). IsConfig e.place) file

-- ---- joined files

-- a place reads from the first file that has it
abbrev pub JoinedCell : Type 0
JoinedCell = (xs ys : File) (p : Place) → cell_at (xs ++ ys) p ≡ (if has_place xs p then cell_at xs p else cell_at ys p)

-- a change or a write of joined files changes each file separately
abbrev pub JoinedChange : Type 0
JoinedChange = (f : Cell → Cell) (p : Place) (xs ys : File) → changed f p (xs ++ ys) ≡ changed f p xs ++ changed f p ys

abbrev pub JoinedWrite : Type 0
JoinedWrite = (ons : List Bool) (v : ℕ) (p : Place) (xs ys : File)
    → write ons v p (xs ++ ys) ≡ write ons v p xs ++ write ons v p ys

-- a file without a cell at the enabled places reads 0 there, doesn't change, and is skipped
abbrev pub ReadNone : Type 0
ReadNone = (ons : List Bool) (p : Place) (file : File) → HasNone file p ons → read file p ons ≡ 0

abbrev pub WriteNone : Type 0
WriteNone = (ons : List Bool) (v : ℕ) (p : Place) (file : File) → HasNone file p ons → write ons v p file ≡ file

abbrev pub ReadSecond : Type 0
ReadSecond = (ons : List Bool) (p : Place) (xs ys : File) → HasNone xs p ons → read (xs ++ ys) p ons ≡ read ys p ons

abbrev pub ReadFirst : Type 0
ReadFirst = (ons : List Bool) (p : Place) (xs ys : File) → HasNone ys p ons → read (xs ++ ys) p ons ≡ read xs p ons

-- changes keep the places
abbrev pub PlacesStay : Type 0
PlacesStay = (ons : List Bool) (v : ℕ) (p q : Place) (file : File) → has_place (write ons v p file) q ≡ has_place file q

-- ---- a block's cells in a region

abbrev pub RegionCells : Type 0
RegionCells = (n a : ℕ) (cs : List Cell) → in_region n (cells_from (config a) cs) ≡ cells_from (block n a) cs

abbrev pub RegionCell : Type 0
RegionCell = (n a : ℕ) (file : File) → IsConfigFile file
    → cell_at (in_region n file) (block n a) ≡ cell_at file (config a)

abbrev pub RegionRead : Type 0
RegionRead = (ons : List Bool) (n a : ℕ) (file : File) → IsConfigFile file
    → read (in_region n file) (block n a) ons ≡ read file (config a) ons

abbrev pub RegionChange : Type 0
RegionChange = (f : Cell → Cell) (n a : ℕ) (file : File) → IsConfigFile file
    → changed f (block n a) (in_region n file) ≡ in_region n (changed f (config a) file)

abbrev pub RegionWrite : Type 0
RegionWrite = (ons : List Bool) (v n a : ℕ) (file : File) → IsConfigFile file
    → write ons v (block n a) (in_region n file) ≡ in_region n (write ons v (config a) file)

-- such cells are at no configuration offset and in no other region, and configuration cells are in no region
abbrev pub RegionHasNoConfig : Type 0
RegionHasNoConfig = (ons : List Bool) (n a : ℕ) (file : File) → HasNone (in_region n file) (config a) ons

abbrev pub RegionHasNoOther : Type 0
RegionHasNoOther = (ons : List Bool) (n m a : ℕ) (file : File) → n ≢ m → HasNone (in_region n file) (block m a) ons

abbrev pub ConfigHasNoBlock : Type 0
ConfigHasNoBlock = (ons : List Bool) (n a : ℕ) (file : File) → IsConfigFile file → HasNone file (block n a) ons

abbrev pub ConfigStays : Type 0
ConfigStays = (ons : List Bool) (v : ℕ) (p : Place) (file : File) → IsConfigFile file
    → IsConfigFile (write ons v p file)
