-- A register file stored as cells by configuration offset.
--     CellFile      the current cells, and the cells given at creation
--     file_of cs      the register file of a list of offsets with cells
--     HasDistinctOffsets cs      all offsets are distinct
--     KeepsPlaces f      the current cells have the same offsets as the cells given at creation
--     reset_outside first last initial now      the cells of `now`, with those outside a range of offsets replaced by those of `initial`
--     offsets_from a cs      cells at consecutive offsets, starting at a
--     IsTable      a table indexed by offset holds the cells of a file, so that no access searches them
use Rattle.std.specs.Prelude.{◌≡◌, ◌≢◌, ◌<◌, ℕ, ◌+◌, nat_le, Bool, false, ◌&&◌, if◌then◌else◌, List, [], ◌∷◌, map, length, slice_set, slice_index_or}
use Rattle.lists.specs.Elements.{Each, EachPair}
use Rattle.model_registers.specs.{Cell.{Cell, no_cell}, Registers.{Place, config, block, PlacedCell, File, cell_at}}
pub use Rattle.model_registers.specs.CopiedFiles.{places_of}

pub record CellFile : Type 0 where
  pub now : File
  pub initial : File

abbrev pub KeepsPlaces : CellFile → Type 0
KeepsPlaces f = places_of f.now ≡ places_of f.initial

-- the offsets from first to last, both included
abbrev pub is_between : ℕ → ℕ → Place → Bool
is_between first last (config a) = nat_le first a && nat_le a last
is_between first last (block n a) = false

abbrev pub reset_entry : ℕ → ℕ → File → PlacedCell → PlacedCell
reset_entry first last initial e =
    if is_between first last e.place then e else record e { cell = cell_at initial e.place }

abbrev pub reset_outside : ℕ → ℕ → File → File → File
reset_outside first last initial now = map (reset_entry first last initial) now

abbrev pub file_of : List (ℕ × Cell) → File
file_of [] = []
file_of (c ∷ cs) = record { place = config c.0; cell = c.1 } ∷ file_of cs

abbrev pub HasDistinctOffsets : List (ℕ × Cell) → Type 0
HasDistinctOffsets cs = EachPair (λ c d. c.0 ≢ d.0) cs

-- cells at consecutive offsets
abbrev pub offsets_from : ℕ → List Cell → List (ℕ × Cell)
offsets_from a [] = []
offsets_from a (c ∷ cs) = (a, c) ∷ offsets_from (a + 1) cs

-- the cell that a table holds at an offset
abbrev pub table_at : List Cell → ℕ → Cell
table_at table off = slice_index_or table off no_cell

-- the table's cells at the offsets of a list, in the order of the list
abbrev pub file_from : List Cell → List (ℕ × Cell) → File
file_from table [] = []
file_from table (c ∷ cs) = record { place = config c.0; cell = table_at table c.0 } ∷ file_from table cs

-- a table after each cell of a list is stored at its offset
abbrev pub placed : List (ℕ × Cell) → List Cell → List Cell
placed [] table = table
placed (c ∷ cs) table = placed cs (slice_set table c.0 c.1)

-- a table after each cell of a list is stored at its offset, except at the offsets from first to last
abbrev pub placed_outside : ℕ → ℕ → List (ℕ × Cell) → List Cell → List Cell
placed_outside first last [] table = table
placed_outside first last (c ∷ cs) table =
    placed_outside first last cs (if nat_le first c.0 && nat_le c.0 last then table else slice_set table c.0 c.1)

-- the table is long enough for the offsets of the list, and agrees with their file at every offset
pub record IsTable (table : List Cell) (cs : List (ℕ × Cell)) : Type 0 where
  pub distinct : HasDistinctOffsets cs
  pub room : Each (λ c. c.0 < length table) cs
  pub shows : (off : ℕ) → table_at table off ≡ cell_at (file_from table cs) (config off)
