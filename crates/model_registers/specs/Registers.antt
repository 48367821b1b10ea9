-- A register file: the cells of one function, by place. A place without a cell reads 0 and ignores writes. Numbers are
-- little-endian: PCI Local Bus 3.0, chapter 6.1.
--     Place      a configuration offset, or an offset in a region's block
--     File      places with their cells
--     cell_at file p, changed f p file      the cell at a place; the file with that cell changed by f
--     read file p enables, write enables v p file      reads and writes of numbers, byte by byte, of the enabled bytes
use Rattle.std.specs.Prelude.{List, [], ◌∷◌, ℕ, zero, suc, ◌+◌, ◌*◌, ◌/◌, ◌%◌, Bool, true, false, ◌&&◌, ◌==◌, if◌then◌else◌, replicate}
use Rattle.model_registers.specs.Cell.{Cell, written, raised, no_cell}

pub data Place : Type 0 where
  config : ℕ → Place
  block : ℕ → ℕ → Place

abbrev pub place_eq : Place → Place → Bool
place_eq (config a) (config b) = a == b
place_eq (block n a) (block m b) = n == m && a == b
place_eq (config a) (block m b) = false
place_eq (block n a) (config b) = false

abbrev pub after : Place → Place
after (config a) = config (a + 1)
after (block n a) = block n (a + 1)

pub record PlacedCell : Type 0 where
  pub place : Place
  pub cell : Cell

abbrev pub File : Type 0
File = List PlacedCell

abbrev pub cell_at : File → Place → Cell
cell_at [] p = no_cell
cell_at (e ∷ es) p = if place_eq e.place p then e.cell else cell_at es p

abbrev pub changed : (Cell → Cell) → Place → File → File
changed f p [] = []
changed f p (e ∷ es) = (if place_eq e.place p then record e { cell = f e.cell } else e) ∷ changed f p es

-- the number in the bytes from p on, lowest first; disabled bytes count as 0
abbrev pub read : File → Place → List Bool → ℕ
read file p [] = 0
read file p (on ∷ ons) = (if on then (cell_at file p).value else 0) + 256 * read file (after p) ons

-- each enabled byte of v is written to its cell
abbrev pub write : List Bool → ℕ → Place → File → File
write [] v p file = file
write (on ∷ ons) v p file = write ons (v / 256) (after p) (if on then changed (written (v % 256)) p file else file)

abbrev pub raise : ℕ → Place → File → File
raise m p file = changed (raised m) p file

-- the enables of an access of w bytes
abbrev pub all_bytes : ℕ → List Bool
all_bytes w = replicate w true

abbrev pub number : File → Place → ℕ → ℕ
number file p w = read file p (all_bytes w)

abbrev pub all_ones : ℕ → ℕ
all_ones zero = 0
all_ones (suc w) = 255 + 256 * all_ones w

-- w cells from p on: the bytes of the value, the writable bits and the write-1-to-clear bits, lowest first
abbrev pub field : Place → ℕ → ℕ → ℕ → ℕ → File
field p zero v rw w1c = []
field p (suc w) v rw w1c =
    record { place = p; cell = record { value = v % 256; writable = rw % 256; clearable = w1c % 256 } }
    ∷ field (after p) w (v / 256) (rw / 256) (w1c / 256)

-- the cells at consecutive places, starting at p
abbrev pub cells_from : Place → List Cell → File
cells_from p [] = []
cells_from p (c ∷ cs) = record { place = p; cell = c } ∷ cells_from (after p) cs

abbrev pub offset_of : Place → ℕ
offset_of (config a) = a
offset_of (block n a) = a

-- the cells of a file as cells of a region's block, at the same offsets
abbrev pub in_region : ℕ → File → File
in_region n [] = []
in_region n (e ∷ es) = record e { place = block n (offset_of e.place) } ∷ in_region n es
