-- Lists of cells with offsets, as files.
use Rattle.std.proofs.Common.{◌≡◌, ℕ, ◌+◌, ◌-◌, ◌/◌, ◌%◌, ◌<◌, List, [], ◌∷◌, ◌++◌, refl, ap, append_assoc, arith}
use Rattle.model_registers.specs.{Cell.Cell, Registers.{config, File, field, cells_from}}
use Rattle.config_bytes.specs.CellFile.{file_of}

pub file_of-append : (xs ys : List (ℕ × Cell)) → file_of (xs ++ ys) ≡ file_of xs ++ file_of ys
file_of-append [] ys = refl
file_of-append (x ∷ xs) ys = ap (λ (es : File). record { place = config x.0; cell = x.1 } ∷ es) (file_of-append xs ys)

-- the lowest byte of a register that is left is pushed, and the rest of it is left
pub pushed_byte : (old new : List (ℕ × Cell)) (a w v rw w1c : ℕ) (cell : Cell) (all : File) → 0 < w
    → cell ≡ record { value = v % 256; writable = rw % 256; clearable = w1c % 256 } → new ≡ old ++ (a, cell) ∷ []
    → file_of old ++ field (config a) w v rw w1c ≡ all → file_of new ++ field (config (a + 1)) (w - 1) (v / 256) (rw / 256) (w1c / 256) ≡ all
pushed_byte old new a w v rw w1c cell all some is grown before = grind (arith, file_of-append, append_assoc)

pub pushed_cell : (old new : List (ℕ × Cell)) (at : ℕ) (cell : Cell) (left rest : List Cell) (all : File) → left ≡ cell ∷ rest → new ≡ old ++ (at, cell) ∷ []
    → file_of old ++ cells_from (config at) left ≡ all → file_of new ++ cells_from (config (at + 1)) rest ≡ all
pushed_cell old new at cell left rest all is grown before = grind (arith, file_of-append, append_assoc)

-- a list to which three files were appended, one after the other
pub appended : (none first second all : List (ℕ × Cell)) (h i p : File) → none ≡ []
    → file_of first ≡ file_of none ++ h → file_of second ≡ file_of first ++ i → file_of all ≡ file_of second ++ p
    → file_of all ≡ h ++ (i ++ p)
appended none first second all h i p empty a b c = grind (arith, append_assoc)
