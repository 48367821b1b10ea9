-- Laws for building a list of offsets with cells: its register file, and that its offsets are distinct.
--     IsWithin first end cs      each offset is in a range, whose end is excluded
use Rattle.std.specs.Prelude.{◌≡◌, ◌≢◌, ◌≤◌, ◌<◌, ℕ, ◌+◌, List, [], ◌∷◌, ◌++◌, length}
use Rattle.lists.specs.Elements.{Each}
use Rattle.model_registers.specs.{Cell.Cell, Registers.{config, cells_from}, FileLaws.IsConfigFile}
use Rattle.config_bytes.specs.CellFile.{HasDistinctOffsets, file_of, offsets_from}

abbrev pub IsWithin : ℕ → ℕ → List (ℕ × Cell) → Type 0
IsWithin first end cs = Each (λ c. (first ≤ c.0) × (c.0 < end)) cs

-- the file of a concatenated list, and of cells at consecutive offsets
abbrev pub FileOfAppend : Type 0
FileOfAppend = (xs ys : List (ℕ × Cell)) → file_of (xs ++ ys) ≡ file_of xs ++ file_of ys

abbrev pub FileOfOffsets : Type 0
FileOfOffsets = (a : ℕ) (cs : List Cell) → file_of (offsets_from a cs) ≡ cells_from (config a) cs

-- the file of any such list has cells at configuration offsets only
abbrev pub FileOfConfig : Type 0
FileOfConfig = (cs : List (ℕ × Cell)) → IsConfigFile (file_of cs)

-- a range can be widened, and a concatenated list is in a range if its parts are
abbrev pub WithinWider : Type 0
WithinWider = (a b c d : ℕ) (cs : List (ℕ × Cell)) → c ≤ a → b ≤ d → IsWithin a b cs → IsWithin c d cs

abbrev pub WithinAppend : Type 0
WithinAppend = (a b : ℕ) (xs ys : List (ℕ × Cell)) → IsWithin a b xs → IsWithin a b ys → IsWithin a b (xs ++ ys)

abbrev pub WithinOffsets : Type 0
WithinOffsets = (a : ℕ) (cs : List Cell) → IsWithin a (a + length cs) (offsets_from a cs)

-- one list may lie below an offset and the other from the offset on, or the reverse
abbrev pub DistinctAppend : Type 0
DistinctAppend = (a b c d : ℕ) (xs ys : List (ℕ × Cell)) → b ≤ c → IsWithin a b xs → IsWithin c d ys
    → HasDistinctOffsets xs → HasDistinctOffsets ys → HasDistinctOffsets (xs ++ ys) × HasDistinctOffsets (ys ++ xs)

abbrev pub DistinctPush : Type 0
DistinctPush = (cs : List (ℕ × Cell)) (c : ℕ × Cell) → Each (λ d. d.0 ≢ c.0) cs
    → HasDistinctOffsets cs → HasDistinctOffsets (cs ++ c ∷ [])

abbrev pub DistinctOffsets : Type 0
DistinctOffsets = (a : ℕ) (cs : List Cell) → HasDistinctOffsets (offsets_from a cs)
