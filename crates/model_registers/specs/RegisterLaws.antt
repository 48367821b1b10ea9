-- Laws of register files: PCI Local Bus 3.0, chapter 6.1.
--     ChangeAtPlace      changing one cell affects reads of its place only
--     FieldReads, FieldWrites      a multi-byte register reads its value and is written under its mask
--     merged      the value of such a register after a write
--     EnabledFieldReads, EnabledFieldWrites      the same laws with byte enables
use Rattle.std.specs.Prelude.{List, Bool, length, ◌≡◌, ℕ, ◌-◌, ◌<◌, bit_and, bit_or, ◌%◌, if◌then◌else◌, ◌^◌, ◌++◌}
use Rattle.model_registers.specs.{Cell.{Cell, no_cell}, Registers.{Place, config, place_eq, File, cell_at, changed, read, write, all_bytes, number, field}, ByteEnables.enabled_bits}

-- changing one cell affects reads of its place only
abbrev pub ChangeAtPlace : Type 0
ChangeAtPlace = (f : Cell → Cell) → f no_cell ≡ no_cell → (file : File) (p q : Place)
    → cell_at (changed f p file) q ≡ (if place_eq p q then f (cell_at file q) else cell_at file q)

-- the cells of a register read its value
abbrev pub FieldReads : Type 0
FieldReads = (w a v rw w1c : ℕ) (rest : File) → number (field (config a) w v rw w1c ++ rest) (config a) w ≡ v % 256 ^ w

-- a w-byte register after a write of x: its writable bits come from x, and all others stay
abbrev pub merged : ℕ → ℕ → ℕ → ℕ → ℕ
merged w v x rw = bit_or (bit_and v (256 ^ w - 1 - rw)) (bit_and x rw)

abbrev pub FieldWrites : Type 0
FieldWrites = (w a v rw x : ℕ) → rw < 256 ^ w
    → write (all_bytes w) x (config a) (field (config a) w v rw 0) ≡ field (config a) w (merged w v x rw) rw 0

-- with byte enables: a read returns the enabled bytes, and a write sets the writable bits of the enabled bytes
abbrev pub EnabledFieldReads : Type 0
EnabledFieldReads = (enables : List Bool) (a v rw w1c : ℕ) (rest : File)
    → read (field (config a) (length enables) v rw w1c ++ rest) (config a) enables ≡ bit_and v (enabled_bits enables)

abbrev pub EnabledFieldWrites : Type 0
EnabledFieldWrites = (enables : List Bool) (a v rw x : ℕ) → rw < 256 ^ length enables
    → write enables x (config a) (field (config a) (length enables) v rw 0)
    ≡ field (config a) (length enables) (merged (length enables) v x (bit_and rw (enabled_bits enables))) rw 0
