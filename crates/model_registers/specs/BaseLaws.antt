-- Reads and writes of base address registers, as arithmetic on numbers: PCI Local Bus 3.0, chapter 6.2.5.1.
--     shown      the value of a region's registers, all bytes as one number
--     word_at      the four-byte register at an index
--     rebased      a base after a write of the bits in a mask
--     rewritten      a region after a write of the four-byte register at an index
use Rattle.std.specs.Prelude.{List, [], ◌∷◌, ◌≡◌, ℕ, ◌-◌, ◌+◌, ◌*◌, ◌/◌, Bool, ◌&&◌, ◌==◌, if◌then◌else◌, ◌^◌, bit_and, bit_or, map}
use Rattle.model_registers.specs.{Registers.{read, write}, ByteEnables.{lanes, enabled_bits}, Declarations.registers_of, EndpointTable.{base_register, type_bits, base_width, BaseAddress, base_file, HasLawfulBases}}

-- the index of the region's only register or its lower half, or of its upper half
abbrev pub is_lower : ℕ → BaseAddress → Bool
is_lower reg b = reg == b.index

abbrev pub is_upper : ℕ → BaseAddress → Bool
is_upper reg b = registers_of b.kind == 2 && reg == b.index + 1

abbrev pub shown : BaseAddress → ℕ
shown b = b.base + type_bits b.kind

-- a register that belongs to no region reads 0
abbrev pub word_at : ℕ → List BaseAddress → ℕ
word_at reg [] = 0
word_at reg (b ∷ bs) = if is_lower reg b then shown b else (if is_upper reg b then shown b / 2 ^ 32 else word_at reg bs)

-- a w-bit number after a write of the bits of x that are in m
abbrev pub overwritten : ℕ → ℕ → ℕ → ℕ → ℕ
overwritten w v x m = bit_or (bit_and v (2 ^ w - 1 - m)) (bit_and x m)

-- of the enabled bits, those at and above the size are written
abbrev pub rebased : BaseAddress → ℕ → ℕ → ℕ
rebased b x enabled = overwritten (base_width b.kind) b.base x (bit_and (2 ^ base_width b.kind - b.size) enabled)

abbrev pub rewritten : ℕ → List Bool → ℕ → BaseAddress → BaseAddress
rewritten reg enables x b = record b {
  base = if is_lower reg b then rebased b x (enabled_bits enables)
      else (if is_upper reg b then rebased b (x * 2 ^ 32) (enabled_bits enables * 2 ^ 32) else b.base);
}

-- each half of a base is written separately and takes effect at once
abbrev pub WritesOfBases : Type 0
WritesOfBases = (bs : List BaseAddress) → HasLawfulBases bs → (enables x reg : ℕ)
    → write (lanes enables) x (base_register reg) (base_file bs) ≡ base_file (map (rewritten reg (lanes enables) x) bs)

abbrev pub ReadsOfBases : Type 0
ReadsOfBases = (bs : List BaseAddress) (enables reg : ℕ)
    → read (base_file bs) (base_register reg) (lanes enables) ≡ bit_and (word_at reg bs) (enabled_bits (lanes enables))
