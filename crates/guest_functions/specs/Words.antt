-- The words of configuration space, by the copied registers that they contain.
--     IsAt off w      the word at an offset is w
--     copied_byte_enables w      the byte enables of the copied bytes
use Rattle.std.specs.Prelude.{◌≡◌, ◌≤◌, ◌<◌, ℕ, ◌+◌, ◌*◌, ◌⊎◌}
use Rattle.guest_functions.specs.declared.word.Word.{Word, TheVariants.{Command, HeaderType, Base, Other}}

-- the words without copied bytes: below Command, between Status and the header type's word, above the base address
-- registers
abbrev pub IsOther : ℕ → Type 0
IsOther off = (off ≡ 0) ⊎ ((off ≡ 8) ⊎ (0x28 ≤ off))

abbrev pub IsAt : ℕ → Word → Type 0
IsAt off Command = off ≡ 4
IsAt off HeaderType = off ≡ 0x0c
IsAt off (Base reg) = (off ≡ 0x10 + 4 * reg) × (reg < 6)
IsAt off Other = IsOther off

abbrev pub copied_byte_enables : Word → ℕ
copied_byte_enables Command = 3
copied_byte_enables HeaderType = 4
copied_byte_enables (Base reg) = 15
copied_byte_enables Other = 0
