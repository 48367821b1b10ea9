-- The four byte enables of a cycle, lowest byte first: PCI Local Bus 3.0, chapter 3.2.2.
--     lanes enables      the four enables, from bits 0 to 3 of a number
--     enabled_bytes ons n      a number with each disabled byte set to 0
--     enables_of off w      the enables of w bytes from an offset on, in the word that contains the offset
--     to_lanes off v, from_lanes off w word      shifts a number into those lanes, and out of them
--     word_of p      the place of the word that contains a place
--     enabled_bits enables      a mask of the enabled bytes
use Rattle.std.specs.{Prelude.{◌≡◌, ◌≤◌, ℕ, ◌+◌, ◌-◌, ◌*◌, ◌/◌, ◌%◌, ◌^◌, ◌==◌, ◌⊎◌, if◌then◌else◌, Bool, List, [], ◌∷◌}, Int.bit_at}
use Rattle.model_registers.specs.Registers.{Place, config, block}

abbrev pub is_enabled : ℕ → ℕ → Bool
is_enabled enables lane = bit_at enables lane == 1

abbrev pub lanes : ℕ → List Bool
lanes enables = is_enabled enables 0 ∷ is_enabled enables 1 ∷ is_enabled enables 2 ∷ is_enabled enables 3 ∷ []

abbrev pub enabled_bytes : List Bool → ℕ → ℕ
enabled_bytes [] n = 0
enabled_bytes (on ∷ ons) n = (if on then n % 256 else 0) + 256 * enabled_bytes ons (n / 256)

-- an access is 1, 2 or 4 bytes wide, at a multiple of its width
abbrev pub IsWidth : ℕ → Type 0
IsWidth w = (w ≡ 1) ⊎ ((w ≡ 2) ⊎ (w ≡ 4))

-- the w bytes from an offset on lie in one word
abbrev pub LiesInWord : ℕ → ℕ → Type 0
LiesInWord off w = off % 4 + w ≤ 4

abbrev pub enables_of : ℕ → ℕ → ℕ
enables_of off w = (2 ^ w - 1) * 2 ^ (off % 4)

abbrev pub to_lanes : ℕ → ℕ → ℕ
to_lanes off v = v * 256 ^ (off % 4) % 2 ^ 32

abbrev pub from_lanes : ℕ → ℕ → ℕ → ℕ
from_lanes off w word = word / 256 ^ (off % 4) % 256 ^ w

abbrev pub word_of : Place → Place
word_of (config a) = config (a / 4 * 4)
word_of (block n a) = block n (a / 4 * 4)

abbrev pub enabled_bits : List Bool → ℕ
enabled_bits [] = 0
enabled_bits (on ∷ ons) = (if on then 255 else 0) + 256 * enabled_bits ons
