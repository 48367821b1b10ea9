-- The bytes of a region's block or of a device's own registers, computed from the patterns in a board file.
--     decode_hex n text      the bytes of hexadecimal text of 1 to n bytes
--     are_patterns_valid n p, block_cells n p      the patterns give n cells, and these cells
--     Gives t found P      a value of which P holds where the test t does, and none where it does not
use Rattle.std.specs.{Prelude.{ℕ, ◌%◌, ◌==◌, nat_le, Bool, true, false, ◌≡◌, MatchOption, ◌&&◌, List, [], ◌∷◌, length, map, slice_index, Option, Some, None, is_some, unwrap_or, Result, Ok, Err, if◌then◌else◌, bit_and}, List.{list_all, range_with_len}}
use Rattle.hex.specs.{Hex.decode_of, declared.error.FromHexError.FromHexError}
use Rattle.model_registers.specs.Cell.{Cell}
use Rattle.board_file.specs.Values.{Patterns}

abbrev pub Gives : {A : Type 0} → Bool → Option A → (A → Type 0) → Type 0
Gives t found P = MatchOption found (t ≡ false) (λ x. (t ≡ true) × P x)

abbrev pub of_size : ℕ → Result (List ℕ) FromHexError → Option (List ℕ)
of_size n (Ok bytes) = if nat_le 1 (length bytes) && nat_le (length bytes) n then Some bytes else None
of_size n (Err e) = None

abbrev pub decode_hex : ℕ → List ℕ → Option (List ℕ)
decode_hex n text = of_size n (decode_of text)

-- an absent pattern is a zero byte
abbrev pub is_pattern : ℕ → Option (List ℕ) → Bool
is_pattern n None = true
is_pattern n (Some text) = is_some (decode_hex n text)

abbrev pub decode_pattern_or_zero : ℕ → Option (List ℕ) → List ℕ
decode_pattern_or_zero n None = 0 ∷ []
decode_pattern_or_zero n (Some text) = unwrap_or (decode_hex n text) (0 ∷ [])

-- a pattern is repeated
abbrev pub repeated_byte_at : List ℕ → ℕ → ℕ
repeated_byte_at bytes i = slice_index bytes (i % length bytes)

-- no bit is in both masks
abbrev pub is_apart : List ℕ → List ℕ → ℕ → Bool
is_apart writable clearable i = bit_and (repeated_byte_at writable i) (repeated_byte_at clearable i) == 0

abbrev pub are_apart : ℕ → List ℕ → List ℕ → Bool
are_apart n writable clearable = list_all (is_apart writable clearable) (range_with_len 0 n)

abbrev pub cell : List ℕ → List ℕ → List ℕ → ℕ → Cell
cell reset writable clearable i = record {
  value = repeated_byte_at reset i;
  writable = repeated_byte_at writable i;
  clearable = repeated_byte_at clearable i;
}

abbrev pub cells : ℕ → List ℕ → List ℕ → List ℕ → List Cell
cells n reset writable clearable = map (cell reset writable clearable) (range_with_len 0 n)

abbrev pub are_patterns_valid : ℕ → Patterns → Bool
are_patterns_valid n p =
    is_pattern n p.reset && is_pattern n p.writable && is_pattern n p.clearable
    && are_apart n (decode_pattern_or_zero n p.writable) (decode_pattern_or_zero n p.clearable)

abbrev pub block_cells : ℕ → Patterns → List Cell
block_cells n p = cells n (decode_pattern_or_zero n p.reset) (decode_pattern_or_zero n p.writable) (decode_pattern_or_zero n p.clearable)
