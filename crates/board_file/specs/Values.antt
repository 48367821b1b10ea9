-- The values in a table of a board file. If a key is absent or its value has the wrong type, it reads as 0, true, an empty text
-- or no tables.
--     number_or, number, boolean_or_true, text_at, text, values, tables, table_at      the value at a key
--     Patterns, patterns      the patterns of a block's bytes
use Rattle.std.specs.{Prelude.{ℕ, ℤ, pos, codes, Bool, true, List, [], Option, unwrap_or, option_and_then}, List.filter_map}
use Rattle.toml.specs.Data.{Data, no_items, Members, no_members, get_member, as_integer, as_bool, as_str, as_table, as_array}
use Rattle.board_file.specs.Schema.{list_of}

-- an integer, or another value in place of 0
abbrev pub number_or : ℤ → List ℕ → Members → ℤ
number_or n k ms = unwrap_or (option_and_then as_integer (get_member k ms)) n

abbrev pub number : List ℕ → Members → ℤ
number k ms = number_or (pos 0) k ms

abbrev pub boolean_or_true : List ℕ → Members → Bool
boolean_or_true k ms = unwrap_or (option_and_then as_bool (get_member k ms)) true

abbrev pub text_at : List ℕ → Members → Option (List ℕ)
text_at k ms = option_and_then as_str (get_member k ms)

abbrev pub text : List ℕ → Members → List ℕ
text k ms = unwrap_or (text_at k ms) []

-- the values of an array
abbrev pub values : List ℕ → Members → List Data
values k ms = list_of (unwrap_or (option_and_then as_array (get_member k ms)) no_items)

-- the tables of an array
abbrev pub tables : List ℕ → Members → List Members
tables k ms = filter_map as_table (values k ms)

abbrev pub table_at : List ℕ → Members → Members
table_at k ms = unwrap_or (option_and_then as_table (get_member k ms)) no_members

-- the patterns of a block's bytes
pub record Patterns : Type 0 where
  pub reset : Option (List ℕ)
  pub writable : Option (List ℕ)
  pub clearable : Option (List ℕ)

abbrev pub patterns : Members → Patterns
patterns ms = record {
  reset = text_at (codes "reset") ms;
  writable = text_at (codes "rw") ms;
  clearable = text_at (codes "w1c") ms;
}
