-- Marks in place of values.
--     mark start      a text that says where a place begins
--     quoted      a text as TOML writes it
--     are_ordered_within from len places      the places lie in a text of this length, from an offset on, each after the
--                                       one before
--     replace_with_marks text from places      the text from an offset on, with its mark in each of these places
--     is_mark_of_place_at      the value is the mark of a place
use Rattle.std.specs.{Prelude.{ℕ, ◌-◌, codes, Bool, ◌&&◌, nat_le, nat_lt, List, [], ◌∷◌, ◌++◌, take, drop, decimal, Option, option_and_then, false}, Option.option_map_or, Str.bytes_eq}
use Rattle.toml.specs.Data.{Data, as_str}
use Rattle.diagnostics.specs.declared.scanning.Extent.{Extent}

abbrev pub mark : ℕ → List ℕ
mark start = codes "@" ++ decimal start

-- 34 is a quotation mark
abbrev pub quoted : List ℕ → List ℕ
quoted t = 34 ∷ (t ++ 34 ∷ [])

abbrev pub are_ordered_within : ℕ → ℕ → List Extent → Bool
are_ordered_within from len [] = nat_le from len
are_ordered_within from len (e ∷ es) = nat_le from e.start && nat_lt e.start e.end && are_ordered_within e.end len es

abbrev pub replace_with_marks : List ℕ → ℕ → List Extent → List ℕ
replace_with_marks text from [] = drop from text
replace_with_marks text from (e ∷ es) = take (e.start - from) (drop from text) ++ (quoted (mark e.start) ++ replace_with_marks text e.end es)

abbrev pub is_mark_of_place_at : ℕ → Option Data → Bool
is_mark_of_place_at start found = option_map_or (bytes_eq (mark start)) (option_and_then as_str found) false
