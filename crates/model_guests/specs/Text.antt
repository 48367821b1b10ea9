-- Texts as bytes, split into lines and words.
--     lines, words      the parts of a text that LF terminates; the parts of a line between space, tab and CR
--     ended, text_of_lines      a line followed by LF; several lines, each followed by LF
use Rattle.std.specs.Prelude.{List, [], ◌∷◌, ℕ, Bool, ◌==◌, ◌++◌, if◌then◌else◌, length, not, ◌||◌, filter, flat_map}

abbrev pub Text : Type 0
Text = List ℕ

abbrev pub onto : ℕ → List Text → List Text
onto c [] = (c ∷ []) ∷ []
onto c (l ∷ ls) = (c ∷ l) ∷ ls

-- the parts of a text that a byte of this kind terminates; a last part without one counts if it isn't empty
abbrev pub pieces : (ℕ → Bool) → Text → List Text
pieces ends [] = []
pieces ends (c ∷ cs) = if ends c then [] ∷ pieces ends cs else onto c (pieces ends cs)

-- LF
abbrev pub ends_line : ℕ → Bool
ends_line c = c == 10

abbrev pub lines : Text → List Text
lines text = pieces ends_line text

abbrev pub ended : Text → Text
ended l = l ++ 10 ∷ []

abbrev pub text_of_lines : List Text → Text
text_of_lines ls = flat_map (λ l. l ++ 10 ∷ []) ls

-- space, tab or CR
abbrev pub is_blank : ℕ → Bool
is_blank c = c == 32 || c == 9 || c == 13

abbrev pub words : Text → List Text
words line = filter (λ w. not (length w == 0)) (pieces is_blank line)
