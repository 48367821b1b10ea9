-- Places that follow each other, and the text with their marks.
use Rattle.std.proofs.{Common.{◌≡◌, ◌≤◌, ◌<◌, ℕ, ◌+◌, ◌-◌, true, List, [], ◌∷◌, ◌++◌, length, get_or, drop, take, append_assoc, arith}, lemmas.{Bool.leb-true, List.drop_more}}
use Rattle.diagnostics.specs.{declared.scanning.Extent.Extent, Marks.{mark, quoted, are_ordered_within, replace_with_marks}}

pub record Front (from len : ℕ) (e : Extent) (es : List Extent) : Type 0 where
  pub begins : from ≤ e.start
  pub goes_on : e.start < e.end
  pub within : e.end ≤ len
  pub rest : are_ordered_within e.end len es ≡ true

within : (from len : ℕ) (es : List Extent) → are_ordered_within from len es ≡ true → from ≤ len
within from len [] h = leb-true from len h
within from len (e ∷ es) h = grind (arith, within e.end len es)

-- the place at an index, and those after it
pub front_at : (from len : ℕ) (ps : List Extent) (i : ℕ) (d : Extent) → i < length ps → are_ordered_within from len (drop i ps) ≡ true → Front from len (get_or ps i d) (drop (i + 1) ps)
front_at from len ps i d there h = grind (arith, drop_more, within)

-- places that follow each other from an offset on do so from each offset before it
pub from_earlier : (from later len : ℕ) (es : List Extent) → from ≤ later → are_ordered_within later len es ≡ true → are_ordered_within from len es ≡ true
from_earlier from later len [] before h = grind arith
from_earlier from later len (e ∷ es) before h = grind arith

-- the bytes so far, with the part before a place and its mark, and the rest
pub one_more : (text bytes part new : List ℕ) (from : ℕ) (e : Extent) (es : List Extent) (whole : List ℕ)
    → part ≡ take (e.start - from) (drop from text) → new ≡ (bytes ++ part) ++ quoted (mark e.start)
    → bytes ++ replace_with_marks text from (e ∷ es) ≡ whole → new ++ replace_with_marks text e.end es ≡ whole
one_more text bytes part new from e es whole is_part is_new so_far = grind (arith, append_assoc)
