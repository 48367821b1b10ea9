-- What a run in pieces holds of its lines, how far it came, and where it stopped.
--     Pending      bytes that were read and are not run yet, and whether a long line's bytes before them were passed over
--     IsBefore long before      what was read of the first line before them
--     rest_of n text      the last n bytes of a text
--     with_more text more      a text and the longer one behind it, if there is one
--     Reaches      the lines of a text that ran, and what is left of it
--     StopsWithin      a failed write or flush at a line that LF ends
--     IsStoppedIn      a failed write or flush, of what was read of a script
--     LacksWithin, IsLackingIn      memory is out for a line: within a text, and of what was read of a script
use Rattle.std.specs.{Prelude.{◌≡◌, ◌⊎◌, ◌++◌, ◌-◌, ℕ, Bool, true, false, List, [], ◌∷◌, Option, None, Some, take, drop, length, IsTrue}, Io.{StartsWith, KnownBytes.{Appends, Consumes, IsAtEnd}}}
use Rattle.lists.specs.Elements.{Each}
use Rattle.model_guests.specs.{Text.{Text, lines, text_of_lines}, Grammar.is_long, LineRuns.{Protocol, output, after_lines, HasNoEnd, IsStopped}}

pub record Pending : Type 0 where
  pub text : Text
  pub long : Bool

-- nothing, or more than 200 bytes that were passed over: all long lines are alike
abbrev pub IsBefore : Bool → Text → Type 0
IsBefore true before = IsTrue (is_long before)
IsBefore false before = before ≡ []

abbrev pub rest_of : ℕ → Text → Text
rest_of n text = drop (length text - n) text

abbrev pub with_more : Text → Option Text → Text
with_more text None = text
with_more text (Some more) = text ++ more

-- the lines `whole` ran, and `before` and `rest` are left of the text
pub record Reaches {S : Type 0} (p : Protocol S) (s : S) (text rest : Text) (long : Bool) (old new : Option Text)
    (end : S) : Type 0 where
  pub whole : List Text
  pub before : Text
  pub each_line : Each HasNoEnd whole
  pub clean : HasNoEnd before
  pub passed : IsBefore long before
  pub in_order : text ≡ text_of_lines whole ++ (before ++ rest)
  pub written : Appends old new (output p s whole)
  pub events : end ≡ after_lines p s whole

-- the lines `whole` were answered, and of the answer to the next line a beginning was written
pub record StopsWithin {S : Type 0} (p : Protocol S) (s : S) (text : Text) (old new : Option Text) (end : S)
    : Type 0 where
  pub whole : List Text
  pub line : Text
  pub after : Text
  pub part : Text
  pub each_line : Each HasNoEnd whole
  pub last_line : HasNoEnd line
  pub in_order : text ≡ text_of_lines whole ++ (line ++ 10 ∷ after)
  pub begins : StartsWith (p.writes (after_lines p s whole) line) part
  pub written : Appends old new (output p s whole ++ part)
  pub events : end ≡ p.next (after_lines p s whole) line

-- no event ran of a line that was not read up to its LF, or to the end of the script
pub record IsStoppedIn {S : Type 0} (p : Protocol S) (s : S) (script : Text) (old_rest new_rest old new : Option Text)
    (end : S) : Type 0 where
  pub read : Text
  pub consumed : Consumes old_rest new_rest read
  pub stop : IsStopped p s (lines script) old new end
  pub in_time : StartsWith read (text_of_lines (stop.whole ++ take 1 stop.rest)) ⊎ IsAtEnd new_rest

-- ---- no memory for a line

-- the lines `whole` were answered, and no event of the next line ran
pub record LacksWithin {S : Type 0} (p : Protocol S) (s : S) (text : Text) (old new : Option Text) (end : S)
    : Type 0 where
  pub whole : List Text
  pub line : Text
  pub after : Text
  pub each_line : Each HasNoEnd whole
  pub last_line : HasNoEnd line
  pub in_order : text ≡ text_of_lines whole ++ (line ++ 10 ∷ after)
  pub written : Appends old new (output p s whole)
  pub events : end ≡ after_lines p s whole

-- the outputs of the lines `whole` were written whole, and nothing of the next line's, whose event did not run
pub record IsLackingIn {S : Type 0} (p : Protocol S) (s : S) (script : Text) (old_rest new_rest old new : Option Text)
    (end : S) : Type 0 where
  pub read : Text
  pub consumed : Consumes old_rest new_rest read
  pub whole : List Text
  pub line : Text
  pub rest : List Text
  pub in_order : lines script ≡ whole ++ line ∷ rest
  pub in_time : StartsWith read (text_of_lines (whole ++ line ∷ [])) ⊎ IsAtEnd new_rest
  pub written : Appends old new (output p s whole)
  pub events : end ≡ after_lines p s whole
