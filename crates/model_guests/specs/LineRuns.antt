-- Runs of lines through anything that answers one line at a time, in the pieces in which they are read.
--     Protocol      the output of a line, and the state after it
--     output, after_lines      the same along lines
--     IsCut      a failed read ended the run
--     IsStopped      a failed write or flush ended it
--     CutIsBeginning, StoppedIsBeginning      in either case a prefix of the output was written
--     OutputAlong, AfterAlong      the output of pieces and the state after them, one after the other
--     LinesOfPieces      complete lines followed by more text are the first lines of the whole
use Rattle.std.specs.{Prelude.{◌≡◌, ◌++◌, List, [], ◌∷◌, Option, take, IsFalse}, List.list_any, Io.{StartsWith, KnownBytes.{Appends, Consumes}}}
use Rattle.lists.specs.Elements.{Each}
use Rattle.model_guests.specs.Text.{Text, ends_line, lines, text_of_lines}

pub record Protocol (S : Type 0) : Type 0 where
  pub writes : S → Text → Text
  pub next : S → Text → S

abbrev pub output : {S : Type 0} → Protocol S → S → List Text → Text
output p s [] = []
output p s (line ∷ more) = p.writes s line ++ output p (p.next s line) more

abbrev pub after_lines : {S : Type 0} → Protocol S → S → List Text → S
after_lines p s [] = s
after_lines p s (line ∷ more) = after_lines p (p.next s line) more

abbrev pub HasNoEnd : Text → Type 0
HasNoEnd line = IsFalse (list_any ends_line line)

-- the lines read up to their LF ran, and their whole output was written; the next line was read only in part
pub record IsCut {S : Type 0} (p : Protocol S) (s : S) (old_rest new_rest old new : Option Text) (end : S)
    : Type 0 where
  pub whole : List Text
  pub part : Text
  pub each_line : Each HasNoEnd whole
  pub last_line : HasNoEnd part
  pub read : Consumes old_rest new_rest (text_of_lines whole ++ part)
  pub written : Appends old new (output p s whole)
  pub events : end ≡ after_lines p s whole

abbrev pub first_output : {S : Type 0} → Protocol S → S → List Text → Text
first_output p s [] = []
first_output p s (line ∷ more) = p.writes s line

-- the outputs of the lines `whole` were written completely, and a prefix of the next line's;
-- the events of these lines and of that next one ran
pub record IsStopped {S : Type 0} (p : Protocol S) (s : S) (lines : List Text) (old new : Option Text) (end : S)
    : Type 0 where
  pub whole : List Text
  pub rest : List Text
  pub part : Text
  pub in_order : lines ≡ whole ++ rest
  pub begins : StartsWith (first_output p (after_lines p s whole) rest) part
  pub written : Appends old new (output p s whole ++ part)
  pub events : end ≡ after_lines p s (whole ++ take 1 rest)

-- ---- the written output

pub record WritesBeginning {S : Type 0} (p : Protocol S) (s : S) (lines : List Text) (old new : Option Text)
    : Type 0 where
  pub text : Text
  pub written : Appends old new text
  pub begins : StartsWith (output p s lines) text

abbrev pub StoppedIsBeginning : {S : Type 0} → Protocol S → Type 0
StoppedIsBeginning {S} p = (s : S) (ls : List Text) (old new : Option Text) (end : S)
    → IsStopped p s ls old new end
    → WritesBeginning p s ls old new

-- of the output of the part that was read
abbrev pub CutIsBeginning : {S : Type 0} → Protocol S → Type 0
CutIsBeginning {S} p = (s : S) (old_rest new_rest old new : Option Text) (end : S)
    → IsCut p s old_rest new_rest old new end
    → (read : Text) × Consumes old_rest new_rest read × WritesBeginning p s (lines read) old new

-- ---- pieces

abbrev pub OutputAlong : {S : Type 0} → Protocol S → Type 0
OutputAlong {S} p = (s : S) (ls ms : List Text)
    → output p s (ls ++ ms) ≡ output p s ls ++ output p (after_lines p s ls) ms

abbrev pub AfterAlong : {S : Type 0} → Protocol S → Type 0
AfterAlong {S} p = (s : S) (ls ms : List Text)
    → after_lines p s (ls ++ ms) ≡ after_lines p (after_lines p s ls) ms

abbrev pub LinesOfPieces : Type 0
LinesOfPieces = (ls : List Text) → Each HasNoEnd ls → (rest : Text)
    → lines (text_of_lines ls ++ rest) ≡ ls ++ lines rest
