-- What a run did of its lines, by how it ended.
--     Ends      at the ends of a run: what there was to read and what is left of it, what was written before and after,
--         and what was flushed
--     ends      these, one after the other
--     IsWhole p s end at      all lines were read, answered, written and flushed
--     Runs p s end at result      what a run from s to `end` did
use Rattle.std.specs.{Prelude.{◌≡◌, Option, Result, Ok, Err}, Option.ForSome, Io.KnownBytes.{Appends, IsAtEnd}}
use Rattle.model_guests.specs.{Text.{Text, lines}, LineRuns.{Protocol, output, after_lines, IsCut}}
use Rattle.lines.specs.{declared.runs.RunFault.{RunFault, TheVariants.{Read, Write, Memory}}, Pieces.{IsStoppedIn, IsLackingIn}}

-- of an end whose bytes are known
pub record Ends : Type 0 where
  pub script : Option Text
  pub unread : Option Text
  pub before : Option Text
  pub after : Option Text
  pub flushed : Option Text

abbrev pub ends : (script unread before after flushed : Option Text) → Ends
ends script unread before after flushed = record {
  script = script;
  unread = unread;
  before = before;
  after = after;
  flushed = flushed;
}

pub record IsWhole {S : Type 0} (p : Protocol S) (s end : S) (at : Ends) : Type 0 where
  pub read : IsAtEnd at.unread
  pub output : ForSome at.script (λ script. Appends at.before at.after (output p s (lines script)))
  pub events : ForSome at.script (λ script. end ≡ after_lines p s (lines script))
  pub flushed : at.flushed ≡ at.after

-- After a failed read the lines that were read up to their line feeds ran, and no part of a line. A failed write or
-- flush ends a run within what some line writes. Where memory is out for a line, those before it ran.
abbrev pub Runs : {S T : Type 0} → Protocol S → (s end : S) → Ends → Result T RunFault → Type 0
Runs p s end at (Ok done) = IsWhole p s end at
Runs p s end at (Err Read) = IsCut p s at.script at.unread at.before at.after end
Runs p s end at (Err Write) =
    ForSome at.script (λ script. IsStoppedIn p s script at.script at.unread at.before at.after end)
Runs p s end at (Err Memory) =
    ForSome at.script (λ script. IsLackingIn p s script at.script at.unread at.before at.after end)
