-- The text that a check of a board file writes.
--     IsChecked board fault old new      the fault is that of the file or its board, and a text was written after what was
--         written before
--     IsCheckedInPart old new      so was a beginning of a text
use Rattle.std.specs.{Prelude.Option, Io.KnownBytes.Appends}
use Rattle.model_guests.specs.Text.{Text}
use Rattle.streams.specs.Ends.{AppendsPart}
use Rattle.session.specs.declared.opening.OpenFault.{OpenFault}
use Rattle.board_told.specs.Checking.{IsFaultOf}

pub record IsChecked (board : Text) (fault : Option OpenFault) (old new : Option Text) : Type 0 where
  pub is_fault : IsFaultOf board fault
  pub text : Text
  pub written : Appends old new text

abbrev pub IsCheckedInPart : (old new : Option Text) → Type 0
IsCheckedInPart old new = (text : Text) × AppendsPart old new text
