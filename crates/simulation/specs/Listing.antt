-- The report that is written for the board that a board file declares.
--     IsListed form board old new      the report of the board that some bytes declare, once it is set up, was written, after
--         what was written before
--     IsListedInPart form board old new      so was a beginning of it
use Rattle.std.specs.{Prelude.Option, Io.KnownBytes.Appends}
use Rattle.streams.specs.Ends.{AppendsPart}
use Rattle.model_guests.specs.{Text.Text, World.World}
use Rattle.session.specs.{Files.IsSetUp, declared.questions.ReportForm.ReportForm}
use Rattle.board_told.specs.Listing.{report_in}

pub record IsListed (form : ReportForm) (board : Text) (old new : Option Text) : Type 0 where
  pub world : World
  pub set_up : IsSetUp board world
  pub written : Appends old new (report_in form world)

pub record IsListedInPart (form : ReportForm) (board : Text) (old new : Option Text) : Type 0 where
  pub world : World
  pub set_up : IsSetUp board world
  pub part : AppendsPart old new (report_in form world)
