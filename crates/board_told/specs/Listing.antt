-- What a report says of the world that a board file declares.
--     report_in form w      the report of a world in a form
--     IsReadyOf bytes r guests      r is the board of the world that the bytes declare, set up, and guests are its guests
use Rattle.std.specs.Prelude.{◌≡◌, List}
use Rattle.model_guests.specs.{Text.Text, World.{Guest, World}}
use Rattle.window_packing.specs.Readies.{ReadyBoard, board_below, IsReady}
use Rattle.session.specs.Files.{IsSetUp}
use Rattle.model_handoff.specs.{Report.{report}, FoundReport.{IsSetUpOf}}
use Rattle.json_texts.specs.ReportValue.{report_json_text}
use Rattle.session.specs.declared.questions.ReportForm.{ReportForm, TheVariants.{Lines, Json}}

abbrev pub report_in : ReportForm → World → Text
report_in Lines w = report w
report_in Json w = report_json_text w

-- of_world takes what the type of a board that is set up promises
pub record IsReadyOf (bytes : Text) (r : ReadyBoard) (guests : List Guest) : Type 0 where
  pub world : World
  pub set_up : IsSetUp bytes world
  pub board : board_below r.host ≡ world.board
  pub of_world : IsReady r → IsSetUpOf (record { functions = r.table; plan = r.plan; guests = guests }) world
