-- The report and the check of a board file, as C receives them.
--     IsReportIn form board before after old new n      the report of a file in a form is put into a buffer, and its length is told,
--         or n is the number of why not
--     IsCheckOf board n      n is the number that refuses a board, or 0
use Rattle.std.specs.{Prelude.{◌≡◌, ◌≢◌, ◌<◌, ◌≤◌, ◌⊎◌, ℕ, length, Option}, Option.option_map_or}
use Rattle.model_guests.specs.{Text.Text, World.World}
use Rattle.session.specs.{Files.{Refuses, Breaks, IsSetUp}, declared.{opening.OpenFault.OpenFault, questions.ReportForm.ReportForm}, Faults.number_of}
use Rattle.board_told.specs.{Checking.IsFaultOf, Listing.report_in}
use Rattle.pciguest_c.specs.TextsTold.{at_front}

pub record IsReportIn (form : ReportForm) (board before after : Text) (old new n : ℕ) : Type 0 where
  pub text : n ≡ 0 → (w : World) × IsSetUp board w × (after ≡ at_front (report_in form w) before) × (new ≡ length (report_in form w))
  pub room : n ≡ 902 → (w : World) × IsSetUp board w × (length before < length (report_in form w)) × (new ≡ length (report_in form w))
  pub file : n ≢ 0 → n < 199 → Refuses board n
  pub placement : 199 < n → n < 299 → Breaks board n
  pub numbers : (n ≤ 299) ⊎ (n ≡ 902)
  pub refused : n ≢ 0 → after ≡ before
  pub untold : n ≢ 0 → n ≤ 299 → new ≡ old

pub record IsCheckOf (board : Text) (n : ℕ) : Type 0 where
  pub fault : Option OpenFault
  pub number : n ≡ option_map_or number_of fault 0
  pub is_fault : IsFaultOf board fault
