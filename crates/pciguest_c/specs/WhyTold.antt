-- The explanation of a guest's access, as C receives it.
--     why_asked form w guest t      the text in a form, or the number with which a read would be refused
use Rattle.std.specs.{Prelude.{ℕ, Result, Ok, Err}, Option.option_map_or}
use Rattle.model_guests.specs.{Accesses.Target, Text.Text, WorldNow.WorldNow}
use Rattle.session.specs.declared.questions.ReportForm.{ReportForm}
use Rattle.board_told.specs.{GuestFindings.{lone_asked, fault_at}, WhyJson.explain_guest_access}

abbrev pub why_asked : ReportForm → WorldNow → ℕ → Target → Result Text ℕ
why_asked form w guest t = option_map_or Err (fault_at t) (Ok (explain_guest_access form (lone_asked w guest) t))
