-- The effect of each of the program's commands.
--     form_of json, question_of report json      the form of a report, and the question that asks for one in its form
--     layout_of plain, warning_level_of all      the layout of a check's messages, and the warnings that it gives
--     Prints text at result, Lists form board at result, Checks board at result      a text was written
--         whole and flushed, or a beginning of it where a write or flush failed: one that is given, the report of a
--         board, or what a check says
--     Does choice seen board at result      what was done, by how it ended, with a board file of these bytes
--     IsUntold choice      no statistics about lines are reported
--     IsTelling choice f      the choice writes a text about the fault
--     IsLacking choice f      memory is out once lines ran
--     IsOfChoice choice f      a fault that the choice can end with
use Rattle.std.specs.{Prelude.{◌≡◌, Bool, if◌then◌else◌, None, Some, Result, Ok, Err, string_bytes, ⊤}, Io.KnownBytes.Appends}
use Rattle.model_guests.specs.Text.{Text}
use Rattle.streams.specs.Ends.{AppendsPart}
use Rattle.lines.specs.{Runs.{Ends}, declared.{requests.Report.Report, watching.RunStats.{RunStats}}}
use Rattle.command_line.specs.declared.choice.Choice.{Choice, TheVariants.{Help, Demo, List, Check, Run, Firmware, Report as Reports}}
use Rattle.diagnostics.specs.declared.message_layout.MessageLayout.{MessageLayout, TheVariants.{Plain, WithExcerpts}}
use Rattle.board_fit.specs.declared.warning_level.WarningLevel.{WarningLevel}
use Rattle.session.specs.declared.questions.{Question.Question, ReportForm.{ReportForm, TheVariants.{Lines, Json}}}
use Rattle.board_told.specs.declared.fault.Fault.{Fault, TheVariants.{SetUp, Write}}
use Rattle.simulation.specs.{Demo.demo_board, Faults.{open_fault, IsRefusal, IsOfList, IsOfRun, IsOfRunAs, OnRun}, Listing.{IsListed, IsListedInPart}, Checking.{IsChecked, IsCheckedInPart}, Running.{IsRun, RunsAs}, Serving.{IsOfServing, Serves}}
use Rattle.bus_scan.specs.declared.fault.Fault.TheVariants as set_up
use Rattle.board_fit.specs.declared.warning_level.WarningLevel.TheVariants as of

abbrev pub Prints : {T : Type 0} → Text → Ends → Result T Fault → Type 0
Prints text at (Ok x) = Appends at.before at.after text × (at.flushed ≡ at.after)
Prints text at (Err Write) = AppendsPart at.before at.after text
Prints text at (Err other) = ⊤

abbrev pub Lists : {T : Type 0} → ReportForm → Text → Ends → Result T Fault → Type 0
Lists form board at (Ok x) = IsListed form board at.before at.after × (at.flushed ≡ at.after)
Lists form board at (Err Write) = IsListedInPart form board at.before at.after
Lists form board at (Err other) = ⊤

-- a check writes a text about a fault of the file or its board
abbrev pub Checks : {T : Type 0} → Text → Ends → Result T Fault → Type 0
Checks board at (Ok x) = IsChecked board None at.before at.after × (at.flushed ≡ at.after)
Checks board at (Err Write) = IsCheckedInPart at.before at.after
Checks board at (Err f) = IsRefusal f → IsChecked board (open_fault f) at.before at.after × (at.flushed ≡ at.after)

abbrev pub form_of : Bool → ReportForm
form_of json = if json then Json else Lines

abbrev pub question_of : Report → Bool → Question
question_of report json = record { report = report; form = form_of json }

abbrev pub layout_of : Bool → MessageLayout
layout_of plain = if plain then Plain else WithExcerpts

abbrev pub warning_level_of : Bool → WarningLevel
warning_level_of all = if all then of.All else of.Likely

abbrev pub Does : {T : Type 0} → Choice → RunStats → Text → Ends → Result T Fault → Type 0
Does (Help text) seen board at r = Prints (string_bytes text) at r
Does Demo seen board at r = OnRun (IsRun demo_board at) r
Does (List path json) seen board at r = Lists (form_of json) board at r
Does (Check path all plain) seen board at r = Checks board at r
Does (Run path strict) seen board at r = RunsAs strict seen board at r
Does (Firmware path strict) seen board at r = Serves None strict seen board at r
Does (Reports report path json strict) seen board at r = Serves (Some (question_of report json)) strict seen board at r

abbrev pub IsUntold : Choice → Type 0
IsUntold (Run path strict) = ⊥
IsUntold (Firmware path strict) = ⊥
IsUntold (Reports report path json strict) = ⊥
IsUntold _ = ⊤

abbrev pub IsTelling : Choice → Fault → Type 0
IsTelling (Check path all plain) f = IsRefusal f
IsTelling _ f = ⊥

-- no memory for a question or for a handover
abbrev pub IsLacking : Choice → Fault → Type 0
IsLacking (Firmware path strict) f = f ≡ SetUp set_up.Memory
IsLacking (Reports report path json strict) f = f ≡ SetUp set_up.Memory
IsLacking _ f = ⊥

abbrev pub IsOfChoice : Choice → Fault → Type 0
IsOfChoice (Help text) f = f ≡ Write
IsOfChoice Demo f = IsOfRun f
IsOfChoice (List path json) f = IsOfList f
IsOfChoice (Check path all plain) f = IsOfList f
IsOfChoice (Run path strict) f = IsOfRunAs strict f
IsOfChoice (Firmware path strict) f = IsOfServing None strict f
IsOfChoice (Reports report path json strict) f = IsOfServing (Some (question_of report json)) strict f
