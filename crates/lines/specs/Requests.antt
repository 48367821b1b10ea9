-- What firmware asks of a session, in the words of its definitions.
--     report_of, request_of      a report, and what a line asks
use Rattle.accesses.specs.Accesses.{host_target_of}
use Rattle.model_lines.specs.Reports.{of_problems, of_readiness}
use Rattle.lines.specs.declared.requests.{HostRequest.{HostRequest, TheVariants.{Report as Reports, Guests, Why}}, Report.{Report, TheVariants.{Audit, Ready}}}
use Rattle.model_lines.specs.Requests as model
use Rattle.model_lines.specs.Reports as reports

abbrev pub report_of : Report → reports.Report
report_of Audit = of_problems
report_of Ready = of_readiness

abbrev pub request_of : HostRequest → model.HostRequest
request_of (Reports report) = model.for_report (report_of report)
request_of Guests = model.for_guests
request_of (Why at) = model.for_why (host_target_of at)
