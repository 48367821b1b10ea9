-- Problems and readiness issues, converted to the types of the definitions.
--     problem_of, issue_of      a problem and a readiness issue, as the definitions have them
use Rattle.paths.specs.BusAddresses.{bus_address_of}
use Rattle.findings.specs.declared.{problem.Problem.{Problem, TheVariants.{NotForwarded, Contended, NotFound}}, readiness_issue.ReadinessIssue.{ReadinessIssue, TheVariants.{NotOpen, OutsideApertures, Prefetched, OtherPrimary}}}
use Rattle.model_findings.specs.Problems as audit
use Rattle.model_findings.specs.ReadinessIssues as ready

abbrev pub problem_of : Problem → audit.Problem
problem_of (NotForwarded region bridge address) = audit.not_forwarded region bridge address
problem_of (Contended one other address) = audit.contended one other address
problem_of (NotFound path address instead) = audit.not_found path (bus_address_of address) instead

abbrev pub issue_of : ReadinessIssue → ready.ReadinessIssue
issue_of (NotOpen region) = ready.not_open region
issue_of (OutsideApertures region address) = ready.outside_apertures region address
issue_of (Prefetched region bridge address) = ready.prefetched_by region bridge address
issue_of (OtherPrimary path held number) = ready.other_primary path held number
