-- The values have no float, so what is written of one is its compact text.
use Rattle.std.proofs.Common.{◌≡◌, List, false, refl}
use Rattle.serde_json.specs.Written.{has_float}
use Rattle.model_findings.specs.{Agents.Agent, Problems.{Problem, not_forwarded, contended, not_found}, ReadinessIssues.{ReadinessIssue, not_open, outside_apertures, prefetched_by, other_primary}}
use Rattle.json_texts.{specs.AuditValue.{natural, path_value, agent_value, problem_value, problems_value, issue_value, readiness_value}, proofs.NoFloatsInReports.{none_mapped, none_in_option}}

none_in_agent : (a : Agent) → has_float (agent_value a) ≡ false
none_in_agent a = rw (none_in_option natural (λ n. refl) a.register) refl

none_in_problem : (p : Problem) → has_float (problem_value p) ≡ false
none_in_problem (not_forwarded q bridge n) = refl
none_in_problem (contended a b n) = rw (none_in_agent a, none_in_agent b) refl
none_in_problem (not_found p at instead) = rw (none_in_option path_value (λ q. refl) instead) refl

pub none_in_problems : (ps : List Problem) → has_float (problems_value ps) ≡ false
none_in_problems ps = rw (none_mapped problem_value none_in_problem ps) refl

none_in_issue : (l : ReadinessIssue) → has_float (issue_value l) ≡ false
none_in_issue (not_open q) = refl
none_in_issue (outside_apertures q n) = refl
none_in_issue (prefetched_by q bridge n) = refl
none_in_issue (other_primary p held n) = refl

pub none_in_issues : (ps : List Problem) (ls : List ReadinessIssue) → has_float (readiness_value ps ls) ≡ false
none_in_issues ps ls = rw (none_mapped issue_value none_in_issue ls, none_mapped problem_value none_in_problem ps) refl
