-- The relation between refusals and problems.
--     RefusalsHaveProblems      a document that is refused has a problem of the fault for which it is
--     ProblemsBreakChecks      a document with a problem of a fault fails the check of that fault: what is right is not blamed
use Rattle.std.specs.Prelude.{◌≡◌, ◌≢◌, false, [], Err}
use Rattle.toml.specs.Data.{Members}
use Rattle.lists.specs.Elements.{IsIn}
use Rattle.board_file.specs.{declared.fault.BoardFault.BoardFault, Faults.number_of, KeyProblems.problems_of, Meaning.{checks, meaning}}

abbrev pub RefusalsHaveProblems : Type 0
RefusalsHaveProblems = (ms : Members) (fault : BoardFault) → meaning ms ≡ Err (number_of fault) → problems_of ms fault ≢ []

abbrev pub ProblemsBreakChecks : Type 0
ProblemsBreakChecks = (ms : Members) (fault : BoardFault) → problems_of ms fault ≢ [] → IsIn (number_of fault, false) (checks ms)
