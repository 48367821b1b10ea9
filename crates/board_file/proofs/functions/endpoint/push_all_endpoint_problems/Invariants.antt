use Rattle.board_file.{specs.Problems.of_endpoint, proofs.Walks.GoesOn}
use Rattle.board_file.proofs.functions.endpoint.push_all_endpoint_problems.Given as goal

abbrev pub invariant-endpoints : goal.invariant-endpoints
invariant-endpoints l = GoesOn (of_endpoint l.fault) l.file.endpoints l.index l.initial.problems.items l.problems.items
