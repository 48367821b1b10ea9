use Rattle.board_file.{specs.Problems.of_bridge, proofs.Walks.GoesOn}
use Rattle.board_file.proofs.functions.bridge.push_all_bridge_problems.Given as goal

abbrev pub invariant-bridges : goal.invariant-bridges
invariant-bridges l = GoesOn (of_bridge l.fault) l.file.bridges l.index l.initial.problems.items l.problems.items
