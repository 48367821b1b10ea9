use Rattle.board_file.{specs.Problems.of_part, proofs.Walks.GoesOn}
use Rattle.board_file.proofs.functions.part.push_part_problems.Given as goal

abbrev pub invariant-entries : goal.invariant-entries
invariant-entries g l =
    GoesOn (of_part l.part l.number (g.P.PartEntry.rules l.fault l.endpoint)) l.entries l.index l.initial.problems.items l.problems.items
