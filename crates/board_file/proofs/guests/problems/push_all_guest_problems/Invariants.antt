use Rattle.board_file.{specs.Problems.of_guest, proofs.Walks.GoesOn}
use Rattle.board_file.proofs.guests.problems.push_all_guest_problems.Given as goal

abbrev pub invariant-guests : goal.invariant-guests
invariant-guests l = GoesOn (of_guest l.fault l.file) l.file.guests l.index l.initial.problems.items l.problems.items
