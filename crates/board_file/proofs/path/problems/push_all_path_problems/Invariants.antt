use Rattle.std.{proofs.Common.{◌≡◌, ◌++◌, map, drop}, specs.List.flat_map}
use Rattle.board_file.specs.Problems.{found_of, of_path}
use Rattle.board_file.proofs.path.problems.push_all_path_problems.Given as goal

abbrev pub invariant-entries : goal.invariant-entries
invariant-entries l =
    map found_of l.problems.items ++ flat_map (of_path l.fault l.limit l.functions) (drop l.at-index l.at-items)
    ≡ map found_of l.initial.problems.items ++ flat_map (of_path l.fault l.limit l.functions) l.at-items
