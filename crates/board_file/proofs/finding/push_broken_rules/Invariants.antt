use Rattle.std.{proofs.Common.{◌≡◌, ◌++◌, map, drop}, specs.List.flat_map}
use Rattle.board_file.specs.Problems.{found_of, unless_kept}
use Rattle.board_file.proofs.finding.push_broken_rules.Given as goal

abbrev pub invariant-rules : goal.invariant-rules
invariant-rules l =
    map found_of l.problems.items ++ flat_map (unless_kept l.entry) (drop l.rule-index l.rules)
    ≡ map found_of l.initial.problems.items ++ flat_map (unless_kept l.entry) l.rules
