use Rattle.std.{proofs.Common.{◌≡◌, ◌++◌, map, drop, take}, specs.List.enumerate_from}
use Rattle.board_file.{specs.MarkedPaths.{marked_path, mark_duplicates}, proofs.Taken.AreTaken}
use Rattle.board_file.proofs.path.marked.mark_duplicates.Given as goal

abbrev pub invariant-texts : goal.invariant-texts
invariant-texts l =
    let texts = map (λ p. (p.0, p.1.now)) l.fn.texts.items in
    AreTaken l.taken (take l.entry-index texts)
    × (l.entries.items ++ map (marked_path texts) (enumerate_from l.entry-index (drop l.entry-index texts)) ≡ mark_duplicates texts)
