use Rattle.std.{proofs.Common.{◌≡◌, ◌++◌, map, drop}, specs.List.{enumerate_from, flat_map}}
use Rattle.board_file.specs.MarkedPaths.{guest_texts}
use Rattle.board_file.proofs.path.marked.slot_texts.Given as goal

abbrev pub invariant-guests : goal.invariant-guests
invariant-guests l =
    map (λ p. (p.0, p.1.now)) l.texts.items ++ flat_map guest_texts (enumerate_from l.index (drop l.index l.file.guests))
    ≡ flat_map guest_texts (enumerate_from 0 l.file.guests)
