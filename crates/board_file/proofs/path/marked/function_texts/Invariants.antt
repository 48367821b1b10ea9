use Rattle.std.{proofs.Common.{◌≡◌, ◌++◌, map, drop}, specs.List.enumerate_from}
use Rattle.board_file.specs.MarkedPaths.{endpoint_text, bridge_text}
use Rattle.board_file.proofs.path.marked.function_texts.Given as goal

abbrev pub invariant-endpoints : goal.invariant-endpoints
invariant-endpoints l =
    map (λ p. (p.0, p.1.now)) l.texts.items ++ map endpoint_text (enumerate_from l.index (drop l.index l.file.endpoints))
    ≡ map endpoint_text (enumerate_from 0 l.file.endpoints)

abbrev pub invariant-bridges : goal.invariant-bridges
invariant-bridges l =
    map (λ p. (p.0, p.1.now)) l.texts.items ++ map bridge_text (enumerate_from l.index (drop l.index l.file.bridges))
    ≡ map (λ p. (p.0, p.1.now)) l.initial.texts.items ++ map bridge_text (enumerate_from 0 l.file.bridges)
