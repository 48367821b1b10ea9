use Rattle.std.{proofs.Common.{◌≡◌, ◌++◌, map, drop}, specs.List.enumerate_from}
use Rattle.board_file.specs.MarkedPaths.{slot_text}
use Rattle.board_file.proofs.path.marked.push_slot_texts.Given as goal

abbrev pub invariant-slots : goal.invariant-slots
invariant-slots l =
    map (λ p. (p.0, p.1.now)) l.texts.items ++ map (slot_text l.fn.index) (enumerate_from l.number (drop l.number l.guest.slots))
    ≡ map (λ p. (p.0, p.1.now)) l.initial.texts.items ++ map (slot_text l.fn.index) (enumerate_from 0 l.guest.slots)
