use Rattle.std.proofs.Common.{◌≡◌, ◌++◌, ◌≤◌, drop, length, true}
use Rattle.diagnostics.specs.Marks.{are_ordered_within, replace_with_marks}
use Rattle.diagnostics.proofs.marking.replace_with_marks.Given as goal

abbrev pub invariant-places : goal.invariant-places
invariant-places l =
    (are_ordered_within l.from (length l.text) (drop l.place-index l.places) ≡ true)
    × (l.from ≤ length l.text)
    × (l.bytes.items ++ replace_with_marks l.text l.from (drop l.place-index l.places) ≡ replace_with_marks l.text 0 l.places)
