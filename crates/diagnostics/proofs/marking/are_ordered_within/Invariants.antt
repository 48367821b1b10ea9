use Rattle.std.proofs.Common.{◌≡◌, drop}
use Rattle.diagnostics.specs.Marks.{are_ordered_within}
use Rattle.diagnostics.proofs.marking.are_ordered_within.Given as goal

abbrev pub invariant-places : goal.invariant-places
invariant-places l = are_ordered_within l.from l.len (drop l.place-index l.places) ≡ are_ordered_within 0 l.len l.places
