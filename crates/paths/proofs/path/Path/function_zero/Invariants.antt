use Rattle.std.proofs.Common.{◌≡◌, take}
use Rattle.paths.proofs.path.Path.function_zero.Given as goal

abbrev pub invariant-loop-part : goal.invariant-loop-part
invariant-loop-part l = l.zero.items ≡ take l.part-index l.part-items
