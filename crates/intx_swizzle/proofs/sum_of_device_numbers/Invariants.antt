use Rattle.std.proofs.Common.{◌≡◌, ◌≤◌, ◌*◌, take, sum_by}
use Rattle.intx_swizzle.proofs.sum_of_device_numbers.Given as goal

abbrev pub invariant-loop-part : goal.invariant-loop-part
invariant-loop-part l = (l.sum ≡ sum_by (λ p. p.device) (take l.part-index l.parts)) × (l.sum ≤ 31 * l.part-index)
