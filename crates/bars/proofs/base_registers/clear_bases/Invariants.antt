use Rattle.std.proofs.Common.{◌≡◌, ◌++◌, map, take, drop}
use Rattle.bars.specs.Slots.{with_no_base_in}
use Rattle.bars.proofs.base_registers.clear_bases.Given as goal

abbrev pub invariant-loop-reg : goal.invariant-loop-reg
invariant-loop-reg l = l.regions ≡ map with_no_base_in (take l.reg l.fn.regions) ++ drop l.reg l.fn.regions
