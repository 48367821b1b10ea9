use Rattle.std.proofs.Common.{◌≡◌, ℕ, ◌≤◌, drop}
use Rattle.bars.specs.{Kinds.named_space, Hits.hit_from, Extents.IsOutside}
use Rattle.bars.proofs.base_registers.extent_of_overlapping.Given as goal

abbrev pub invariant-loop-reg : goal.invariant-loop-reg
invariant-loop-reg l = (a : ℕ) → l.first ≤ a → a ≤ l.last → IsOutside l.extent a
    → hit_from (named_space l.space) a 0 l.regions ≡ hit_from (named_space l.space) a l.reg (drop l.reg l.regions)
