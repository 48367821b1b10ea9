use Rattle.std.proofs.Common.{◌≡◌, drop}
use Rattle.bars.specs.{Kinds.named_space, Hits.hit_from}
use Rattle.bars.proofs.base_registers.first_hit.Given as goal

abbrev pub invariant-loop-reg : goal.invariant-loop-reg
invariant-loop-reg l = hit_from (named_space l.space) l.addr 0 l.regions ≡ hit_from (named_space l.space) l.addr l.reg (drop l.reg l.regions)
