use Rattle.headers.proofs.BaseRegisters.{HasRegisters}
use Rattle.headers.proofs.region.bar_decls_by_index.Given as goal

abbrev pub invariant-loop-region : goal.invariant-loop-region
invariant-loop-region l = HasRegisters l.bars l.regions l.region-index
