use Rattle.std.proofs.Common.{◌≡◌, ◌++◌, drop}
use Rattle.bars.specs.Kinds.{named_space}
use Rattle.findings.specs.WhyByRows.{silent_holders}
use Rattle.findings.proofs.holding.silent_holders.Given as goal

abbrev pub invariant-loop-row : goal.invariant-loop-row
invariant-loop-row l =
    l.held.items ++ silent_holders (named_space l.asked.space) l.asked.addr l.asked.answer (drop l.row-index l.rows)
    ≡ silent_holders (named_space l.asked.space) l.asked.addr l.asked.answer l.rows
