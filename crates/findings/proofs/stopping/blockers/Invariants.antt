use Rattle.std.proofs.Common.{◌≡◌, ◌++◌, map, drop}
use Rattle.bars.specs.Kinds.{named_space}
use Rattle.model_lines.specs.Why.{blockers}
use Rattle.findings.specs.WhyTold.{cause_told}
use Rattle.findings.proofs.stopping.blockers.Given as goal

abbrev pub invariant-loop-index : goal.invariant-loop-index
invariant-loop-index l =
    map cause_told l.causes.items ++ blockers (drop l.index l.host.state.functions) (named_space l.asked.space) l.asked.addr l.path
    ≡ blockers l.host.state.functions (named_space l.asked.space) l.asked.addr l.path
