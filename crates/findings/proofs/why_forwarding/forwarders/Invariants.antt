use Rattle.std.proofs.Common.{◌≡◌, ◌++◌, map, drop}
use Rattle.bars.specs.Kinds.{named_space}
use Rattle.findings.specs.{WhyByRows.forwarders_among, WhyTold.forwarder_told}
use Rattle.findings.proofs.why_forwarding.forwarders.Given as goal

abbrev pub invariant-loop-index : goal.invariant-loop-index
invariant-loop-index l =
    map forwarder_told l.told.items ++ forwarders_among l.host.state.functions (named_space l.asked.space) l.asked.addr (drop l.index l.host.state.functions)
    ≡ forwarders_among l.host.state.functions (named_space l.asked.space) l.asked.addr l.host.state.functions
