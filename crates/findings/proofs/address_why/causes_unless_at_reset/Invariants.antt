use Rattle.std.proofs.Common.{◌≡◌, ◌++◌, map, drop}
use Rattle.bars.specs.Kinds.{named_space}
use Rattle.findings.specs.{WhyByRows.{told_from, held_apart}, WhyTold.region_told}
use Rattle.findings.proofs.address_why.causes_unless_at_reset.Given as goal

abbrev pub invariant-loop-one : goal.invariant-loop-one
invariant-loop-one l =
    map region_told l.told.items ++ map (told_from l.host.state.functions (named_space l.asked.space) l.asked.addr) (held_apart (named_space l.asked.space) (drop l.one-index l.held))
    ≡ map (told_from l.host.state.functions (named_space l.asked.space) l.asked.addr) (held_apart (named_space l.asked.space) l.held)
