use Rattle.std.proofs.Common.{◌-◌, length}
use Rattle.bars.specs.Kinds.{named_space}
use Rattle.bridge_forward.{specs.Layout.IsLaidOut, proofs.Claiming.Passed}
use Rattle.bridge_forward.proofs.walk.locate.Given as goal

abbrev pub invariant-loop-i : goal.invariant-loop-i
invariant-loop-i l = (laid : IsLaidOut l.nodes) → Passed l.nodes laid (named_space l.space) l.addr l.i

abbrev pub decreases-loop-i : goal.decreases-loop-i
decreases-loop-i l = length l.nodes - l.i
