use Rattle.std.proofs.Common.{◌-◌}
use Rattle.monitor.specs.ShownImages.{lone_shown}
use Rattle.monitor.proofs.Stopped.{IsBetween}
use Rattle.monitor.proofs.saved.mismatch.first_mismatch_offset.Given as goal

abbrev pub invariant-loop-high : goal.invariant-loop-high
invariant-loop-high l = IsBetween (lone_shown l.host.state.functions l.guest) l.bytes l.number l.low l.high

abbrev pub decreases-loop-high : goal.decreases-loop-high
decreases-loop-high l = l.high - l.low
