use Rattle.std.proofs.Common.{arith}
use Rattle.pciguest_c.proofs.Places.{put_next}
use Rattle.pciguest_c.proofs.machine.moved_regions.update_rows.Goals as goal

pub loop-number-preserved : goal.loop-number-preserved
loop-number-preserved c = grind (arith, put_next)
