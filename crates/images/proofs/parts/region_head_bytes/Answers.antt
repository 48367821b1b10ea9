use Rattle.std.proofs.Common.{arith}
use Rattle.images.specs.Parts.{region_head}
use Rattle.images.proofs.parts.region_head_bytes.Goals as goal

pub returns : goal.returns
unfolding region_head
returns c = rw (c.u64_to_le_bytes.ensures, c.u16_to_le_bytes.ensures) (grind arith)
