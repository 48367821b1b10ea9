use Rattle.std.proofs.Common.{arith}
use Rattle.images.{specs.Parts.region_bytes, proofs.Lengths.{first_length, region_length}}
use Rattle.images.proofs.sizes.encoded_regions_size.Goals as goal

pub loop-region-preserved : goal.loop-region-preserved
loop-region-preserved c =
    let first = first_length region_bytes c.in-Some.region.now c.loop-region.left.now c.in-Some.rest.now (grind arith) in
    let own = region_length c.in-Some.region.now in
    grind arith
