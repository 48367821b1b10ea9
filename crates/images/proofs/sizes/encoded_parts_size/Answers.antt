use Rattle.std.proofs.Common.{arith}
use Rattle.images.proofs.Lengths.{few_block_bytes, few_regions, parts_length}
use Rattle.images.proofs.sizes.encoded_parts_size.Goals as goal

pub encoded_regions_size-requires-clause-few : goal.encoded_regions_size-requires-clause-few
encoded_regions_size-requires-clause-few c = few_regions c.args.decl.now c.deref.result.now c.values-values.ensures.lawful (grind arith)

pub encoded_blocks_size-requires-clause-few : goal.encoded_blocks_size-requires-clause-few
encoded_blocks_size-requires-clause-few c = few_block_bytes c.args.decl.now c.deref-2.result.now c.values-values.ensures.lawful (grind arith)

pub returns-clause-size : goal.returns-clause-size
returns-clause-size c = let all = parts_length c.args.decl.now c.deref.result.now c.deref-2.result.now (grind arith) (grind arith) in grind arith
