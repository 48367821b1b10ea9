use Rattle.std.proofs.Common.{arith}
use Rattle.images.proofs.Lengths.{few_block_cells, few_region_cells, cells_count}
use Rattle.images.proofs.sizes.count_endpoint_cells.Goals as goal

pub count_bar_and_region_cells-requires-clause-few : goal.count_bar_and_region_cells-requires-clause-few
count_bar_and_region_cells-requires-clause-few c = few_region_cells c.args.decl.now c.deref-2.result.now c.values-values.ensures.lawful (grind arith)

pub count_block_cells-requires-clause-few : goal.count_block_cells-requires-clause-few
count_block_cells-requires-clause-few c = few_block_cells c.args.decl.now c.deref.result.now c.values-values.ensures.lawful (grind arith)

pub returns-clause-size : goal.returns-clause-size
returns-clause-size c = let all = cells_count c.args.decl.now c.deref-2.result.now c.deref.result.now (grind arith) (grind arith) in grind arith
