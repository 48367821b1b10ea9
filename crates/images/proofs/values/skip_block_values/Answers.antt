use Rattle.std.proofs.Common.{◌∙◌, sym, arith}
use Rattle.model_registers.specs.EndpointTable.{block_cells}
use Rattle.images.proofs.TakenValues.{block_missing, block_taken, first_in_place, values_end_of, values_go_on_of}
use Rattle.images.proofs.values.skip_block_values.Goals as goal

pub returns-in_err-bytes-clause-refused : goal.returns-in_err-bytes-clause-refused
returns-in_err-bytes-clause-refused c = let e = sym c.loop-block.invariant.same ∙ values_end_of block_cells c.in-Some.block.now c.loop-block.left.now c.in-Some.rest.now 905 c.loop-block.bytes.now (grind arith) (block_missing c.in-Some.block.now.offset c.in-Some.block.now.cells c.loop-block.bytes.now (first_in_place c.in-Some.block.now c.loop-block.left.now c.in-Some.rest.now c.loop-block.invariant.lawful (grind arith)) (grind arith)) in grind arith

pub loop-block-preserved : goal.loop-block-preserved
loop-block-preserved c = record { lawful = grind arith; same = values_go_on_of block_cells c.in-Some.block.now c.loop-block.left.now c.in-Some.rest.now c.loop-block.bytes.now c.in_ok-bytes.bytes.now (grind arith) (block_taken c.in-Some.block.now.offset c.in-Some.block.now.cells c.loop-block.bytes.now c.in_ok-bytes.bytes.now (first_in_place c.in-Some.block.now c.loop-block.left.now c.in-Some.rest.now c.loop-block.invariant.lawful (grind arith)) (grind arith) (grind arith)) ∙ c.loop-block.invariant.same }
