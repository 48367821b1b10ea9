use Rattle.std.proofs.Common.{length, arith}
use Rattle.model_registers.specs.Registers.{config}
use Rattle.images.proofs.Runs.{run_length}
use Rattle.images.proofs.function_values.put_values_of_block_and_advance.Goals as goal

pub put_shown_and_advance-requires-clause-room : goal.put_shown_and_advance-requires-clause-room
put_shown_and_advance-requires-clause-room c = let many = run_length c.args.endpoint.now c.args.own.now (config c.args.block.now.offset) (length c.args.block.now.cells) in grind arith

pub returns-clause-end : goal.returns-clause-end
returns-clause-end c = let many = run_length c.args.endpoint.now c.args.own.now (config c.args.block.now.offset) (length c.args.block.now.cells) in grind arith
