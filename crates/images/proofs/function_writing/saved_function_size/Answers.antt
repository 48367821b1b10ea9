use Rattle.std.proofs.Common.{arith}
use Rattle.images.proofs.ShownValues.{size_is}
use Rattle.images.proofs.function_writing.saved_function_size.Goals as goal

pub returns-clause-size : goal.returns-clause-size
returns-clause-size c = λ own. let whole = size_is c.args.endpoint.now own c.requires in grind arith
