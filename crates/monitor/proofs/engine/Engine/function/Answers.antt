use Rattle.std.proofs.Common.{rules}
use Rattle.monitor.proofs.{FunctionsTold.{seats_told, nth_told}, Given.board_kept, Calls.kept_in}
use Rattle.monitor.proofs.engine.Engine.function.Goals as goal

pub describe_function_nth-requires-clause-board : goal.describe_function_nth-requires-clause-board
describe_function_nth-requires-clause-board g c = board_kept (kept_in c.self.invariant.1 c.self.view_is)

pub returns : goal.returns
returns g c = search (rules, kept_in, nth_told, seats_told)
