use Rattle.std.proofs.Common.{arith}
use Rattle.window_packing.proofs.BarLists.{any_in_space}
use Rattle.window_packing.proofs.settings.command_for_bars.Goals as goal

pub returns : goal.returns
returns c = grind (arith, any_in_space)
