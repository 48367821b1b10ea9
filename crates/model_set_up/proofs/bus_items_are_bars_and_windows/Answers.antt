use Rattle.model_set_up.proofs.Levels.{bus_items_are_bars_and_windows}
use Rattle.model_set_up.proofs.bus_items_are_bars_and_windows.Goals as goal

pub returns : goal.returns
returns c = bus_items_are_bars_and_windows
