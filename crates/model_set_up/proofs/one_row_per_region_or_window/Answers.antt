use Rattle.model_set_up.proofs.DeclaredRows.{one_row_per_region_or_window}
use Rattle.model_set_up.proofs.one_row_per_region_or_window.Goals as goal

pub returns : goal.returns
returns c = one_row_per_region_or_window
