use Rattle.model_set_up.proofs.ScanOrder.{scan_meets, scan_gives_numbers}
use Rattle.model_set_up.proofs.scan_visits_in_path_order.Goals as goal

pub returns : goal.returns
returns c = record { functions = scan_meets; numbers = scan_gives_numbers }
