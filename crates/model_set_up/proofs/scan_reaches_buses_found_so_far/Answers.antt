use Rattle.model_set_up.proofs.Scanning.{scan_reaches_buses_found_so_far, numbers_of_scan_state}
use Rattle.model_set_up.proofs.scan_reaches_buses_found_so_far.Goals as goal

pub returns : goal.returns
returns c = record { reach = scan_reaches_buses_found_so_far; states = numbers_of_scan_state }
