use Rattle.model_findings.proofs.{Found.{found_once, numbers_of_board}, Scan.scan_finds_all}
use Rattle.model_findings.proofs.found_functions_have_one_bdf.Goals as goal

pub returns : goal.returns
returns c = record { once = found_once; scan = scan_finds_all; board = numbers_of_board }
