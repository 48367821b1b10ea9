use Rattle.board_fit.proofs.NamedReasons.{bus_and_io_faults_name_entries}
use Rattle.board_fit.proofs.laws.bus_and_io_faults_name_entries.Goals as goal

pub returns : goal.returns
returns c = bus_and_io_faults_name_entries
