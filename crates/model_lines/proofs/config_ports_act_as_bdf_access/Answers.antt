use Rattle.model_lines.proofs.HostLaws.{latch_is_port, data_is_by_number}
use Rattle.model_lines.proofs.config_ports_act_as_bdf_access.Goals as goal

pub returns : goal.returns
returns c = record { latch = latch_is_port; by_number = data_is_by_number }
