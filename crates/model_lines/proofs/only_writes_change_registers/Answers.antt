use Rattle.model_lines.proofs.HostLaws.{refused_changes_nothing, bad_lines_change_nothing, reads_change_no_register}
use Rattle.model_lines.proofs.only_writes_change_registers.Goals as goal

pub returns : goal.returns
returns c = record {
  refused = refused_changes_nothing;
  bad = bad_lines_change_nothing;
  reads = reads_change_no_register;
}
