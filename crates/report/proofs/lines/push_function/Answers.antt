use Rattle.std.proofs.Common.{append_assoc, arith}
use Rattle.report.proofs.lines.push_function.Goals as goal

pub returns-in_ok-push_bdf_path_and_ids-in-Bridge : goal.returns-in_ok-push_bdf_path_and_ids-in-Bridge
returns-in_ok-push_bdf_path_and_ids-in-Bridge c = grind (arith, append_assoc)
