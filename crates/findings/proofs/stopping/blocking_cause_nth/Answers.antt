use Rattle.std.proofs.{Common.arith, lemmas.Option.slice_get-get_or}
use Rattle.findings.proofs.WhyRows.{stop_at}
use Rattle.findings.proofs.stopping.blocking_cause_nth.Goals as goal

pub returns : goal.returns
returns c = grind (arith, stop_at, slice_get-get_or)
