use Rattle.std.proofs.{Common.arith, lemmas.Option.slice_get-get_or}
use Rattle.findings.proofs.WhyRows.{forwarder_at}
use Rattle.findings.proofs.why_forwarding.forwarder_nth_if_reached.Goals as goal

pub returns : goal.returns
returns c = grind (arith, forwarder_at, slice_get-get_or)
