-- An access at a port goes where the latch makes it go; the worked examples, by computation.
use Rattle.std.{proofs.{Common.arith, lemmas.Bool.Decides.nat_tests}, specs.Fmt.digits}
use Rattle.model_lines.specs.WhyPorts.{PortsByLatch, PortExamples}

pub ports_by_latch : PortsByLatch
ports_by_latch latch n w = grind (arith, nat_tests)

pub port_examples : PortExamples
unfolding digits
port_examples = assumption
