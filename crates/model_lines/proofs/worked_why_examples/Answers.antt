use Rattle.model_lines.proofs.{WhyExamples.why_examples, Guests.guest_examples, Ports.port_examples}
use Rattle.model_lines.proofs.worked_why_examples.Goals as goal

pub returns : goal.returns
returns c = record { each = why_examples; ports = port_examples; guests = guest_examples }
