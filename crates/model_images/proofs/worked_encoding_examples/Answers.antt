use Rattle.model_images.proofs.ByteExamples.{byte_examples}
use Rattle.model_images.proofs.worked_encoding_examples.Goals as goal

pub returns : goal.returns
returns c = byte_examples
