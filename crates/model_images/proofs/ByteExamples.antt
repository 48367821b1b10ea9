-- The worked example, by computation.
use Rattle.model_images.specs.ByteExamples.{ByteExamples}

pub byte_examples : ByteExamples
byte_examples = assumption
