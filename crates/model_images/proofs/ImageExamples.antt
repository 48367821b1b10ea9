-- The worked example, by computation.
use Rattle.model_images.specs.ImageExamples.{ImageExamples}

pub image_examples : ImageExamples
image_examples = assumption
