use Rattle.model_images.proofs.ImageExamples.{image_examples}
use Rattle.model_images.proofs.worked_image_examples.Goals as goal

pub returns : goal.returns
returns c = image_examples
