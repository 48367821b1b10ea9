use Rattle.model_images.proofs.ImageBytes.{bytes_are_bytes, bytes_are_read, read_are_bytes, one_image, read_is_of_a_guest}
use Rattle.model_images.proofs.image_encoding_round_trips.Goals as goal

pub returns : goal.returns
returns c = search (bytes_are_bytes, bytes_are_read, read_are_bytes, one_image, read_is_of_a_guest)
