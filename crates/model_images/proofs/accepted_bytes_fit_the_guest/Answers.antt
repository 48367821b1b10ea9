use Rattle.model_images.proofs.{LoadedBytes.{images_decided, taken_by_all}, TakenBytes.{accepted_is_image, loads_image, refused_stays, keeps_saved_bytes}}
use Rattle.model_images.proofs.accepted_bytes_fit_the_guest.Goals as goal

pub returns : goal.returns
returns c = record {
  images = accepted_is_image;
  decided = images_decided;
  alike = taken_by_all;
  load = loads_image;
  refused = refused_stays;
  saved = keeps_saved_bytes;
}
