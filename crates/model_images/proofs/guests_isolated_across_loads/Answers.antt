use Rattle.model_images.proofs.Requests.{isolated_by_requests}
use Rattle.model_images.proofs.guests_isolated_across_loads.Goals as goal

pub returns : goal.returns
returns c = isolated_by_requests
