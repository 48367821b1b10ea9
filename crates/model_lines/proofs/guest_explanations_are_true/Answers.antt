use Rattle.model_lines.proofs.Guests.{found_as_located, closed_are_true, closed_are_all}
use Rattle.model_lines.proofs.guest_explanations_are_true.Goals as goal

pub returns : goal.returns
returns c = record { located = found_as_located; closed = closed_are_true; all = closed_are_all }
