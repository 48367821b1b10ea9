use Rattle.model_guests.proofs.RunLines.{after_along, output_along, stopped_is_beginning, cut_is_beginning}
use Rattle.model_lines.specs.Sessions.{session_protocol}
use Rattle.model_lines.proofs.session_in_pieces_runs_alike.Goals as goal

pub returns : goal.returns
returns c = record {
  output = output_along session_protocol;
  after = after_along session_protocol;
  stopped = stopped_is_beginning session_protocol;
  cut = cut_is_beginning session_protocol;
}
