use Rattle.model_guests.{specs.WorldNow.world_protocol, proofs.RunLines.{after_along, output_along, lines_of_pieces, long_lines_alike, stopped_is_beginning, cut_is_beginning}}
use Rattle.model_guests.proofs.script_in_pieces_runs_alike.Goals as goal

pub returns : goal.returns
returns c = record {
  output = output_along world_protocol;
  after = after_along world_protocol;
  lines = lines_of_pieces;
  long = long_lines_alike;
  stopped = stopped_is_beginning world_protocol;
  cut = cut_is_beginning world_protocol;
}
