use Rattle.model_guests.proofs.RunLines.{after_along, output_along, stopped_is_beginning, cut_is_beginning}
use Rattle.model_lines.{specs.FirmwareLines.board_protocol, proofs.HostLaws.long_lines_alike}
use Rattle.model_lines.proofs.firmware_in_pieces_runs_alike.Goals as goal

pub returns : goal.returns
returns c = record {
  output = output_along board_protocol;
  after = after_along board_protocol;
  long = long_lines_alike;
  stopped = stopped_is_beginning board_protocol;
  cut = cut_is_beginning board_protocol;
}
