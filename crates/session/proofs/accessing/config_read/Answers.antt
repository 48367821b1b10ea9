use Rattle.std.proofs.Common.{sym}
use Rattle.model_board.proofs.ConfigAccesses.{config_read_by_lanes}
use Rattle.paths.specs.BusAddresses.{bus_address_of}
use Rattle.session.proofs.accessing.config_read.Goals as goal

pub returns-clause-value : goal.returns-clause-value
returns-clause-value c =
    rw (c.shift_lanes_down.ensures, c.config_read-word.ensures.value, c.enables_of.ensures, c.from-from.ensures)
    (sym (config_read_by_lanes c.args.host.now.state.functions (bus_address_of c.args.at) c.args.off c.args.width c.requires.width c.requires.aligned))
