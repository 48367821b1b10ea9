use Rattle.std.{proofs.Common.{ap, sym}, specs.Prelude.List}
use Rattle.model_board.{specs.State.BoardFunction, proofs.ConfigAccesses.config_write_by_lanes}
use Rattle.paths.specs.BusAddresses.{bus_address_of}
use Rattle.host_bridge.specs.HostState.{with_functions, with_latch}
use Rattle.session.proofs.accessing.config_write.Goals as goal

pub returns : goal.returns
returns c =
    let h = c.args.host.now in
    rw (c.config_write.ensures, c.enables_of-enables.ensures, c.to_lanes.ensures, c.from-from.ensures)
    (ap (λ (changed : List BoardFunction). with_latch 0 (with_functions changed h))
    (sym (config_write_by_lanes h.state.functions (bus_address_of c.args.at) c.args.off c.args.width c.args.value c.requires.width c.requires.aligned)))
