use Rattle.std.proofs.Common.{◌*◌, ◌/◌, ◌%◌, ◌^◌, ap, ap₂, sym, ◌∙◌}
use Rattle.model_registers.specs.ByteEnables.{lanes, enables_of}
use Rattle.model_board.{specs.Ports.config_reply, proofs.ConfigAccesses.config_read_by_lanes}
use Rattle.paths.specs.BusAddresses.{bus_address_of}
use Rattle.monitor.proofs.engine.read_config_at.Goals as goal

pub returns-clause-value : goal.returns-clause-value
returns-clause-value c =
    let fs = c.args.host.now.state.functions in
    let at = bus_address_of c.args.at in
    let off = c.args.off in
    c.shift_lanes_down.ensures
    ∙ ap₂ (λ word from. word / 256 ^ (from % 4))
    (c.config_read-word.ensures.value ∙ ap (λ enables. config_reply fs at (off / 4 * 4) (lanes enables)) (c.enables_of.ensures ∙ ap (λ from. enables_of from c.args.width) c.from-from.ensures))
    c.from-from.ensures
    ∙ sym (config_read_by_lanes fs at off c.args.width c.requires.width c.requires.aligned)
