use Rattle.std.proofs.Common.{◌≡◌, ap, ◌∙◌, arith}
use Rattle.model_board.specs.{State.State, Ports.after_config_write}
use Rattle.model_set_up.specs.Scanning.{BusNumbers}
use Rattle.model_registers.specs.ByteEnables.{lanes}
use Rattle.host_bridge.specs.HostState.{HostState}
use Rattle.paths.specs.BusAddresses.{bus_address_of}
use Rattle.bus_scan.proofs.{BridgeNumbers.{numbers_word, FitBytes}, States.numbers_written}
use Rattle.bus_scan.proofs.enumeration.write_bus_numbers.Goals as goal

pub returns-clause-written : goal.returns-clause-written
returns-clause-written c = λ b numbers p lawful there is reaches.
    let n : BusNumbers = record { primary = c.args.primary; secondary = c.args.secondary; subordinate = c.args.subordinate } in
    let word : c.from_le_bytes-numbers.result ≡ numbers_word n = omega arith in
    let fits : FitBytes n = record { primary = c.ranges.primary.fits; secondary = c.ranges.secondary.fits; subordinate = c.ranges.subordinate.fits } in
    numbers_written b lawful numbers p there n fits c.args.host.now.state is (bus_address_of c.args.at) reaches c.config_write.new.self.state
    (ap (λ (h : HostState). h.state) c.config_write.ensures
    ∙ ap (λ v. let s : State = record { functions = after_config_write c.args.host.now.state.functions (bus_address_of c.args.at) 0x18 (lanes 15) v; latch = 0 } in s) word)
