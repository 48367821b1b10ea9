use Rattle.std.proofs.Common.{◌≡◌, ◌≤◌}
use Rattle.example_presence.specs.Presence.{devices_below}
use Rattle.example_presence.proofs.count_bus_0_devices.Given as goal

abbrev pub invariant-loop-device : goal.invariant-loop-device
invariant-loop-device l = record {
  told : l.count ≡ devices_below l.fn.host.state.functions l.device;
  most : l.count ≤ l.device;
  registers : l.host.state.functions ≡ l.fn.host.state.functions;
  apertures : l.host.apertures ≡ l.fn.host.apertures;
}
