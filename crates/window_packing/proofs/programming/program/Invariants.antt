-- What is still to write gives what the writes of all settings give, and no latch is set.
use Rattle.std.proofs.Common.{◌≡◌, drop}
use Rattle.window_packing.specs.WordWrites.{after_settings}
use Rattle.host_bridge.specs.HostState.{with_functions}
use Rattle.window_packing.proofs.programming.program.Given as goal

abbrev pub invariant-loop-setting : goal.invariant-loop-setting
invariant-loop-setting l = record {
  written : with_functions (after_settings (drop l.setting-index l.setting-items) l.host.state.functions) l.host
      ≡ with_functions (after_settings l.fn.plan.settings l.fn.host.state.functions) l.fn.host;
  latch : l.host.state.latch ≡ 0;
}
