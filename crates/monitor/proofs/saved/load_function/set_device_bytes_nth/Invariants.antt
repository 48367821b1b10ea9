use Rattle.std.{proofs.Common.{◌≡◌, ◌<◌, ◌+◌, ◌^◌, ℕ, length}, specs.Prelude.{IsSome, IsTrue}}
use Rattle.model_registers.specs.DeviceBytes.{is_device_byte}
use Rattle.model_images.specs.StepLaws.{put_run}
use Rattle.headers.specs.Places.{place_of}
use Rattle.bridge_forward.specs.Lending.{endpoint_nth}
use Rattle.host_bridge.specs.{ByIndex.with_file_nth, HostState.with_functions}
use Rattle.monitor.proofs.saved.load_function.set_device_bytes_nth.Given as goal

-- what is left finishes what is asked
abbrev pub invariant-loop-byte : goal.invariant-loop-byte
invariant-loop-byte l = record {
  there : IsSome (endpoint_nth l.host.state.functions l.index);
  own : (n : ℕ) → n < length l.left → IsTrue (is_device_byte (place_of l.place (l.off + n)));
  low : l.off + length l.left < 2 ^ 63;
  put : with_functions (with_file_nth (put_run l.left (place_of l.place l.off)) l.index l.host.state.functions) l.host
      ≡ with_functions (with_file_nth (put_run l.bytes (place_of l.place l.first)) l.index l.fn.host.state.functions) l.fn.host;
}

abbrev pub decreases-loop-byte : goal.decreases-loop-byte
decreases-loop-byte l = length l.left
