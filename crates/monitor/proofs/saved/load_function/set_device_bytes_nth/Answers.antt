use Rattle.std.{proofs.Common.{◌≡◌, ◌<◌, ◌+◌, ◌∙◌, ◌∷◌, ℕ, List, length, subst, sym, arith}, specs.Prelude.{IsSome, IsTrue}}
use Rattle.model_registers.specs.DeviceBytes.{is_device_byte, set_value}
use Rattle.headers.specs.Places.{place_of}
use Rattle.bridge_forward.specs.Lending.{endpoint_nth}
use Rattle.host_bridge.specs.HostState.{HostState}
use Rattle.monitor.proofs.LoadSteps.{put_next, put_none, still_endpoint}
use Rattle.monitor.proofs.saved.load_function.set_device_bytes_nth.Goals as goal

pub loop-byte-preserved : goal.loop-byte-preserved
loop-byte-preserved c =
    let was = c.loop-byte.invariant in
    let first : c.loop-byte.left.now ≡ c.in-Some.byte.now ∷ c.in-Some.rest.now = grind arith in
    let put = c.set_device_byte_nth.ensures in
    record {
      there = subst (λ (h : HostState). IsSome (endpoint_nth h.state.functions c.args.index)) (sym put)
          (still_endpoint (set_value c.in-Some.byte.now (place_of c.args.place c.loop-byte.off)) c.args.index c.loop-byte.host.state.functions was.there);
      own = λ n low.
          let more : c.loop-byte.off + (n + 1) ≡ c.loop-byte.off + 1 + n = omega arith in
          let within : n + 1 < length c.loop-byte.left.now = subst (λ (vs : List ℕ). n + 1 < length vs) (sym first) (omega arith) in
          subst (λ (off : ℕ). IsTrue (is_device_byte (place_of c.args.place off))) more (was.own (n + 1) within);
      low = let many = was.low in grind arith;
      put = put_next c.loop-byte.host c.set_device_byte_nth.new.self c.args.index c.args.place c.loop-byte.off c.in-Some.byte.now c.in-Some.rest.now c.loop-byte.left.now first put ∙ was.put;
    }

pub returns : goal.returns
returns c =
    let none : length c.loop-byte.left.now ≡ 0 = grind arith in
    put_none c.loop-byte.host c.args.index (place_of c.args.place c.loop-byte.off) c.loop-byte.left.now none ∙ c.loop-byte.invariant.put
