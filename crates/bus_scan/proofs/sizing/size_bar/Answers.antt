use Rattle.std.{proofs.Common.{◌≡◌, ◌+◌, ◌*◌, ◌≤◌, ◌⊎◌, inl, inr, sym, ap, ◌∙◌, subst, arith}, specs.Prelude.bit_and}
use Rattle.model_registers.specs.ByteEnables.{lanes}
use Rattle.paths.specs.BusAddresses.{bus_address_of}
use Rattle.host_bridge.specs.HostState.{HostState}
use Rattle.bus_scan.{specs.Probes.{mask_shown, TakesBack, regions_reached}, proofs.{ProbedEndpoints.mask_at, SizedBars.{begins, region_told}, SizedFunctions.{bar_taken, bar_shown, lawful_regions}, sizing.size_bar.Goals.{then-reg-lt5+then-low-eq4, else-reg-lt5, else-reg-lt5-via-then-reg-lt5+else-low-eq4, else-reg-lt5-via-else-reg-lt5}}}
use Rattle.bus_scan.proofs.sizing.size_bar.Goals as goal

pub probe_with_all_ones-low-requires-clause-taken : goal.probe_with_all_ones-low-requires-clause-taken
probe_with_all_ones-low-requires-clause-taken c = bar_taken c.args.host.now.state c.requires.registers (bus_address_of c.args.at) c.requires.endpoint c.args.reg c.requires.register

pub probe_with_all_ones-high-requires-clause-taken : goal.probe_with_all_ones-high-requires-clause-taken
probe_with_all_ones-high-requires-clause-taken c =
    let h = c.args.host.now in
    let at = bus_address_of c.args.at in
    let next : 16 + 4 * (c.args.reg + 1) ≡ 16 + 4 * c.args.reg + 4 = omega arith in
    subst (λ (h : HostState). TakesBack h.state at (16 + 4 * c.args.reg + 4) (lanes 15)) (sym c.probe_with_all_ones-low.ensures.host)
    (subst (λ off. TakesBack h.state at off (lanes 15)) next (bar_taken h.state c.requires.registers at c.requires.endpoint (c.args.reg + 1) (omega arith)))

pub returns-clause-bar : goal.returns-clause-bar
returns-clause-bar c =
    let h = c.args.host.now in
    let at = bus_address_of c.args.at in
    let rs = regions_reached h.state.functions at in
    let lawful = lawful_regions h.state c.requires.registers at c.requires.endpoint in
    let next : 16 + 4 * c.args.reg + 4 ≡ 16 + 4 * (c.args.reg + 1) = omega arith in
    let upper : (c.if-reg-lt5.high ≡ mask_at (c.args.reg + 1) rs) ⊎ ((5 ≤ c.args.reg) ⊎ (bit_and c.probe_with_all_ones-low.result 7 ≡ 4 → ⊥)) =
    elim c.if-reg-lt5.branch [
      | then-reg-lt5+then-low-eq4 w ↦
          inl (w.high-is ∙ w.probe_with_all_ones-high.ensures.mask
          ∙ ap (λ (h : HostState). mask_shown h.state.functions at (16 + 4 * c.args.reg + 4) (lanes 15)) c.probe_with_all_ones-low.ensures.host
          ∙ ap (λ off. mask_shown h.state.functions at off (lanes 15)) next
          ∙ bar_shown h.state c.requires.registers at c.requires.endpoint (c.args.reg + 1) (omega (arith, w.if-reg-lt5.true)))
      | else-reg-lt5 w ↦ inr (elim w.else-reg-lt5.branch [
        | else-reg-lt5-via-then-reg-lt5+else-low-eq4 w' ↦ inr w'.if-low-eq4.false
        | else-reg-lt5-via-else-reg-lt5 w' ↦ inl w'.if-reg-lt5.false
      ])
    ] in
    region_told c.args.reg rs (begins c.args.reg rs lawful.each lawful.in_order c.requires.begins) c.probe_with_all_ones-low.result c.if-reg-lt5.high c.bar_from_probed_words.result
    (c.probe_with_all_ones-low.ensures.mask ∙ bar_shown h.state c.requires.registers at c.requires.endpoint c.args.reg c.requires.register) upper c.bar_from_probed_words.ensures.shown c.bar_from_probed_words.ensures.found
