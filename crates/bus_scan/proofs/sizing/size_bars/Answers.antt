use Rattle.std.proofs.Common.{◌≡◌, sym, ap, ◌∙◌, arith}
use Rattle.paths.specs.BusAddresses.{bus_address_of}
use Rattle.host_bridge.specs.HostState.{HostState}
use Rattle.bus_scan.{specs.{Probes.regions_reached, SizedRows.{bar_at, is_upper_half}}, proofs.{SizedFunctions.lawful_regions, SizedBars.{next_slot, all_told, upper_by_slots, none_at_upper}, sizing.size_bars.Goals.{then-is_upper_half, else-is_upper_half}}}
use Rattle.bus_scan.proofs.sizing.size_bars.Goals as goal

pub size_bar-requires-clause-begins : goal.size_bar-requires-clause-begins
size_bar-requires-clause-begins c =
    let h = c.args.host.now in
    let at = bus_address_of c.args.at in
    let rs = regions_reached h.state.functions at in
    let lawful = lawful_regions h.state c.requires.registers at c.requires.endpoint in
    ap (λ (h : HostState). is_upper_half c.loop-reg.reg (regions_reached h.state.functions at)) c.loop-reg.invariant.host
    ∙ upper_by_slots c.loop-reg.reg rs c.loop-reg.bars lawful.in_order c.loop-reg.invariant.told ∙ sym c.is_upper_half.ensures ∙ c.if-is_upper_half.false

pub loop-reg-preserved : goal.loop-reg-preserved
loop-reg-preserved c =
    let h = c.args.host.now in
    let at = bus_address_of c.args.at in
    let rs = regions_reached h.state.functions at in
    let lawful = lawful_regions h.state c.requires.registers at c.requires.endpoint in
    let bar : c.if-is_upper_half.bars ≡ bar_at c.loop-reg.reg rs = elim c.if-is_upper_half.branch [
      | then-is_upper_half w ↦
          w.bars-is ∙ sym (none_at_upper c.loop-reg.reg rs lawful.in_order (upper_by_slots c.loop-reg.reg rs c.loop-reg.bars lawful.in_order c.loop-reg.invariant.told ∙ sym c.is_upper_half.ensures ∙ w.if-is_upper_half.true))
      | else-is_upper_half w ↦ w.bars-is ∙ w.size_bar.ensures.bar ∙ ap (λ (h : HostState). bar_at c.loop-reg.reg (regions_reached h.state.functions at)) c.loop-reg.invariant.host
    ] in
    let host : c.if-is_upper_half.host ≡ h = elim c.if-is_upper_half.branch [
      | then-is_upper_half w ↦ w.host-is ∙ c.loop-reg.invariant.host
      | else-is_upper_half w ↦ w.host-is ∙ w.size_bar.ensures.host ∙ c.loop-reg.invariant.host
    ] in
    next_slot h c.loop-reg.host c.if-is_upper_half.host at c.loop-reg.bars c.loop-reg.reg c.from.result c.if-is_upper_half.bars c.loop-reg.invariant (omega arith) (omega arith) host bar

pub returns-clause-bars : goal.returns-clause-bars
returns-clause-bars c = all_told c.args.host.now c.loop-reg.host (bus_address_of c.args.at) c.loop-reg.bars c.loop-reg.reg c.loop-reg.invariant (omega arith)
