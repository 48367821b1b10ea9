use Rattle.std.proofs.Common.{◌≡◌, sym, ap, ◌∙◌, subst}
use Rattle.paths.specs.BusAddresses.{bus_address_of}
use Rattle.host_bridge.specs.HostState.{HostState}
use Rattle.model_set_up.specs.FunctionTable.{TableRow}
use Rattle.bus_scan.{specs.{declared.table.EnumeratedFunction.TheInside.Inside, Rows.decl_of, Probes.{IsBridgeReached, pref_reached}}, proofs.{SizedFunctions.{row_of, endpoint_reached, bridge_reached, sized_endpoint, sized_bridge}, sizing.size_function.Goals.{in-Endpoint, in-Bridge}}}
use Rattle.bus_scan.specs.declared.table.Enumerated.TheVariants as variants
use Rattle.bus_scan.proofs.sizing.size_function.Goals as goal

pub size_bars-requires-clause-endpoint : goal.size_bars-requires-clause-endpoint
size_bars-requires-clause-endpoint c =
    endpoint_reached c.args.host.now.state c.requires.registers (bus_address_of c.address-at.result) c.args.row.now c.address-at.ensures c.requires.scanned _
    (ap (λ (t : TableRow). t.decl) (sym c.row.view_is) ∙ ap (decl_of c.row.inside.vendor c.row.inside.device) c.in-Endpoint.is)

pub detect_io_decode-requires-clause-bridge : goal.detect_io_decode-requires-clause-bridge
detect_io_decode-requires-clause-bridge c =
    bridge_reached c.args.host.now.state c.requires.registers (bus_address_of c.address-at.result) c.args.row.now c.address-at.ensures c.requires.scanned _
    (ap (λ (t : TableRow). t.decl) (sym c.row.view_is) ∙ ap (decl_of c.row.inside.vendor c.row.inside.device) c.in-Bridge.is)

pub detect_pref_decode-requires-clause-bridge : goal.detect_pref_decode-requires-clause-bridge
detect_pref_decode-requires-clause-bridge c =
    subst (λ (h : HostState). IsBridgeReached h.state.functions (bus_address_of c.address-at.result)) (sym c.detect_io_decode.ensures.host)
    (bridge_reached c.args.host.now.state c.requires.registers (bus_address_of c.address-at.result) c.args.row.now c.address-at.ensures c.requires.scanned _
    (ap (λ (t : TableRow). t.decl) (sym c.row.view_is) ∙ ap (decl_of c.row.inside.vendor c.row.inside.device) c.in-Bridge.is))

pub returns-clause-sized : goal.returns-clause-sized
returns-clause-sized c =
    let s = c.args.host.now.state in
    let at = bus_address_of c.address-at.result in
    let row = c.args.row.now in
    let x = c.row.inside in
    λ r m met. elim c.match-row.branch [
      | in-Endpoint w ↦
          let view : row_of x.path x.bus x.vendor x.device (variants.Endpoint w.in-Endpoint.pin w.in-Endpoint.bars) ≡ row =
          ap (row_of x.path x.bus x.vendor x.device) (sym w.in-Endpoint.is) ∙ c.row.view_is in
          let is = endpoint_reached s c.requires.registers at row c.address-at.ensures c.requires.scanned _
          (ap (λ (t : TableRow). t.decl) (sym view)) in
          ap (λ (y : Inside). row_of y.path y.bus y.vendor y.device y.found) w.row-inside-is
          ∙ sized_endpoint s c.requires.registers at row c.address-at.ensures r m met is x.path x.bus x.vendor x.device w.in-Endpoint.pin w.in-Endpoint.bars w.size_bars.result view w.size_bars.ensures.bars
      | in-Bridge w ↦
          let view : row_of x.path x.bus x.vendor x.device (variants.Bridge w.in-Bridge.secondary w.in-Bridge.subordinate w.in-Bridge.io w.in-Bridge.pref) ≡ row =
          ap (row_of x.path x.bus x.vendor x.device) (sym w.in-Bridge.is) ∙ c.row.view_is in
          ap (λ (y : Inside). row_of y.path y.bus y.vendor y.device y.found) w.row-inside-is
          ∙ sized_bridge s c.requires.registers at row c.address-at.ensures r m met x.path x.bus x.vendor x.device w.in-Bridge.secondary w.in-Bridge.subordinate w.in-Bridge.io w.detect_io_decode.result w.in-Bridge.pref w.detect_pref_decode.result
          view w.detect_io_decode.ensures.decode
          (w.detect_pref_decode.ensures.decode ∙ ap (λ (h : HostState). pref_reached h.state.functions at) w.detect_io_decode.ensures.host)
    ]
