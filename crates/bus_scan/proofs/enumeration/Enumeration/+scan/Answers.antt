use Rattle.std.proofs.{Common.{◌≡◌, ℕ, ◌∙◌, List, sym, ap, subst, arith, length}, lemmas.Result.err_from_is_err_and}
use Rattle.model_board.specs.{Paths.{Path, devfn_count}, Board.{Board, has_multifunction_bit}, State.State}
use Rattle.model_set_up.specs.{FunctionTable.TableRow, ScanOrder.{on, next_devfn_to_probe}}
use Rattle.host_bridge.specs.HostState.{HostState}
use Rattle.bus_scan.{specs.{declared.enumeration.Enumeration.Enumeration, Scans.{IsAt, OnBus}, Sights.seen_of}, proofs.{ScanSteps.{side, deepest, rows_length, past_nothing}, ScanSights.{sighted, none_seen, finds, after_look, past_function, bridge_there_of, shows_at}, enumeration.Enumeration.+scan.Goals.{scan_bridge-then-parts-lt-DEEPEST+in_ok-scan_bus, scan_bridge-else-parts-lt-DEEPEST, scan_and_next_devfn-in-Endpoint+in_ok-push_function-in-Endpoint, scan_and_next_devfn-in-Bridge+in_ok-scan_bridge-in-Bridge}}}
use Rattle.bus_scan.proofs.enumeration.Enumeration.+scan.Goals as goal

-- the parts of a path as a bus
at_parts : {b : Board} {p q : Path} {k : ℕ} → q ≡ p → OnBus b p k → OnBus b q k
at_parts {b} {k = k} is on_bus = subst (λ (x : Path). OnBus b x k) (sym is) on_bus

begins : {b : Board} {p q : Path} (n : ℕ) {s : State} {rows : List TableRow} {last : ℕ} → q ≡ p → IsAt b (on p n) s rows last → IsAt b (on q n) s rows last
begins {b} n {s} {rows} {last} is at = subst (λ (x : Path). IsAt b (on x n) s rows last) (sym is) at

placed : {b : Board} {here : Path} {h k : HostState} {e f : Enumeration} → k ≡ h → f ≡ e → IsAt b here h.state e.rows.items e.last → IsAt b here k.state f.rows.items f.last
placed {b} {here} {h} {f = f} same_host same at = grind arith

pushed : {b : Board} {here : Path} {s : State} {xs ys : List TableRow} {m n : ℕ} → ys ≡ xs → n ≡ m → IsAt b here s xs m → IsAt b here s ys n
pushed {b} {here} {s} {xs} {n = n} rows last at = subst (λ (ys : List TableRow). IsAt b here s ys n) (sym rows) (subst (λ n. IsAt b here s xs n) (sym last) at)

pub scan_bridge-returns-in_err-number-clause-scanned :
    goal.scan_bridge-returns-in_err-number-clause-scanned
scan_bridge-returns-in_err-number-clause-scanned t c = λ b bus n r is path shows here.
    let p = err_from_is_err_and c.from_residual.result c.from_residual.ensures.1 in
    rw (p.1, p.2) (c.in_err-number.ensures.opened b bus n r is (c.copied.ensures ∙ path) (shows ∙ ap (λ (p : Path). seen_of (has_multifunction_bit b p) r.decl) (sym c.copied.ensures)) here)

pub scan_bridge-returns-in_err-scan_bus-clause-scanned : goal.scan_bridge-returns-in_err-scan_bus-clause-scanned
scan_bridge-returns-in_err-scan_bus-clause-scanned t c = λ b bus n r is path shows here.
    let p = err_from_is_err_and c.from_residual-in_err-scan_bus.result c.from_residual-in_err-scan_bus.ensures.1 in
    let opened = c.in_ok-number.ensures.opened b bus n r is (c.copied.ensures ∙ path) (shows ∙ ap (λ (p : Path). seen_of (has_multifunction_bit b p) r.decl) (sym c.copied.ensures)) here in
    let same : c.parts-parts.result.now ≡ on bus n = c.parts-parts.ensures.value ∙ path in
    let behind = side b bus c.args.bus n r is.on_bus is.stands is.is_bridge_there c.in_ok-number.number opened.0 in
    rw (p.1, p.2) (c.in_err-scan_bus.ensures.scanned b (at_parts same behind) (begins 0 same opened.1))

pub scan_bridge-returns-clause-scanned : goal.scan_bridge-returns-clause-scanned
scan_bridge-returns-clause-scanned t c = λ b bus n r is path shows here.
    let opened = c.in_ok-number.ensures.opened b bus n r is (c.copied.ensures ∙ path) (shows ∙ ap (λ (p : Path). seen_of (has_multifunction_bit b p) r.decl) (sym c.copied.ensures)) here in
    let same : c.parts-parts.result.now ≡ on bus n = c.parts-parts.ensures.value ∙ path in
    let index : c.len-index.result ≡ length c.args.self.now.rows.items = c.len-index.ensures ∙ c.args.self.now.rows.ok.0 in
    c.set_final_subordinate.ensures.closed b bus n r is opened.0 (index ∙ rows_length b (on bus n) c.args.host.now.state c.args.self.now.rows.items c.args.self.now.last here)
    (elim c.if-parts-lt-DEEPEST.branch [
      | scan_bridge-then-parts-lt-DEEPEST+in_ok-scan_bus w ↦
          let behind = side b bus c.args.bus n r is.on_bus is.stands is.is_bridge_there c.in_ok-number.number opened.0 in
          placed w.host-is w.self-is (begins devfn_count (sym same) (w.in_ok-scan_bus.ensures.scanned b (at_parts same behind) (begins 0 same opened.1)))
      | scan_bridge-else-parts-lt-DEEPEST w ↦
          placed w.host-is w.self-is (deepest b is.on_bus.board (on bus n) (omega (arith, w.if-parts-lt-DEEPEST.false, ap length same)) _ _ _ opened.1)
    ])

pub scan_bus-returns-clause-scanned : goal.scan_bus-returns-clause-scanned
scan_bus-returns-clause-scanned t c = λ b on_bus at.
    let end : c.loop-n.n ≡ devfn_count = omega arith in
    subst (λ n. IsAt b (on c.args.bus.now n) c.loop-n.host.state c.loop-n.self.rows.items c.loop-n.self.last) end (c.loop-n.invariant.scanned b on_bus at)

pub scan_and_next_devfn-returns-in_default-clause-scanned : goal.scan_and_next_devfn-returns-in_default-clause-scanned
scan_and_next_devfn-returns-in_default-clause-scanned t c = λ b on_bus at.
    let sight = sighted on_bus c.args.n at c.bdf_at_devfn-at.ensures c.probe_header.ensures.none c.probe_header.ensures.some in
    past_nothing b on_bus.board c.args.bus.now c.args.n c.next_devfn_to_probe.result _ _ _ (none_seen sight c.in_default.is) c.next_devfn_to_probe.ensures.next
    (after_look at (ap (λ (h : HostState). h.state) c.probe_header.ensures.after))

pub scan_and_next_devfn-returns-in_err-scan_bridge-in-Bridge-clause-scanned :
    goal.scan_and_next_devfn-returns-in_err-scan_bridge-in-Bridge-clause-scanned
scan_and_next_devfn-returns-in_err-scan_bridge-in-Bridge-clause-scanned t c = λ b on_bus at.
    let p = err_from_is_err_and c.from_residual-in_err-scan_bridge-in-Bridge.result c.from_residual-in_err-scan_bridge-in-Bridge.ensures.1 in
    let f = finds (sighted on_bus c.args.n at c.bdf_at_devfn-at.ensures c.probe_header.ensures.none c.probe_header.ensures.some) c.in-Some.is in
    let looked = after_look at (ap (λ (h : HostState). h.state) c.probe_header.ensures.after) in
    rw (p.1, p.2) (c.in_err-scan_bridge-in-Bridge.ensures.scanned b c.args.bus.now c.args.n f.row (bridge_there_of f.found c.in-Bridge.is c.bdf_at_devfn-at.ensures)
    c.path_at_devfn-path.ensures (shows_at f.found c.path_at_devfn-path.ensures) looked)

pub scan_and_next_devfn-returns-clause-scanned : goal.scan_and_next_devfn-returns-clause-scanned
scan_and_next_devfn-returns-clause-scanned t c = λ b on_bus at.
    let f = finds (sighted on_bus c.args.n at c.bdf_at_devfn-at.ensures c.probe_header.ensures.none c.probe_header.ensures.some) c.in-Some.is in
    let looked = after_look at (ap (λ (h : HostState). h.state) c.probe_header.ensures.after) in
    subst (λ m. IsAt b (on c.args.bus.now m) c.match-seen.host.state c.match-seen.self.rows.items c.match-seen.self.last) (sym (f.next c.next_devfn_to_probe-2.result c.next_devfn_to_probe-2.ensures.next))
    (elim c.match-seen.branch [
      | scan_and_next_devfn-in-Endpoint+in_ok-push_function-in-Endpoint w ↦
          placed w.host-is w.self-is (pushed w.in_ok-push_function-in-Endpoint.ensures.rows w.in_ok-push_function-in-Endpoint.ensures.last
          (past_function f.found w.in-Endpoint.is c.path_at_devfn-path.ensures looked))
      | scan_and_next_devfn-in-Bridge+in_ok-scan_bridge-in-Bridge w ↦
          placed w.host-is w.self-is (w.in_ok-scan_bridge-in-Bridge.ensures.scanned b c.args.bus.now c.args.n f.row (bridge_there_of f.found w.in-Bridge.is c.bdf_at_devfn-at.ensures)
          c.path_at_devfn-path.ensures (shows_at f.found c.path_at_devfn-path.ensures) looked)
    ])
