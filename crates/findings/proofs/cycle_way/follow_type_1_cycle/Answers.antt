use Rattle.std.proofs.Common.{◌≡◌, [], sym, subst, ◌∙◌, unwrap_or, arith}
use Rattle.findings.proofs.BridgesOnWay.{IsOnWay, stops_here, runs_out, goes_on, is_there}
use Rattle.findings.proofs.cycle_way.follow_type_1_cycle.Goals as goal

pub returns-in_default-clause-bridges : goal.returns-in_default-clause-bridges
returns-in_default-clause-bridges c =
    (stops_here c.args.host.now.state.functions c.args.number c.loop-level.bridges.items (unwrap_or c.loop-level.bus []) c.loop-level._level c.loop-level.invariant c.loop-level-test.true _ c.in_ok-add_claiming_bridges.ensures (sym c.next_bridge.ensures ∙ c.in_default.is)).bridges

pub returns-in_default-clause-end : goal.returns-in_default-clause-end
returns-in_default-clause-end c =
    (stops_here c.args.host.now.state.functions c.args.number c.loop-level.bridges.items (unwrap_or c.loop-level.bus []) c.loop-level._level c.loop-level.invariant c.loop-level-test.true _ c.in_ok-add_claiming_bridges.ensures (sym c.next_bridge.ensures ∙ c.in_default.is)).end_is

pub returns-then-is_last-clause-bridges : goal.returns-then-is_last-clause-bridges
returns-then-is_last-clause-bridges c =
    (is_there c.args.host.now.state.functions c.args.number c.loop-level.bridges.items (unwrap_or c.loop-level.bus []) c.loop-level._level c.loop-level.invariant c.loop-level-test.true _ c.in_ok-add_claiming_bridges.ensures c.in-Some.field-0 (sym c.next_bridge.ensures ∙ c.in-Some.is) c.if-is_last.true).bridges

pub returns-then-is_last-clause-end : goal.returns-then-is_last-clause-end
returns-then-is_last-clause-end c =
    (is_there c.args.host.now.state.functions c.args.number c.loop-level.bridges.items (unwrap_or c.loop-level.bus []) c.loop-level._level c.loop-level.invariant c.loop-level-test.true _ c.in_ok-add_claiming_bridges.ensures c.in-Some.field-0 (sym c.next_bridge.ensures ∙ c.in-Some.is) c.if-is_last.true).end_is

pub loop-level-preserved : goal.loop-level-preserved
loop-level-preserved c =
    goes_on c.args.host.now.state.functions c.args.number c.loop-level.bridges.items (unwrap_or c.loop-level.bus []) c.loop-level._level c.loop-level.invariant c.loop-level-test.true _ c.in_ok-add_claiming_bridges.ensures c.in-Some.field-0 (sym c.next_bridge.ensures ∙ c.in-Some.is) c.if-is_last.false

pub returns-clause-bridges : goal.returns-clause-bridges
returns-clause-bridges c =
    let all : c.loop-level._level ≡ 16 = omega arith in
    (runs_out c.args.host.now.state.functions c.args.number c.loop-level.bridges.items (unwrap_or c.loop-level.bus []) (subst (IsOnWay c.args.host.now.state.functions c.args.number c.loop-level.bridges.items (unwrap_or c.loop-level.bus [])) all c.loop-level.invariant)).bridges
