use Rattle.std.{proofs.{Common.{◌≡◌, ◌≤◌, ◌++◌, cond, [], ◌∷◌, length, unwrap_or, sym, ap, ◌∙◌, append-nil, arith}, lemmas.List.at_drop_all}, specs.Option.option_to_list}
use Rattle.model_board.specs.State.{BoardFunction}
use Rattle.findings.{specs.WhyOnWay.{is_taker, paths_taking}, proofs.{StoppedFrom.{next_one, selected_is}, cycle_way.add_claiming_bridges.Goals.{in-Some+in_ok-push, in_default}}}
use Rattle.findings.proofs.cycle_way.add_claiming_bridges.Goals as goal

pub loop-index-preserved : goal.loop-index-preserved
loop-index-preserved c =
    let told : c.match-path_if_claims_bus.told.items ≡ c.loop-index.told.items ++ option_to_list c.path_if_claims_bus.result =
    elim c.match-path_if_claims_bus.branch [ in-Some+in_ok-push w ↦ grind arith | in_default w ↦ grind (arith, append-nil) ] in
    next_one (λ (f : BoardFunction). cond (is_taker (unwrap_or c.args.bus.now []) c.args.number f) (f.path ∷ []) []) c.args.host.now.state.functions c.loop-index.index _ _ _ _ c.loop-index.invariant c.path_if_claims_bus.ensures told

pub returns : goal.returns
returns c =
    let fs = c.args.host.now.state.functions in
    let told = c.loop-index.told.items in
    let bus = unwrap_or c.args.bus.now [] in
    let far : length fs ≤ c.loop-index.index = omega (arith, c.count-index-end.ensures) in
    sym (append-nil told) ∙ ap (λ ps. told ++ ps) (sym (at_drop_all (paths_taking bus c.args.number) fs c.loop-index.index far)) ∙ c.loop-index.invariant
    ∙ ap (λ ps. c.args.told.now.items ++ ps) (selected_is (is_taker bus c.args.number) (λ (f : BoardFunction). f.path) fs)
