use Rattle.std.{proofs.{Common.{◌≡◌, ◌≤◌, ◌++◌, cond, [], ◌∷◌, length, map, sym, ap, ◌∙◌, append-nil, arith}, lemmas.List.{map-append, length-map, at_drop_all}}, specs.{Prelude.option_map, Option.option_to_list}}
use Rattle.bars.specs.Kinds.{named_space}
use Rattle.model_board.specs.{State.BoardFunction, Routing.row_of}
use Rattle.findings.{specs.{WhyByRows.forwarders_among, WhyTold.forwarder_told}, proofs.{StoppedFrom.{next_one, selected_is}, why_forwarding.forwarders.Goals.{in-Some+in_ok-push, in_default}}}
use Rattle.model_lines.specs.Why.{forwarder, reaches_and_forwards}
use Rattle.findings.proofs.why_forwarding.forwarders.Goals as goal

pub loop-index-preserved : goal.loop-index-preserved
loop-index-preserved c =
    let told : map forwarder_told c.match-forwarder_nth_if_reached.told.items ≡ map forwarder_told c.loop-index.told.items ++ option_to_list (option_map forwarder_told c.forwarder_nth_if_reached.result) =
    elim c.match-forwarder_nth_if_reached.branch [ in-Some+in_ok-push w ↦ grind (arith, map-append) | in_default w ↦ grind (arith, append-nil) ] in
    let fs = c.args.host.now.state.functions in
    next_one (λ (f : BoardFunction). cond (reaches_and_forwards fs (named_space c.args.asked.now.space) c.args.asked.now.addr f) (forwarder f ∷ []) []) fs c.loop-index.index _ _ _ _ c.loop-index.invariant c.forwarder_nth_if_reached.ensures told

pub returns : goal.returns
returns c =
    let fs = c.args.host.now.state.functions in
    let space = named_space c.args.asked.now.space in
    let told = map forwarder_told c.loop-index.told.items in
    let rows = ap length c.requires ∙ length-map fs row_of in
    let far : length fs ≤ c.loop-index.index = omega (arith, rows) in
    sym (append-nil told) ∙ ap (λ gs. told ++ gs) (sym (at_drop_all (forwarders_among fs space c.args.asked.now.addr) fs c.loop-index.index far)) ∙ c.loop-index.invariant
    ∙ selected_is (reaches_and_forwards fs space c.args.asked.now.addr) forwarder fs
