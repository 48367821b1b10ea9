use Rattle.std.{proofs.{Common.{◌≡◌, ◌++◌, map, append-nil, arith}, lemmas.List.map-append}, specs.{Prelude.option_map, Option.option_to_list}}
use Rattle.bars.specs.Kinds.{named_space}
use Rattle.model_board.specs.State.{BoardFunction}
use Rattle.model_lines.specs.Why.{blocking_cause}
use Rattle.findings.{specs.WhyTold.cause_told, proofs.{StoppedFrom.next_one, stopping.blockers.Goals.{in-Some+in_ok-push, in_default}}}
use Rattle.findings.proofs.stopping.blockers.Goals as goal

pub loop-index-preserved : goal.loop-index-preserved
loop-index-preserved c =
    let told : map cause_told c.match-blocking_cause_nth.causes.items ≡ map cause_told c.loop-index.causes.items ++ option_to_list (option_map cause_told c.blocking_cause_nth.result) =
    elim c.match-blocking_cause_nth.branch [ in-Some+in_ok-push w ↦ grind (arith, map-append) | in_default w ↦ grind (arith, append-nil) ] in
    next_one (λ (f : BoardFunction). option_to_list (blocking_cause (named_space c.args.asked.now.space) c.args.asked.now.addr c.args.path.now f)) c.args.host.now.state.functions c.loop-index.index _ _ _ _ c.loop-index.invariant c.blocking_cause_nth.ensures told
