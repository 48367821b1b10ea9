use Rattle.std.proofs.{Common.{ap, ◌∙◌, rules}, lemmas.List.take_all}
use Rattle.lists.proofs.Indices.{read_at}
use Rattle.monitor.proofs.TakenOver.{reset_on, none_reset, path_reset}
use Rattle.monitor.proofs.handover.takeover.reset_uncopied_at_paths.Goals as goal

pub loop-path-init : goal.loop-path-init
loop-path-init c = none_reset c.args.host.now

pub loop-path-preserved : goal.loop-path-preserved
loop-path-preserved c = search (rules, path_reset, read_at)

pub returns : goal.returns
returns c =
    let ps = c.args.paths.now in
    c.loop-path.invariant ∙ ap (reset_on c.args.host.now) (take_all c.loop-path.path-index ps c.loop-path-test.false)
