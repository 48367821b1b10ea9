use Rattle.std.proofs.Common.{ap, ◌∙◌, arith}
use Rattle.findings.proofs.{Indexed.{told_step, none_step}, primaries.add_primary_bus_issues.Goals.{in-Some+in_ok-push, in_default}}
use Rattle.findings.proofs.primaries.add_primary_bus_issues.Goals as goal

pub loop-index-preserved : goal.loop-index-preserved
loop-index-preserved c =
    let fs = c.args.host.now.state.functions in
    elim c.match-primary_bus_issue.branch [
      | in-Some+in_ok-push w ↦
          told_step fs c.loop-index.told.items c.match-primary_bus_issue.told.items w.in-Some.issue c.loop-index.index (ap (λ v. v.items) w.told-is ∙ w.in_ok-push.ensures.items) (grind (arith, w.in-Some.is, c.primary_bus_issue.ensures)) ∙ c.loop-index.invariant
      | in_default w ↦
          none_step fs c.loop-index.told.items c.match-primary_bus_issue.told.items c.loop-index.index (ap (λ v. v.items) w.told-is) (grind (arith, w.in_default, c.primary_bus_issue.ensures)) ∙ c.loop-index.invariant
    ]
