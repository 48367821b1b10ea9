use Rattle.std.proofs.{Common.{◌≡◌, [], drop, arith}, lemmas.Grind.common_steps}
use Rattle.toml.specs.View.{table_view}
use Rattle.board_refusal.{specs.Telling.{ArePlaced}, proofs.Checks.{one_more, none_left}}
use Rattle.board_refusal.proofs.problems.problems_reported_with.Goals as goal

pub checks-preserved : goal.checks-preserved
checks-preserved c =
    let placed : ArePlaced c.args.source.now.bytes.now (table_view c.args.source.now.document.now) c.in_ok-problems.problems.items c.in_ok-placed.placed.items =
    grind (arith, common_steps) in
    one_more c.args.source.now.bytes.now (table_view c.args.source.now.document.now) c.checks_reported_with-check-items.result.now c.checks.check-index _ c.checks.all.items
    c.in_ok-placed.placed.items c.extend_from_slice.new.self.items (grind (arith, common_steps)) (grind (arith, common_steps))
    (record { problems = c.in_ok-problems.problems.items; are_all = c.in_ok-problems.ensures; are_placed = placed }) c.checks.invariant

pub returns : goal.returns
returns c =
    let end : drop c.checks.check-index c.checks_reported_with-check-items.result.now ≡ [] = grind (arith, common_steps) in
    let told = none_left c.args.source.now.bytes.now (table_view c.args.source.now.document.now) c.checks_reported_with-check-items.result.now c.checks.check-index c.checks.all.items end c.checks.invariant in
    grind (arith, told)
