use Rattle.toml.specs.View.{table_view}
use Rattle.board_refusal.proofs.Checks.{AreSoFar}
use Rattle.board_refusal.proofs.problems.problems_reported_with.Given as goal

abbrev pub invariant-checks : goal.invariant-checks
invariant-checks l =
    AreSoFar l.source.bytes.now (table_view l.source.document.now) l.check-items l.check-index l.all.items
