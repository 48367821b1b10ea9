use Rattle.claim_table.proofs.Readies.{ready_orderly}
use Rattle.claim_table.proofs.table.Table.build.Goals as goal

pub of_enabled_regions-requires-clause-order : goal.of_enabled_regions-requires-clause-order
of_enabled_regions-requires-clause-order c = rw c.host.ensures.value (ready_orderly c.args.ready.now c.host.ensures.ready)
