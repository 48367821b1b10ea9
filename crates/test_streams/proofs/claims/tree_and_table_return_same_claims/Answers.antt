use Rattle.std.proofs.Common.{ap}
use Rattle.model_board.specs.Routing.{routing}
use Rattle.test_streams.proofs.claims.tree_and_table_return_same_claims.Goals as goal

-- the host is the one that the table was made for
pub claimant-requires-in-loop-space : goal.claimant-requires-in-loop-space
claimant-requires-in-loop-space g c = c.in_ok-table.ensures _ (ap (λ p. routing p.0.state.functions) c.into_parts-host.ensures.parts)
