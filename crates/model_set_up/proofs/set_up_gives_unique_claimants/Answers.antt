use Rattle.model_set_up.proofs.UniqueClaimant.{set_up_gives_unique_claimants, claim_of_region, claim_in_any_order, rows_are_placed}
use Rattle.model_set_up.proofs.set_up_gives_unique_claimants.Goals as goal

pub returns : goal.returns
returns c = record { claims = set_up_gives_unique_claimants; of_region = claim_of_region; any_order = claim_in_any_order; rows = rows_are_placed }
