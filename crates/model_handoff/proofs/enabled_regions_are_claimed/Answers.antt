use Rattle.model_handoff.proofs.Regions.{region_is_claimed, hit_reaches_over}
use Rattle.model_handoff.proofs.enabled_regions_are_claimed.Goals as goal

pub returns : goal.returns
returns c = record { claimed = region_is_claimed; hits = hit_reaches_over }
