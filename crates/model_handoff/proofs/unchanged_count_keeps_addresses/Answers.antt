use Rattle.model_handoff.proofs.Counting.{regions_stay_along, changes_touch_slots, counts_grow, answers_stay}
use Rattle.model_handoff.proofs.unchanged_count_keeps_addresses.Goals as goal

pub returns : goal.returns
returns c = record { along = regions_stay_along; touched = changes_touch_slots; counts = counts_grow; stay = answers_stay }
