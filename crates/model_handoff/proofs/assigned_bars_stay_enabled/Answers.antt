use Rattle.model_handoff.proofs.{Served.{served_at_first, served_after_events, served_after_moves, fault_decides}, Kept.{lawful_at_first, lawful_after, lawful_along}}
use Rattle.model_handoff.proofs.assigned_bars_stay_enabled.Goals as goal

pub returns : goal.returns
returns c = search (served_at_first, served_after_events, served_after_moves, fault_decides, lawful_at_first, lawful_after, lawful_along)
