use Rattle.std.proofs.Common.{◌∙◌}
use Rattle.window_packing.proofs.SetUps.{kept_placeable, rules_after_scan}
use Rattle.board_fit.proofs.judging.check_placeable.Goals as goal

pub returns-clause-kept : goal.returns-clause-kept
returns-clause-kept c = λ b is. rules_after_scan b c.args.apertures.now is.few ∙ kept_placeable b c.args.apertures.now (c.in_ok-plan.ensures.placeable b is)
