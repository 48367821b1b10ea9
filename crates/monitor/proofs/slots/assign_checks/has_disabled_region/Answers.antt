use Rattle.std.proofs.Common.{◌∙◌}
use Rattle.monitor.proofs.GiftSteps.{closed_told}
use Rattle.monitor.proofs.slots.assign_checks.has_disabled_region.Goals as goal

pub returns-in-Some : goal.returns-in-Some
returns-in-Some c = λ f at.
    c.is_any_region_disabled.ensures ∙ closed_told c.args.host.now.state.functions c.args.index f at c.in-Some.command c.in-Some.ensures c.bars_with_base_nth-placed.result c.bars_with_base_nth-placed.ensures
