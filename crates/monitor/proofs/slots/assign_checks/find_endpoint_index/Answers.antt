use Rattle.std.proofs.Common.{Some, sym, ap, ◌∙◌, subst}
use Rattle.bars.specs.Slots.{bases_from}
use Rattle.bridge_forward.specs.{ByIndex.ranges_told, declared.by_index.ProgrammedRanges.ProgrammedRanges}
use Rattle.monitor.proofs.GiftSteps.{AreWindows, not_there, endpoint_there, windows_at, none_at}
use Rattle.monitor.proofs.slots.assign_checks.find_endpoint_index.Goals as goal

pub returns-in_default-clause-none : goal.returns-in_default-clause-none
returns-in_default-clause-none c = not_there c.args.host.now.state c.args.path.now c.in_default.ensures.function

pub returns-in-Some-Regions-clause-there : goal.returns-in-Some-Regions-clause-there
returns-in-Some-Regions-clause-there c = endpoint_there c.args.host.now.state c.args.path.now c.in-Some.index c.in-Some.ensures.function (bases_from 0 c.in-Some-Regions.field-0-0)
    (ap (λ (r : ProgrammedRanges). Some (ranges_told r)) (sym c.in-Some-Regions.field-0-is) ∙ c.in-Some-Regions.ensures)

pub returns-in-Some-Windows-clause-none : goal.returns-in-Some-Windows-clause-none
returns-in-Some-Windows-clause-none c = windows_at c.args.host.now.state c.args.path.now c.in-Some.index c.in-Some.ensures.function c.in-Some-Windows.field-0
    (subst AreWindows (sym c.in-Some-Windows.field-0-is) tt) c.in-Some-Windows.ensures

pub returns-in-None-clause-none : goal.returns-in-None-clause-none
returns-in-None-clause-none c = none_at c.args.host.now.state c.args.path.now c.in-Some.index c.in-Some.ensures.function c.in-None.ensures
