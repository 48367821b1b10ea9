use Rattle.std.{proofs.Common.{◌≡◌, Ok, Err, subst}, specs.Prelude.{IfErr, IfOk}}
use Rattle.model_images.specs.LoadedBytes.{Left}
use Rattle.images.specs.Faults.{number_of}
use Rattle.monitor.{specs.Views.slot_shown, proofs.SavedImages.{empty_after, filled_after}}
use Rattle.monitor.proofs.saved.save.strip_slot.Goals as goal

pub returns-in-Some-clause-left : goal.returns-in-Some-clause-left
returns-in-Some-clause-left c =
    subst (λ (x : Left). IfOk c.strip_fitting_slot.result (λ rest. x ≡ Ok rest.now)) (filled_after (slot_shown c.args.host.now.state.functions c.args.slot.now) _ c.args.bytes.now c.in-Some.ensures) c.strip_fitting_slot.ensures.left

pub returns-in-Some-clause-refused : goal.returns-in-Some-clause-refused
returns-in-Some-clause-refused c =
    subst (λ (x : Left). IfErr c.strip_fitting_slot.result (λ why. x ≡ Err (number_of why))) (filled_after (slot_shown c.args.host.now.state.functions c.args.slot.now) _ c.args.bytes.now c.in-Some.ensures) c.strip_fitting_slot.ensures.refused

pub returns-in-None-clause-left : goal.returns-in-None-clause-left
returns-in-None-clause-left c =
    subst (λ (x : Left). IfOk c.strip_slot_tag.result (λ rest. x ≡ Ok rest.now)) (empty_after (slot_shown c.args.host.now.state.functions c.args.slot.now) c.args.bytes.now c.in-None.ensures) c.strip_slot_tag.ensures.left

pub returns-in-None-clause-refused : goal.returns-in-None-clause-refused
returns-in-None-clause-refused c =
    subst (λ (x : Left). IfErr c.strip_slot_tag.result (λ why. x ≡ Err (number_of why))) (empty_after (slot_shown c.args.host.now.state.functions c.args.slot.now) c.args.bytes.now c.in-None.ensures) c.strip_slot_tag.ensures.refused
