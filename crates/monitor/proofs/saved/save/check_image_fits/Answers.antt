use Rattle.std.{proofs.Common.{◌≡◌, ◌∙◌, Ok, Err, List, Option, [], ap, subst, arith}, specs.Prelude.{IfErr, IfOk, map}}
use Rattle.model_images.specs.LoadedBytes.{Left, after_slots}
use Rattle.images.specs.Faults.{number_of}
use Rattle.monitor.{specs.{declared.guest.AssignedFunction.AssignedFunction, ShownImages.lone_shown, Views.slot_shown}, proofs.SavedImages.{header_ends, slots_decide}}
use Rattle.monitor.proofs.saved.save.check_image_fits.Goals as goal

pub returns-in_err-bytes-clause-refused : goal.returns-in_err-bytes-clause-refused
returns-in_err-bytes-clause-refused c =
    let e = header_ends (lone_shown c.args.host.now.state.functions c.args.guest.now) c.args.bytes.now (number_of c.in_err-bytes.field-0.0) c.in_err-bytes.ensures.refused in
    grind arith

pub returns-clause-refused : goal.returns-clause-refused
returns-clause-refused c =
    let fs = c.args.host.now.state.functions in
    let same = ap (λ (os : List (Option AssignedFunction)). after_slots (map (slot_shown fs) os) c.in_ok-bytes-2.bytes.now) c.deref.ensures.value in
    let decides = slots_decide (lone_shown fs c.args.guest.now) c.args.bytes.now c.in_ok-bytes.bytes.now c.in_ok-bytes.ensures.left c.in_ok-bytes-2.bytes.now c.in_ok-bytes-2.ensures.left in
    subst (λ (x : Left). IfErr c.check_bytes_are_slots.result (λ why. x ≡ Err (number_of why))) (same ∙ decides) c.check_bytes_are_slots.ensures.refused

pub returns-clause-all : goal.returns-clause-all
returns-clause-all c =
    let fs = c.args.host.now.state.functions in
    let same = ap (λ (os : List (Option AssignedFunction)). after_slots (map (slot_shown fs) os) c.in_ok-bytes-2.bytes.now) c.deref.ensures.value in
    let decides = slots_decide (lone_shown fs c.args.guest.now) c.args.bytes.now c.in_ok-bytes.bytes.now c.in_ok-bytes.ensures.left c.in_ok-bytes-2.bytes.now c.in_ok-bytes-2.ensures.left in
    subst (λ (x : Left). IfOk c.check_bytes_are_slots.result (λ _. x ≡ Ok [])) (same ∙ decides) c.check_bytes_are_slots.ensures.all
