use Rattle.std.{proofs.{Common.{◌≡◌, ◌∙◌, Some, ap, sym, arith}, lemmas.Bool.le-leb}, specs.Prelude.slice_get}
use Rattle.lists.proofs.Indices.{read_at}
use Rattle.monitor.{specs.{declared.guest.Guest.Guest, Moves.is_taken}, proofs.GiftSteps.{past_assign_error, absent_assign_error, had_assign_error, full_assign_error, closed_assign_error, made, lawful_bases}}
use Rattle.monitor.proofs.slots.assign_checks.try_new_assigned_function.Goals as goal

pub returns-then-slot-gt31 : goal.returns-then-slot-gt31
returns-then-slot-gt31 c = λ w names kept. past_assign_error w c.args.host.now names c.args.guests.now kept c.args.path.now c.args.guest c.args.slot (le-leb 32 c.args.slot (omega (arith, c.if-slot-gt31.true)))

pub returns-in_default : goal.returns-in_default
returns-in_default c = λ w names kept. absent_assign_error w c.args.host.now names c.args.guests.now kept c.args.path.now c.args.guest c.args.slot c.if-slot-gt31.false c.in_default.ensures.none

pub returns-then-is_assigned_to_any : goal.returns-then-is_assigned_to_any
returns-then-is_assigned_to_any c = λ w names kept.
    had_assign_error w c.args.host.now names c.args.guests.now kept c.args.path.now c.args.guest c.args.slot c.if-slot-gt31.false c.in-Some.index c.in-Some.ensures.there (sym c.is_assigned_to_any.ensures ∙ c.if-is_assigned_to_any.true)

pub returns-then-is_slot_occupied : goal.returns-then-is_slot_occupied
returns-then-is_slot_occupied c = grind (arith, read_at, full_assign_error)

pub returns-then-has_disabled_region : goal.returns-then-has_disabled_region
returns-then-has_disabled_region c = λ w names kept.
    let g : Guest = c.index-guests-guest.result in
    let there : slice_get c.args.guests.now c.args.guest ≡ Some g = read_at c.args.guests.now c.args.guest g c.requires.inside c.index-guests-guest.is in
    let items : c.deref.result.now ≡ g.slots.items = c.deref.ensures.value ∙ ap (λ (x : Guest). x.slots.items) (sym c.index-guests-guest.is) in
    closed_assign_error w c.args.host.now names c.args.guests.now kept c.args.path.now c.args.guest c.args.slot c.if-slot-gt31.false c.in-Some.index c.in-Some.ensures.there (sym c.is_assigned_to_any.ensures ∙ c.if-is_assigned_to_any.false)
    g there (ap (λ os. is_taken os c.args.slot) (sym items) ∙ sym c.is_slot_occupied.ensures ∙ c.if-is_slot_occupied.false)
    (sym (c.has_disabled_region.ensures _ c.in-Some.ensures.there.there) ∙ c.if-has_disabled_region.true)

pub new_assigned_function-requires : goal.new_assigned_function-requires
new_assigned_function-requires c = lawful_bases c.args.host.now.state c.requires.board c.args.path.now c.in-Some.index c.in-Some.ensures.there

pub returns : goal.returns
returns c = λ w names kept.
    let g : Guest = c.index-guests-guest.result in
    let there : slice_get c.args.guests.now c.args.guest ≡ Some g = read_at c.args.guests.now c.args.guest g c.requires.inside c.index-guests-guest.is in
    let items : c.deref.result.now ≡ g.slots.items = c.deref.ensures.value ∙ ap (λ (x : Guest). x.slots.items) (sym c.index-guests-guest.is) in
    made w c.args.host.now names c.args.guests.now kept c.args.path.now c.args.guest c.args.slot c.if-slot-gt31.false c.in-Some.index c.in-Some.ensures.there (sym c.is_assigned_to_any.ensures ∙ c.if-is_assigned_to_any.false)
    g there (ap (λ os. is_taken os c.args.slot) (sym items) ∙ sym c.is_slot_occupied.ensures ∙ c.if-is_slot_occupied.false)
    (sym (c.has_disabled_region.ensures _ c.in-Some.ensures.there.there) ∙ c.if-has_disabled_region.false) c.new_assigned_function.result (c.new_assigned_function.ensures c.args.path.now)
