use Rattle.std.proofs.{Common.{◌<◌, ◌∙◌, false, ap, length, refl, subst, sym}, lemmas.Option.slice_get_within}
use Rattle.lists.proofs.Indices.{at_below}
use Rattle.model_registers.specs.ConfigAddress.{latched}
use Rattle.model_guests.specs.{Lone.LoneGuest, WorldNow.WorldNow}
use Rattle.model_images.{specs.TakenBytes.taken_image, proofs.TakenBytes.image_is_taken}
use Rattle.monitor.{specs.{declared.guest.Guest.Guest, ByIndex.lone_nth, Counts.counts_of, Keeping.IsKept, Loads.KeepsWorld}, proofs.{Counts.set_counted, Steps.kept_nth, LoadedWorlds.{all_loaded_is, latch_kept, latch_read, loadable_at_reset, world_at_reset}}}
use Rattle.monitor.proofs.saved.load.reset_and_load_image.Goals as goal

pub load_slots-requires-clause-there : goal.load_slots-requires-clause-there
load_slots-requires-clause-there c =
    let within : c.args.guest < length c.args.guests.now = slice_get_within c.args.guests.now c.args.guest c.requires.has.guest c.requires.has.there in
    subst (λ n. c.args.guest < n) (sym c.reset_guest_and_count.auto.guests) within

pub load_slots-requires-clause-can : goal.load_slots-requires-clause-can
load_slots-requires-clause-can c =
    let k = c.requires.takes.0 in
    let at = kept_nth k.kept c.requires.has.there in
    let reset : KeepsWorld c.reset_guest_and_count.new.host c.reset_guest_and_count.new.guests = record { world = world_at_reset at c.args.bytes.now; names = k.names; kept = c.reset_guest_and_count.ensures.kept k.world k.names k.kept } in
    (reset, loadable_at_reset at c.args.bytes.now c.requires.takes.1 c.skip_up_to.result.now c.skip_up_to.ensures)

pub returns-clause-kept : goal.returns-clause-kept
returns-clause-kept c = λ k takes.
    let at = kept_nth k.kept c.requires.has.there in
    let l : LoneGuest = lone_nth k.world c.args.guest in
    let reset : KeepsWorld c.reset_guest_and_count.new.host c.reset_guest_and_count.new.guests = record { world = world_at_reset at c.args.bytes.now; names = k.names; kept = c.reset_guest_and_count.ensures.kept k.world k.names k.kept } in
    let filled = c.load_slots.ensures.kept reset (loadable_at_reset at c.args.bytes.now takes c.skip_up_to.result.now c.skip_up_to.ensures) in
    let within : c.args.guest < length c.args.guests.now = slice_get_within c.args.guests.now c.args.guest c.requires.has.guest c.requires.has.there in
    let one = at_below c.load_slots.new.guests c.args.guest (subst (λ n. c.args.guest < n) (sym (c.load_slots.auto.guests ∙ c.reset_guest_and_count.auto.guests)) within) in
    let latch = latch_read l c.args.bytes.now c.skip_up_to-2.result.now c.latch_or_zero.result takes.accepted c.skip_up_to-2.ensures c.latch_or_zero.ensures in
    let image = image_is_taken l c.args.bytes.now takes.accepted in
    subst (λ (v : WorldNow). IsKept v c.load_slots.new.host k.names c.write_latch.new.guests) (all_loaded_is at c.args.bytes.now c.skip_up_to.result.now c.skip_up_to.ensures)
    (latch_kept (kept_nth filled one.1) (taken_image l c.args.bytes.now).latch c.latch_or_zero.result latch image.latch (c.write_latch.ensures one.0 one.1))

pub returns-clause-counts : goal.returns-clause-counts
returns-clause-counts c =
    let within : c.args.guest < length c.args.guests.now = slice_get_within c.args.guests.now c.args.guest c.requires.has.guest c.requires.has.there in
    let one = at_below c.load_slots.new.guests c.args.guest (subst (λ n. c.args.guest < n) (sym (c.load_slots.auto.guests ∙ c.reset_guest_and_count.auto.guests)) within) in
    let k : Guest = record one.0 { latch = latched c.latch_or_zero.result } in
    ap counts_of (c.write_latch.ensures one.0 one.1) ∙ set_counted c.load_slots.new.guests c.args.guest one.0 k false one.1 refl
    ∙ c.load_slots.ensures.counts ∙ c.reset_guest_and_count.ensures.counts
