use Rattle.std.proofs.Common.{◌≡◌, ◌∙◌, Some, None, ap, slice_get, sym, take}
use Rattle.lists.proofs.Indices.{read_at}
use Rattle.model_guests.specs.Slots.{slot_at}
use Rattle.monitor.{specs.{declared.guest.Guest.Guest, ByIndex.lone_nth, Loads.KeepsWorld}, proofs.{Steps.{GuestAt, kept_nth}, LoadedWorlds.{Filled, empty_behind, empty_kept, filled_at, filled_behind, is_loadable, keeps_function, none_of, slot_is, slot_kept}}}
use Rattle.monitor.proofs.saved.load.load_slot_and_advance.Goals as goal

-- in a world that is kept, an empty slot
module _ (c : goal.After-skip_up_to) (k : KeepsWorld c.args.host.now c.args.guests.now) where
  guest_there : GuestAt k.world c.args.host.now k.names c.args.guests.now c.args.guest c.index-guests-guest.result
  guest_there = kept_nth k.kept (read_at c.args.guests.now c.args.guest c.index-guests-guest.result c.requires.there c.index-guests-guest.is)

  empty : slot_at (lone_nth k.world c.args.guest).slots c.args.slot ≡ None
  empty =
      sym (slot_is guest_there c.args.slot (c.deref.ensures.value ∙ ap (λ (x : Guest). x.slots.items) (sym c.index-guests-guest.is)))
      ∙ none_of _ (sym c.in_default.is ∙ c.values_offset_and_count.ensures)

pub returns-in_default-clause-kept : goal.returns-in_default-clause-kept
returns-in_default-clause-kept c = λ k can. empty_kept (guest_there c k) c.args.slot (empty c k) c.args.bytes.now

pub returns-in_default-clause-behind : goal.returns-in_default-clause-behind
returns-in_default-clause-behind c = λ k. empty_behind (guest_there c k) c.args.slot (empty c k) c.args.bytes.now _ c.skip_up_to.ensures

pub load_function-requires : goal.load_function-requires
load_function-requires c =
    let k : KeepsWorld c.args.host.now c.args.guests.now = c.requires.can.0 in
    let g : Guest = c.index-guests-guest.result in
    let there : slice_get c.args.guests.now c.args.guest ≡ Some g = read_at c.args.guests.now c.args.guest g c.requires.there c.index-guests-guest.is in
    let items : c.deref.result.now ≡ g.slots.items = c.deref.ensures.value ∙ ap (λ (x : Guest). x.slots.items) (sym c.index-guests-guest.is) in
    let at = kept_nth k.kept there in
    let is = filled_at (slot_is at c.args.slot items) c.in-Some.first c.in-Some.count c.in-Some.ensures in
    let are = c.take_up_to.ensures ∙ ap (take c.in-Some.count) c.skip_up_to-bytes.ensures in
    (keeps_function at c.args.slot c.in-Some.first c.in-Some.count is, is_loadable at c.args.slot c.in-Some.first c.in-Some.count is c.args.bytes.now c.take_up_to.result.now are c.requires.can.1)

-- and a slot with a function
module _ (c : goal.After-skip_up_to-2) (k : KeepsWorld c.args.host.now c.args.guests.now) where
  at : GuestAt k.world c.args.host.now k.names c.args.guests.now c.args.guest c.index-guests-guest.result
  at = kept_nth k.kept (read_at c.args.guests.now c.args.guest c.index-guests-guest.result c.requires.there c.index-guests-guest.is)

  filled : Filled (slot_at (lone_nth k.world c.args.guest).slots c.args.slot) c.in-Some.first c.in-Some.count
  filled =
      filled_at (slot_is at c.args.slot (c.deref.ensures.value ∙ ap (λ (x : Guest). x.slots.items) (sym c.index-guests-guest.is)))
      c.in-Some.first c.in-Some.count c.in-Some.ensures

pub returns-clause-kept : goal.returns-clause-kept
returns-clause-kept c = λ k can.
    let keeps = keeps_function (at c k) c.args.slot c.in-Some.first c.in-Some.count (filled c k) in
    let are = c.take_up_to.ensures ∙ ap (take c.in-Some.count) c.skip_up_to-bytes.ensures in
    let loadable = is_loadable (at c k) c.args.slot c.in-Some.first c.in-Some.count (filled c k) c.args.bytes.now c.take_up_to.result.now are can in
    slot_kept (at c k) c.args.slot c.in-Some.first c.in-Some.count (filled c k) c.args.bytes.now c.take_up_to.result.now are (c.load_function.ensures.loaded keeps loadable)

pub returns-clause-behind : goal.returns-clause-behind
returns-clause-behind c = λ k.
    filled_behind (at c k) c.args.slot c.in-Some.first c.in-Some.count (filled c k)
    c.args.bytes.now c.skip_up_to-bytes.result.now c.skip_up_to-2.result.now c.skip_up_to-bytes.ensures c.skip_up_to-2.ensures
