-- A guest by its index is the guest of its name.
use Rattle.std.{proofs.Common.{◌≡◌, ℕ, ◌<◌, List, [], length, Some, Option, slice_get, refl, sym, ap, ◌∙◌, subst}, specs.{Option.option_map_or, Prelude.IsSome}}
use Rattle.lists.proofs.Indices.{at_below, set_same}
use Rattle.model_guests.{specs.{Lone.{reset_guest, LoneGuest}, Guests.{GuestNow, GuestsNow, guest_named, lone_of, with_guest}, WorldNow.WorldNow, Text.Text}, proofs.Along.by_index}
use Rattle.host_bridge.specs.HostState.{HostState}
use Rattle.monitor.{specs.{ByIndex.{guest_nth, name_nth, lone_nth, with_lone_nth}, declared.guest.Guest.Guest, Keeping.IsKept}, proofs.Steps.nth_there}

pub nth_stands : (w : WorldNow) (i : ℕ) → i < length w.guests → slice_get w.guests i ≡ Some (guest_nth w i)
nth_stands w i inside = let one = at_below w.guests i inside in one.1 ∙ ap Some (nth_there w i one.0 one.1)

-- a guest that is set to what it is
pub same_nth : (w : WorldNow) (i : ℕ) → i < length w.guests → w ≡ with_lone_nth i (lone_nth w i) w
same_nth w i inside = ap (λ (xs : GuestsNow). record w { guests = xs }) (sym (set_same w.guests i (guest_nth w i) (nth_stands w i inside)))

module _ {w : WorldNow} {h : HostState} {names : List Text} {gs : List Guest} (kept : IsKept w h names gs) (i : ℕ) (inside : i < length w.guests) where
  pub there_nth : IsSome (guest_named w.guests (name_nth w i))
  there_nth = subst IsSome (sym (by_index w.guests kept.lawful.seated.names_apart i (guest_nth w i) (nth_stands w i inside)).0) refl

  pub lone_by_name : lone_nth w i ≡ lone_of w.guests (name_nth w i)
  lone_by_name = ap (λ (o : Option GuestNow). option_map_or (λ (g : GuestNow). g.lone) o (reset_guest [])) (sym (by_index w.guests kept.lawful.seated.names_apart i (guest_nth w i) (nth_stands w i inside)).0)

  pub changed_by_name : (change : LoneGuest → LoneGuest) → with_lone_nth i (change (lone_nth w i)) w ≡ record w { guests = with_guest (λ (g : GuestNow). record g { lone = change g.lone }) (name_nth w i) w.guests }
  changed_by_name change =
      ap (λ (xs : GuestsNow). record w { guests = xs }) (sym ((by_index w.guests kept.lawful.seated.names_apart i (guest_nth w i) (nth_stands w i inside)).1 (λ (g : GuestNow). record g { lone = change g.lone })))
