-- A machine that a call leaves, whose guests can be saved as those of the one before.
use Rattle.std.proofs.Common.{◌≡◌, ◌<◌, ℕ, zero, suc, List, [], ◌∷◌, Option, length, slice_set, subst}
use Rattle.lists.proofs.Indices.{each_at}
use Rattle.model_guests.specs.{Accesses.{Event, Op, writes}, Guests.{GuestNow, GuestsNow, lone_of}, Lone.{Destination, LoneGuest, after_access_at, after_event}, Slots.{Landing, effect}, Text.Text, WorldNow.WorldNow}
use Rattle.model_handoff.specs.{Actions.{Action, after_action}, Changes.MachineNow}
use Rattle.model_images.{specs.{ByteLaws.IsSavableGuest, Images.{Image, after_load, after_restart}, LoadedLaws.IsFittingImage, SavedLaws.CanBeSaved}, proofs.{ImageBytes.read_are_bytes, KeptFunctions.{Has, access_holds, effect_holds, event_holds}, SavedWorlds.{AllHold, HoldsWritable, all_hold, saved_after_action, saved_after_load, saved_after_restart, saved_by, writable_kept}}}
use Rattle.host_bridge.specs.HostState.{HostState}
use Rattle.monitor.{specs.{declared.guest.Guest.Guest, ByIndex.{guest_nth, lone_nth, name_nth, with_lone_nth}, Keeping.IsSound, Views.machine_shown}, proofs.{Calls.{Leaves, kept_in, savable_in}, Named.{lone_by_name, nth_stands}, Shown.is_sound}}

set_holds : (gs : GuestsNow) (i : ℕ) (x : GuestNow) → AllHold gs → Has HoldsWritable x.lone → AllHold (slice_set gs i x)
set_holds [] i x all h = tt
set_holds (g ∷ gs) zero x all h = (h, all.1)
set_holds (g ∷ gs) (suc i) x all h = (all.0, set_holds gs i x all.1 h)

module _ {h : HostState} {names : List Text} {gs : List Guest} (sound : IsSound h names gs) {now : MachineNow} (view : machine_shown h names gs ≡ now) where
  abbrev w : WorldNow
  w = now.world

  can : CanBeSaved w
  can = savable_in sound view

  hold : AllHold w.guests
  hold = all_hold w.guests can.guests

  pub after_action_sound : (a : Action) {new : HostState} {back : List Guest} → Leaves (after_action w a) h new names back → IsSound new names back
  after_action_sound a {new} {back} left = is_sound (after_action w a) new names back left.kept (saved_after_action w can a left.kept.lawful) sound.lawful_names

  -- ---- a guest by its index

  module _ (i : ℕ) (inside : i < length w.guests) where
    holds : Has HoldsWritable (lone_nth w i)
    holds = each_at (λ (g : GuestNow). Has HoldsWritable g.lone) w.guests i (guest_nth w i) hold (nth_stands w i inside)

    pub savable_nth : IsSavableGuest (lone_of w.guests (name_nth w i))
    savable_nth =
        subst IsSavableGuest (lone_by_name (kept_in sound view) i inside)
        (each_at (λ (g : GuestNow). IsSavableGuest g.lone) w.guests i (guest_nth w i) can.guests (nth_stands w i inside))

    with_lone : (l : LoneGuest) → Has HoldsWritable l → {new : HostState} {back : List Guest} → Leaves (with_lone_nth i l w) h new names back → IsSound new names back
    with_lone l has {new} {back} left =
        let v = with_lone_nth i l w in
        is_sound v new names back left.kept (saved_by v left.kept.lawful can.declared (set_holds w.guests i (record (guest_nth w i) { lone = l }) hold has)) sound.lawful_names

    pub after_access_sound : (op : Op) (width : ℕ) (d : Destination) {new : HostState} {back : List Guest} → Leaves (with_lone_nth i (after_access_at (lone_nth w i) op width d) w) h new names back → IsSound new names back
    after_access_sound op width d = with_lone (after_access_at (lone_nth w i) op width d) (access_holds HoldsWritable writable_kept (lone_nth w i) op width d holds)

    pub after_event_sound : (e : Event) {new : HostState} {back : List Guest} → Leaves (with_lone_nth i (after_event (lone_nth w i) e) w) h new names back → IsSound new names back
    after_event_sound e = with_lone (after_event (lone_nth w i) e) (event_holds HoldsWritable writable_kept (lone_nth w i) e holds)

    pub after_write_sound : (v width : ℕ) (o : Option Landing) {new : HostState} {back : List Guest} → Leaves (with_lone_nth i (record (lone_nth w i) { slots = effect (writes v) width (lone_nth w i).slots o }) w) h new names back → IsSound new names back
    after_write_sound v width o =
        with_lone (record (lone_nth w i) { slots = effect (writes v) width (lone_nth w i).slots o })
        (record { latch = holds.latch; functions = effect_holds HoldsWritable writable_kept v width (lone_nth w i).slots o holds.functions })

    pub after_load_sound : (bytes : List ℕ) (image : Image) → IsFittingImage (lone_of w.guests (name_nth w i)) bytes image → {new : HostState} {back : List Guest} → Leaves (after_load (name_nth w i) image w) h new names back → IsSound new names back
    after_load_sound bytes image is {new} {back} left =
        is_sound (after_load (name_nth w i) image w) new names back left.kept (saved_after_load w can (name_nth w i) image (read_are_bytes bytes image is.image).1 is.fits left.kept.lawful) sound.lawful_names

    pub after_restart_sound : {new : HostState} {back : List Guest} → Leaves (after_restart (name_nth w i) w) h new names back → IsSound new names back
    after_restart_sound {new} {back} left = is_sound (after_restart (name_nth w i) w) new names back left.kept (saved_after_restart w can (name_nth w i) left.kept.lawful) sound.lawful_names
