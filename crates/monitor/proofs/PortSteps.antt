-- Where an access at a guest's port goes, from the program's word, and a write of its own latch.
use Rattle.std.proofs.Common.{◌≡◌, ℕ, false, [], None, refl, sym, List, Some, slice_get, slice_set, subst, arith}
use Rattle.model_registers.specs.ConfigAddress.{is_address_port, latched}
use Rattle.model_guests.specs.{Accesses.{port, Op, reads, writes}, Slots.perform, Lone.{own_latch, no_function, reply_at, after_access_at, destination, by_select, ordinary, nowhere, in_slot}, Text.Text, WorldNow.WorldNow}
use Rattle.paths.specs.declared.latch.Select.{Select}
use Rattle.host_bridge.specs.HostState.{HostState}
use Rattle.monitor.{specs.{declared.guest.Guest.Guest, Keeping.IsKept, ByIndex.{lone_nth, with_lone_nth}}, proofs.{Steps.{GuestAt, kept_latch}, Calls.{Leaves, leaves}}}
use Rattle.paths.specs.Latches as program
use Rattle.model_guests.specs.Lone as lone
use Rattle.paths.specs.declared.latch.Select.TheVariants as select

abbrev pub named_select : Select → lone.Select
named_select select.Ordinary = ordinary
named_select select.Nowhere = nowhere
named_select (select.Slot n off) = in_slot n off

pub destination_is : {latch own : ℕ} (a width : ℕ) {s : Select} → own ≡ latch → is_address_port a width ≡ false → s ≡ program.select_at own a → by_select (port a) (named_select s) ≡ destination latch width (port a)
destination_is {latch} {own} a width {s} same not_latch is = grind arith

-- where nothing answers
pub nothing_at : (l : lone.LoneGuest) (op : Op) (w : ℕ) → perform op w [] None ≡ reply_at l op w no_function
nothing_at l reads w = refl
nothing_at l (writes v) w = refl

pub nothing_after : (l : lone.LoneGuest) (op : Op) (w : ℕ) → l ≡ after_access_at l op w no_function
nothing_after l reads w = refl
nothing_after l (writes v) w = refl

-- ---- the own latch

pub latch_lent : {gs ms left : List Guest} (i v : ℕ) {g : Guest} → ms ≡ gs → slice_get gs i ≡ Some g
    → ((k : Guest) → slice_get ms i ≡ Some k → left ≡ slice_set ms i (record k { latch = latched v })) → left ≡ slice_set gs i (record g { latch = latched v })
latch_lent {gs} {ms} {left} i v {g} same there written = grind arith

pub latch_written : {w : WorldNow} {h : HostState} {names : List Text} {gs : List Guest} {i : ℕ} {g : Guest} → GuestAt w h names gs i g → (v : ℕ) {left : List Guest} → left ≡ slice_set gs i (record g { latch = latched v })
    → Leaves (with_lone_nth i (after_access_at (lone_nth w i) (writes v) 4 own_latch) w) h h names left
latch_written {w} {h} {names} {gs} {i} {g} at v is = leaves at.kept
    (subst (IsKept (with_lone_nth i (after_access_at (lone_nth w i) (writes v) 4 own_latch) w) h names) (sym is)
    (kept_latch at (latched v) (record g { latch = latched v }) refl refl))
    refl
