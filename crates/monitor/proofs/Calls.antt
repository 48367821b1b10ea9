-- A call of an engine: the world that is kept as it begins, and what the call leaves.
use Rattle.std.proofs.{Common.{List, drop, get_or, length, refl, subst, sym, take, ℕ, ◌++◌, ◌<◌, ◌≡◌, rules, arith}, lemmas.{List.take_at, Option.slice_get_read}}
use Rattle.lists.proofs.Indices.{at_below}
use Rattle.model_board.specs.Routing.{routing}
use Rattle.model_guests.specs.{Text.Text, WorldNow.WorldNow}
use Rattle.model_handoff.{specs.Changes.MachineNow, proofs.Keeping.keeps_routing}
use Rattle.model_images.specs.SavedLaws.{CanBeSaved}
use Rattle.host_bridge.specs.HostState.{HostState}
use Rattle.monitor.{specs.{declared.guest.Guest.Guest, Keeping.{IsKept, IsSound}, Views.{machine_shown, world_shown}}, proofs.{Steps.{GuestAt, guests_within, kept_nth}, Shown.is_shown}}

-- ---- as it begins

module _ {h : HostState} {names : List Text} {gs : List Guest} (sound : IsSound h names gs) {now : MachineNow} (view : machine_shown h names gs ≡ now) where
  pub kept_in : IsKept now.world h names gs
  kept_in = subst (λ (m : MachineNow). IsKept m.world h names gs) view sound.kept

  pub savable_in : CanBeSaved now.world
  savable_in = subst (λ (m : MachineNow). CanBeSaved m.world) view sound.savable

  pub inside_guests : (i : ℕ) → i < length now.world.guests → i < length gs
  inside_guests i inside = search (rules, guests_within, kept_in)

  -- the guest that code reads at an index
  pub guest_in : (i : ℕ) {g : Guest} → i < length now.world.guests → g ≡ get_or gs i g → GuestAt now.world h names gs i g
  guest_in i {g} inside is = kept_nth kept_in (slice_get_read gs (length gs) i g refl (inside_guests i inside) is)

  pub guest_at : (i : ℕ) → i < length now.world.guests → (g : Guest) × GuestAt now.world h names gs i g
  guest_at i inside = let one = at_below gs i (inside_guests i inside) in (one.0, kept_nth kept_in one.1)

-- ---- as it ends

-- the world v; routes to claims stay
pub record Leaves (v : WorldNow) (h new : HostState) (names : List Text) (gs : List Guest) : Type 0 where
  pub kept : IsKept v new names gs
  pub routes : routing h.state.functions ≡ routing new.state.functions
  pub world : world_shown new names gs ≡ v

pub leaves : {w v : WorldNow} {h new : HostState} {names : List Text} {gs back : List Guest} → IsKept w h names gs → IsKept v new names back → routing w.handoff.functions ≡ routing v.handoff.functions → Leaves v h new names back
leaves {w} {v} {h} {new} {names} {gs} {back} before after same = grind (arith, is_shown, keeps_routing)

-- the guests were lent
pub back_in : {v : WorldNow} {h new : HostState} {names : List Text} {left : List Guest} (gs : List Guest) (n : ℕ) → length left ≡ n → Leaves v h new names left
    → Leaves v h new names (take n (left ++ drop (length left) gs))
back_in {v} {h} {new} {names} {left} gs n count is = subst (Leaves v h new names) (sym (take_at left (drop (length left) gs) n count)) is
