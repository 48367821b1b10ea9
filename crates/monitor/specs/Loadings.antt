-- A function in a guest's slot while it is loaded with the values of an image.
--     with_slot_nth i n o w      the world in which slot n of guest i has this
--     KeepsFunction h gs i n      a world that a host and guests keep, in which slot n of guest i has the function f
--     Becomes k file new back      what they keep once this function has these cells, and nothing else changed
--     regions_size rs      how many values the base address registers and the cells of regions have
--     filled_with vs f      the function with these values
--     IsLoadable k vs      the function is at reset, and its cells can hold these bytes
use Rattle.std.specs.Prelude.{ℕ, ◌+◌, ◌≡◌, ◌<◌, List, [], ◌∷◌, length, Option, Some, false, IsTrue, slice_set}
use Rattle.lists.specs.Elements.{Each}
use Rattle.model_registers.specs.{Declarations.Region, Registers.File, EndpointTable.endpoint_reset, Decoding.Function}
use Rattle.model_guests.specs.{Text.Text, Slots.slot_at, WorldNow.WorldNow}
use Rattle.model_images.specs.{Images.{SavedFunction, fits_declaration}, StepLaws.base_size}
use Rattle.host_bridge.specs.HostState.{HostState}
use Rattle.monitor.specs.{declared.guest.Guest.Guest, ByIndex.{lone_nth, with_lone_nth}, Configs.HoldsAt, Keeping.IsKept}

abbrev pub with_slot_nth : ℕ → ℕ → Option Function → WorldNow → WorldNow
with_slot_nth i n o w = with_lone_nth i (record (lone_nth w i) { slots = slice_set (lone_nth w i).slots n o }) w

pub record KeepsFunction (h : HostState) (gs : List Guest) (i n : ℕ) : Type 0 where
  pub world : WorldNow
  pub names : List Text
  pub kept : IsKept world h names gs
  pub f : Function
  pub function : slot_at (lone_nth world i).slots n ≡ Some f
  pub holds : HoldsAt gs i n

pub record Becomes {h : HostState} {gs : List Guest} {i n : ℕ} (k : KeepsFunction h gs i n) (file : File)
    (new : HostState) (back : List Guest) : Type 0 where
  pub kept : IsKept (with_slot_nth i n (Some (record k.f { file = file })) k.world) new k.names back
  pub holds : HoldsAt back i n

abbrev pub regions_size : List Region → ℕ
regions_size [] = 0
regions_size (r ∷ rs) = base_size r + length r.cells + regions_size rs

abbrev pub filled_with : List ℕ → Function → SavedFunction
filled_with vs f = record { decl = f.decl; values = vs }

pub record IsLoadable {h : HostState} {gs : List Guest} {i n : ℕ} (k : KeepsFunction h gs i n) (vs : List ℕ) : Type 0 where
  pub at_reset : k.f.file ≡ endpoint_reset k.f.decl false
  pub fits : IsTrue (fits_declaration (filled_with vs k.f))
  pub bytes : Each (λ v. v < 256) vs
