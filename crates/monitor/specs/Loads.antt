-- Loading an image into the guest at an index.
--     value_span f      how many bytes of a slot precede the values of its function, and how many values there are
--     slot_loaded n bytes g, slots_loaded bytes g      what a guest holds after the function in slot n, or each of its
--                                                      functions, took its values from bytes
--     CanLoad, AreLoadable      a slot, or slots, at reset, and bytes that they take
--     KeepsWorld h gs      a world that a host and guests keep
--     Takes g bytes      a guest that takes bytes
--     IsLoaded m name bytes new      the machine after the image that these bytes are was loaded into this guest
use Rattle.std.specs.Prelude.{◌≡◌, ℕ, List, [], Option, None, Ok, false, length, map, option_map, slice_set}
use Rattle.model_registers.specs.{EndpointTable.endpoint_reset, Decoding.Function}
use Rattle.model_guests.specs.{Text.Text, Slots.{Slots, slot_at}, Lone.LoneGuest, Guests.lone_of, WorldNow.WorldNow}
use Rattle.model_handoff.specs.Changes.{MachineNow}
use Rattle.model_images.specs.{Images.{Image, restored, function_at_reset, FitsSlot}, Requests.loads, RequestLaws.after_request_on_machine, ByteLaws.AreBytes, LoadedBytes.{after_slots, load_fault}, LoadedLaws.IsFittingImage, TakenBytes.{values_begin, taken_slot, taken_slots}}
use Rattle.host_bridge.specs.HostState.{HostState}
use Rattle.monitor.specs.{declared.guest.Guest.Guest, Keeping.IsKept}

abbrev pub value_span : Function → ℕ × ℕ
value_span f = (values_begin f.decl, length (endpoint_reset f.decl false))

abbrev pub slot_loaded : ℕ → List ℕ → LoneGuest → LoneGuest
slot_loaded n bytes g =
    record g { slots = slice_set g.slots n (option_map restored (taken_slot (slot_at g.slots n) bytes)) }

abbrev pub slots_loaded : List ℕ → LoneGuest → LoneGuest
slots_loaded bytes g = record g { slots = map (option_map restored) (taken_slots g.slots bytes) }

pub record CanLoad (f : Option Function) (bytes : List ℕ) : Type 0 where
  pub at_reset : f ≡ function_at_reset f
  pub fits : FitsSlot (taken_slot f bytes) f
  pub are_bytes : AreBytes bytes

pub record AreLoadable (fs : Slots) (bytes : List ℕ) : Type 0 where
  pub at_reset : fs ≡ map function_at_reset fs
  pub taken : after_slots fs bytes ≡ Ok []
  pub are_bytes : AreBytes bytes

pub record KeepsWorld (h : HostState) (gs : List Guest) : Type 0 where
  pub world : WorldNow
  pub names : List Text
  pub kept : IsKept world h names gs

pub record Takes (g : LoneGuest) (bytes : List ℕ) : Type 0 where
  pub accepted : load_fault g bytes ≡ None
  pub are_bytes : AreBytes bytes

pub record IsLoaded (m : MachineNow) (name : Text) (bytes : List ℕ) (new : MachineNow) : Type 0 where
  pub image : Image
  pub is_image : IsFittingImage (lone_of m.world.guests name) bytes image
  pub machine : new ≡ after_request_on_machine m (loads name image)
