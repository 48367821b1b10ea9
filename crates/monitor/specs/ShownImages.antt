-- The image of a guest, built from the functions that the host shows.
--     lone_shown fs g      what a guest alone holds
--     slot_image fs o, slots_image fs os      the bytes of a slot in an image, and of slots
--     HasPlaces o      a function in a slot has its cells where its declaration has them at reset
--     HavePlaces fs os      so has each that is shown in these slots
use Rattle.std.specs.Prelude.{List, ℕ, Option, Some, None, ⊤, map, flat_map}
use Rattle.lists.specs.Elements.{Each}
use Rattle.model_registers.specs.Decoding.{Function}
use Rattle.model_board.specs.State.{BoardFunction}
use Rattle.model_guests.specs.Lone.{LoneGuest}
use Rattle.images.specs.Shown.{HasDeclaredPlaces, slot_bytes}
use Rattle.monitor.specs.{declared.guest.{AssignedFunction.AssignedFunction, Guest.Guest}, Views.slot_shown}

abbrev pub lone_shown : List BoardFunction → Guest → LoneGuest
lone_shown fs g = record { slots = map (slot_shown fs) g.slots.items; latch = g.latch }

abbrev pub slot_image : List BoardFunction → Option AssignedFunction → List ℕ
slot_image fs o = slot_bytes (slot_shown fs o)

abbrev pub slots_image : List BoardFunction → List (Option AssignedFunction) → List ℕ
slots_image fs os = flat_map (slot_image fs) os

abbrev pub HasPlaces : Option Function → Type 0
HasPlaces None = ⊤
HasPlaces (Some f) = HasDeclaredPlaces f

abbrev pub HavePlaces : List BoardFunction → List (Option AssignedFunction) → Type 0
HavePlaces fs os = Each (λ (o : Option AssignedFunction). HasPlaces (slot_shown fs o)) os
