-- The world over a handoff that a monitor takes over, with its guests, is kept at first; what set-up leaves is a case.
use Rattle.std.{proofs.Common.{◌≡◌, List, refl, sym, ap, ◌∙◌, subst, rules}, specs.Prelude.{IsTrue, map}}
use Rattle.lists.specs.Elements.{Each}
use Rattle.model_board.specs.{Routing.routing, State.State}
use Rattle.model_set_up.specs.SetUp.{set_up_state}
use Rattle.model_guests.specs.{Text.Text, World.{Guest as Declared, World, HasLawfulGuests, is_name}, Guests.{GuestsNow, guests_at_first}, WorldNow.world_over}
use Rattle.model_handoff.{specs.{AfterSetUp.world_at_first, Handoffs.{IsHandoff, taken_over, with_given_reset}, Kept.IsLawfulOver, Regions.CanBeGiven}, proofs.{Alike.{IsAlike, taken_alike, taken_lawful, taken_agrees, taken_shown}, First.first_is_reset, SetUpCase.{set_up_is_handoff, set_up_can_be_given}, SetUpLaws.set_up_at_first}}
use Rattle.model_images.{specs.SavedLaws.{AreDeclared, CanBeSaved}, proofs.SavedWorlds.can_be_saved_at_first}
use Rattle.host_bridge.specs.HostState.{HostState}
use Rattle.window_packing.specs.Readies.{ReadyBoard, IsReady}
use Rattle.monitor.{specs.{declared.guest.Guest.Guest, Keeping.{AreGuests, IsKept, IsSound}, Views.world_shown, Beginnings.{world_on, world_of}}, proofs.{Carried.guests_carried, Shown.{is_shown, is_sound}}}

-- ---- a handoff

module _ (h : HostState) (ds : List Declared) (handoff : IsHandoff h.state) (lawful : HasLawfulGuests (world_on h ds)) (can : CanBeGiven (world_on h ds) h.state) where
  abbrev w : World
  w = world_on h ds

  abbrev s : State
  s = h.state

  abbrev gs : GuestsNow
  gs = guests_at_first w

  abbrev t : State
  t = taken_over w s

  alike : IsAlike s t
  alike = taken_alike w s handoff refl lawful

  taken_over_lawful : IsLawfulOver (world_over w t)
  taken_over_lawful = taken_lawful w s handoff refl lawful can

  -- of what the board declares
  pub savable_over : AreDeclared s.functions → CanBeSaved (world_over w t)
  savable_over declared = (can_be_saved_at_first w s declared).taken_over taken_over_lawful

  -- the host k that was taken over
  module _ (k : HostState) (taken : k ≡ record h { state = t }) where
    pub routing_on : routing h.state.functions ≡ routing k.state.functions
    routing_on = sym (ap (λ (x : HostState). routing x.state.functions) taken ∙ alike.routing_is)

    module _ (names : List Text) (names_are : names ≡ map (λ (g : Declared). g.name) ds) (kept_guests : List Guest) (are : AreGuests s (map (λ (g : Declared). g.name) ds) gs kept_guests) where
      pub kept_at_first : IsKept (world_over w t) k names kept_guests
      kept_at_first = search (rules, alike, guests_carried, taken_agrees, taken_lawful, taken_shown)

      pub sound_at_first : CanBeSaved (world_over w t) → IsSound k names kept_guests
      sound_at_first savable = is_sound (world_over w t) k names kept_guests kept_at_first savable (subst (Each (λ n. IsTrue (is_name n))) (sym names_are) lawful.lawful_names)

      pub shown_at_first : world_shown k names kept_guests ≡ world_over w t
      shown_at_first = is_shown (world_over w t) k names kept_guests kept_at_first

-- ---- what set-up leaves

module _ (r : ReadyBoard) (ready : IsReady r) (ds : List Declared) (lawful : HasLawfulGuests (world_of r ds)) where
  abbrev v : World
  v = world_of r ds

  abbrev left : State
  left = set_up_state v.board v.apertures

  pub ready_handoff : IsHandoff r.host.state
  ready_handoff = subst IsHandoff (sym ready.registers) (set_up_is_handoff v.board v.apertures ready.placeable.places ready.placeable.declarations).0

  pub ready_given : CanBeGiven v r.host.state
  ready_given = subst (CanBeGiven v) (sym ready.registers) (set_up_can_be_given v ready.few ready.placeable)

  stays : with_given_reset v left ≡ left
  stays =
      sym (first_is_reset v left)
      ∙ set_up_at_first v (record { board = ready.placeable.places; functions = ready.placeable.declarations; guests = lawful })

  -- given functions are at reset already, and the latch is clear
  pub ready_world : world_over v (taken_over v r.host.state) ≡ world_at_first v
  ready_world = search (rules, stays)
