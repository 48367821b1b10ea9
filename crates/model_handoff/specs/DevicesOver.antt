-- Events at the guests' devices over a handoff.
--     LawfulAfterDevices      the world stays lawful
--     ResetAfterDevices      the board still identifies the same handoff
use Rattle.std.specs.Prelude.{◌≡◌}
use Rattle.model_board.specs.State.{State}
use Rattle.model_guests.specs.{Text.Text, Guests.GuestsNow, WorldNow.WorldNow, DeviceEvents.{DeviceEvent, after_guest_device, after_device}}
use Rattle.model_handoff.specs.{Kept.IsLawfulOver, ViewLaws.with_seated_reset}

abbrev pub LawfulAfterDevices : Type 0
LawfulAfterDevices = (w : WorldNow) (name : Text) (e : DeviceEvent) → IsLawfulOver w
    → IsLawfulOver (after_device w name e)

abbrev pub ResetAfterDevices : Type 0
ResetAfterDevices = (s : State) (gs : GuestsNow) (name : Text) (e : DeviceEvent)
    → with_seated_reset s (after_guest_device name e gs) ≡ with_seated_reset s gs
