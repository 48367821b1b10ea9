-- The function in a slot of a guest.
--     is_at i o      a slot has the function at an index
--     IsInSlot slots n h      slot n has the function h
--     IsSlotFault slots n number      slot n is refused with this number: there is no slot n, or the slot is empty
use Rattle.std.specs.{Prelude.{ℕ, List, Bool, false, Option, Some, ◌≡◌, ◌≤◌, ◌==◌, slice_get}, Option.option_map_or}
use Rattle.model_board.specs.{Paths.Path, State.State}
use Rattle.model_guests.specs.{Slots.Slots, DeviceEvents.slot_fault}
use Rattle.monitor.specs.{declared.guest.AssignedFunction.AssignedFunction, Keeping.AreSlots}

abbrev pub is_at : ℕ → Option AssignedFunction → Bool
is_at i o = option_map_or (λ (h : AssignedFunction). h.index == i) o false

pub record IsInSlot (slots : List (Option AssignedFunction)) (n : ℕ) (held : AssignedFunction) : Type 0 where
  pub low : n ≤ 31
  pub there : slice_get slots n ≡ Some (Some held)

abbrev pub IsSlotFault : List (Option AssignedFunction) → ℕ → ℕ → Type 0
IsSlotFault slots n number =
    (s : State) (qs : List (Option Path)) (fs : Slots) → AreSlots s qs fs slots → slot_fault fs n ≡ Some number
