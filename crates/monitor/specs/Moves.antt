-- Moving a function to another slot.
--     move_nth w i n j m      from slot n of guest i to slot m of guest j, by the guests' names
--     is_taken, fault_between      a slot is occupied; the checks of a move, in their order
--     reset_held      a function with its own copies at reset
--     HasSlot      a slot of a guest by its index
--     IsExchanged      the guests after the contents of one slot are replaced
--     HandsOver      the guests and the host after a function has moved to another slot and was reset
use Rattle.std.specs.Prelude.{ℕ, List, Bool, Option, Some, None, ◌≡◌, ◌<◌, ◌||◌, not, if◌then◌else◌, nat_le, is_some, map, length, slice_get, slice_set, unwrap_or}
use Rattle.bars.specs.Resets.{with_no_base}
use Rattle.model_guests.specs.{Guests.Move, WorldNow.WorldNow}
use Rattle.monitor.specs.{declared.guest.{AssignedFunction.AssignedFunction, Guest.Guest}, ByIndex.name_nth}
use Rattle.host_bridge.specs.{ByIndex.with_reset_nth, HostState.{HostState, with_functions}}

abbrev pub move_nth : WorldNow → ℕ → ℕ → ℕ → ℕ → Move
move_nth w i n j m = record { from = name_nth w i; slot = n; to = name_nth w j; target = m }

abbrev pub is_taken : List (Option AssignedFunction) → ℕ → Bool
is_taken slots n = is_some (unwrap_or (slice_get slots n) None)

-- from slot n of the first guest to slot m of the second
abbrev pub fault_between : List (Option AssignedFunction) → ℕ → List (Option AssignedFunction) → ℕ → Option ℕ
fault_between from n to m =
    if nat_le 32 n || nat_le 32 m then Some 303
    else (if not (is_taken from n) then Some 601 else (if is_taken to m then Some 602 else None))

-- its registers on the board are found by its index there
abbrev pub reset_held : AssignedFunction → AssignedFunction
reset_held held = record held { own = record { command = 0; bases = map with_no_base held.own.bases } }

pub record HasSlot (gs : List Guest) (i n : ℕ) : Type 0 where
  pub guest : Guest
  pub there : slice_get gs i ≡ Some guest
  pub inside : n < length guest.slots.items

-- slot n of guest i had the first, and has the second
pub record IsExchanged (gs : List Guest) (i n : ℕ) (was o : Option AssignedFunction) (new : List Guest) : Type 0 where
  pub before : Guest
  pub there : slice_get gs i ≡ Some before
  pub had : slice_get before.slots.items n ≡ Some was
  pub guest : Guest
  pub after : new ≡ slice_set gs i guest
  pub latch : guest.latch ≡ before.latch
  pub items : guest.slots.items ≡ slice_set before.slots.items n o

-- on the board, the function is at reset, except for the registers that guests have copies of
pub record HandsOver (h : HostState) (gs : List Guest) (i n j m : ℕ) (new : HostState) (after : List Guest) : Type 0 where
  pub held : AssignedFunction
  pub left : List Guest
  pub empty : Option AssignedFunction
  pub leaves : IsExchanged gs i n (Some held) None left
  pub comes : IsExchanged left j m empty (Some (reset_held held)) after
  pub board : new ≡ with_functions (with_reset_nth held.index h.state.functions) h
