-- Assigns a function that no guest has to a guest's slot, and unassigns it. No line of a script requests this.
-- PCI Local Bus 3.0, chapter 2.2.1 (RST#).
--     Gift      assigns the function at this path to this slot of this guest
--     with_reset_at p s      the endpoint at p is at reset, except for the bytes that guests have copies of
--     has_closed_region s p d      Command disables the space of a region of the endpoint d at p
--     give_fault, take_fault      the checks, in order
--     give_reply, take_reply      the reply to the caller
--     after_give, after_take      the world after assigning or unassigning
use Rattle.std.specs.{Prelude.{ℕ, Bool, not, nat_le, if◌then◌else◌, is_some, Option, Some, None}, List.list_any, Option.option_map_or}
use Rattle.model_registers.specs.{Declarations.{Region, Endpoint}, CopiedFiles.after_reset}
use Rattle.model_board.specs.{Paths.Path, AtReset.board_at, State.State}
use Rattle.model_guests.specs.{Accesses.{Reply, done, refused}, Text.Text, World.declared, Guests.{lone_of, path_in, function_in, with_guest, with_slot_filled, with_slot_emptied}, AgreedBoard.with_change_at, WorldNow.WorldNow, DeviceEvents.slot_fault}
use Rattle.model_handoff.specs.{Regions.opens_region, ViewLaws.sits}

pub record Gift : Type 0 where
  pub path : Path
  pub to : Text
  pub slot : ℕ

-- the file at a path without an endpoint doesn't change
abbrev pub with_reset_at : Path → State → State
with_reset_at p s =
    option_map_or (λ (d : Endpoint). with_change_at (after_reset d) p s) (declared (board_at s.functions) p) s

abbrev pub has_closed_region : State → Path → Endpoint → Bool
has_closed_region s p d = list_any (λ (r : Region). not (opens_region s p r)) d.regions

-- ---- the checks

-- the path has an endpoint, no guest has it, the slot is empty, and no region is disabled
abbrev pub endpoint_fault : WorldNow → Gift → Option Endpoint → Option ℕ
endpoint_fault w g None = Some 303
endpoint_fault w g (Some d) =
    if sits w.guests g.path then Some 602
    else (if is_some (function_in w.guests g.to g.slot) then Some 602
    else (if has_closed_region w.handoff g.path d then Some 206 else None))

-- the slot's number, then the function at the path
abbrev pub give_fault : WorldNow → Gift → Option ℕ
give_fault w g =
    if nat_le 32 g.slot then Some 303
    else endpoint_fault w g (declared (board_at w.handoff.functions) g.path)

-- the slot's number, then the slot's function
abbrev pub take_fault : WorldNow → Text → ℕ → Option ℕ
take_fault w name n = slot_fault (lone_of w.guests name).slots n

abbrev pub give_reply : WorldNow → Gift → Reply
give_reply w g = option_map_or refused (give_fault w g) done

abbrev pub take_reply : WorldNow → Text → ℕ → Reply
take_reply w name n = option_map_or refused (take_fault w name n) done

-- ---- the world after it

-- the function is at reset on the board and in its slot
abbrev pub given : Gift → Option Endpoint → WorldNow → WorldNow
given g None w = w
given g (Some d) w = record {
  handoff = with_reset_at g.path w.handoff;
  guests = with_guest (with_slot_filled g.slot (Some g.path) d) g.to w.guests;
}

-- a refused assignment changes nothing
abbrev pub after_give : WorldNow → Gift → WorldNow
after_give w g =
    if is_some (give_fault w g) then w else given g (declared (board_at w.handoff.functions) g.path) w

-- the slot is empty, and the function is at reset on the board
abbrev pub taken : Text → ℕ → WorldNow → WorldNow
taken name n w = record {
  handoff = option_map_or (λ (p : Path). with_reset_at p w.handoff) (path_in w.guests name n) w.handoff;
  guests = with_guest (with_slot_emptied n) name w.guests;
}

abbrev pub after_take : WorldNow → Text → ℕ → WorldNow
after_take w name n = if is_some (take_fault w name n) then w else taken name n w
