-- The current state of all guests: the function in each slot, and each guest's own state.
--     GuestNow, GuestsNow      a guest: the path of the function in each slot, and its own state; all guests
--     guests_at_first      the guests of a world before any event
--     guest_named, lone_of, with_guest      a guest by its name; its state; the guests with this one changed
--     guest_after, after_guest_event      a guest after an event of its own; all guests after it
--     path_in, function_in      the path in a slot of a guest, and the function there
--     Move, move_fault, after_move      moves a function to another slot; the checks, in order; all guests after the move
--     file_of      the guest's file of the function at a path, whichever guest has it
use Rattle.std.specs.{Prelude.{List, [], ◌∷◌, ℕ, ◌-◌, ◌++◌, ◌||◌, not, if◌then◌else◌, nat_le, Option, Some, None, unwrap_or, slice_get, slice_set, map, find, length, replicate, is_some, option_map, option_and_then}, Option.option_map_or, Str.bytes_eq}
use Rattle.lists.specs.Elements.{first_some}
use Rattle.model_registers.specs.{Registers.File, Declarations.Endpoint, Decoding.Function}
use Rattle.model_board.specs.Paths.{Path, path_eq}
use Rattle.model_guests.specs.{Accesses.Event, Slots.{Slots, slot_at}, Text.Text, World.{Guest, World, declared}, Lone.{LoneGuest, after_event, reset_guest, filled, emptied}}

-- `paths` has, for each slot, the path of its function on the board
pub record GuestNow : Type 0 where
  pub name : Text
  pub paths : List (Option Path)
  pub lone : LoneGuest

abbrev pub GuestsNow : Type 0
GuestsNow = List GuestNow

abbrev pub guest_at_first : World → Guest → GuestNow
guest_at_first w g = record {
  name = g.name;
  paths = map Some g.slots ++ replicate (32 - length g.slots) None;
  lone = reset_guest (map (declared w.board) g.slots);
}

abbrev pub guests_at_first : World → GuestsNow
guests_at_first w = map (guest_at_first w) w.guests

abbrev pub guest_named : GuestsNow → Text → Option GuestNow
guest_named gs name = find (λ (g : GuestNow). bytes_eq g.name name) gs

-- a guest that doesn't exist has no functions
abbrev pub lone_of : GuestsNow → Text → LoneGuest
lone_of gs name = option_map_or (λ (g : GuestNow). g.lone) (guest_named gs name) (reset_guest [])

abbrev pub with_guest : (GuestNow → GuestNow) → Text → GuestsNow → GuestsNow
with_guest f name gs = map (λ (g : GuestNow). if bytes_eq name g.name then f g else g) gs

abbrev pub guest_after : Event → GuestNow → GuestNow
guest_after e g = record g { lone = after_event g.lone e }

abbrev pub after_guest_event : Text → Event → GuestsNow → GuestsNow
after_guest_event name e gs = with_guest (guest_after e) name gs

abbrev pub function_in : GuestsNow → Text → ℕ → Option Function
function_in gs name n = slot_at (lone_of gs name).slots n

abbrev pub path_in : GuestsNow → Text → ℕ → Option Path
path_in gs name n = option_and_then (λ (g : GuestNow). unwrap_or (slice_get g.paths n) None) (guest_named gs name)

-- ---- moves

-- from this slot of this guest to that slot of that one
pub record Move : Type 0 where
  pub from : Text
  pub slot : ℕ
  pub to : Text
  pub target : ℕ

-- the slots' numbers; a source without a function; a target with one
abbrev pub move_fault : GuestsNow → Move → Option ℕ
move_fault gs m =
    if nat_le 32 m.slot || nat_le 32 m.target then Some 303
    else (if not (is_some (function_in gs m.from m.slot)) then Some 601
    else (if is_some (function_in gs m.to m.target) then Some 602 else None))

abbrev pub with_slot_emptied : ℕ → GuestNow → GuestNow
with_slot_emptied n g = record g { paths = slice_set g.paths n None; lone = emptied n g.lone }

abbrev pub with_slot_filled : ℕ → Option Path → Endpoint → GuestNow → GuestNow
with_slot_filled n p d g = record g { paths = slice_set g.paths n p; lone = filled n d g.lone }

-- no state is carried over: in its new slot the function is at reset
abbrev pub handed_over : Move → Option Path → Option Function → GuestsNow → GuestsNow
handed_over m p None gs = gs
handed_over m p (Some f) gs =
    with_guest (with_slot_filled m.target p f.decl) m.to (with_guest (with_slot_emptied m.slot) m.from gs)

-- a refused move changes nothing
abbrev pub after_move : GuestsNow → Move → GuestsNow
after_move gs m =
    if is_some (move_fault gs m) then gs else handed_over m (path_in gs m.from m.slot) (function_in gs m.from m.slot) gs

-- ---- the guests' files

abbrev pub file_in : List (Option Path) → Slots → Path → Option File
file_in [] fs p = None
file_in (q ∷ qs) [] p = None
file_in (None ∷ qs) (f ∷ fs) p = file_in qs fs p
file_in (Some q ∷ qs) (f ∷ fs) p = if path_eq q p then option_map (λ (g : Function). g.file) f else file_in qs fs p

abbrev pub file_of : GuestsNow → Path → Option File
file_of gs p = first_some (λ (g : GuestNow). file_in g.paths g.lone.slots p) gs
