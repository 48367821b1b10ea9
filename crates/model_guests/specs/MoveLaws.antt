-- The effect of a move on the guests, by their indices.
--     MoveWithin      within one guest: its source slot is emptied, then its target slot filled
--     MoveBetween      from one guest to another: a slot of the first is emptied, and one of the second filled
--     InputsWithin      a guest that moves a function within itself loses it, then gets it
--     MovedFunction      afterwards the target slot has the function at the path, at reset, and the source slot is empty
use Rattle.std.specs.{Prelude.{[], ◌∷◌, ◌≡◌, ℕ, false, Some, None, IsFalse, IsSome, slice_get, slice_set}, Str.bytes_eq}
use Rattle.lists.specs.Elements.{EachPair}
use Rattle.model_registers.specs.{Decoding.Function, EndpointTable.endpoint_reset}
use Rattle.model_board.specs.{Paths.Path, Board.Board}
use Rattle.model_guests.specs.{Guests.{GuestNow, GuestsNow, guest_named, path_in, function_in, Move, move_fault, with_slot_emptied, with_slot_filled, after_move}, Inputs.{loses, gets, inputs_of_move}, Seated.AreSeated}

-- an accepted move of this function at this path, from this guest
pub record IsDone (gs : GuestsNow) (m : Move) (p : Path) (f : Function) (i : ℕ) (g : GuestNow) : Type 0 where
  pub names_apart : EachPair (λ (g h : GuestNow). IsFalse (bytes_eq g.name h.name)) gs
  pub not_refused : move_fault gs m ≡ None
  pub path : path_in gs m.from m.slot ≡ Some p
  pub function : function_in gs m.from m.slot ≡ Some f
  pub at : slice_get gs i ≡ Some g
  pub from : m.from ≡ g.name

abbrev pub MoveWithin : Type 0
MoveWithin = (gs : GuestsNow) (m : Move) (p : Path) (f : Function) (i : ℕ) (g : GuestNow) → IsDone gs m p f i g
    → m.to ≡ g.name
    → after_move gs m ≡ slice_set gs i (with_slot_filled m.target (Some p) f.decl (with_slot_emptied m.slot g))

abbrev pub MoveBetween : Type 0
MoveBetween = (gs : GuestsNow) (m : Move) (p : Path) (f : Function) (i : ℕ) (g : GuestNow) → IsDone gs m p f i g
    → (j : ℕ) (h : GuestNow) → slice_get gs j ≡ Some h → m.to ≡ h.name → IsFalse (bytes_eq g.name h.name)
    → after_move gs m
    ≡ slice_set (slice_set gs i (with_slot_emptied m.slot g)) j (with_slot_filled m.target (Some p) f.decl h)

abbrev pub InputsWithin : Type 0
InputsWithin = (m : Move) (f : Function) → m.from ≡ m.to
    → inputs_of_move m.from m (Some f) ≡ loses m.slot ∷ gets m.target f.decl ∷ []

pub record IsMoved (gs : GuestsNow) (m : Move) (p : Path) (f : Function) : Type 0 where
  pub path : path_in gs m.to m.target ≡ Some p
  pub function : function_in gs m.to m.target ≡ Some (record { decl = f.decl; file = endpoint_reset f.decl false })
  pub no_path : path_in gs m.from m.slot ≡ None
  pub no_function : function_in gs m.from m.slot ≡ None

abbrev pub MovedFunction : Type 0
MovedFunction = (b : Board) (gs : GuestsNow) → AreSeated b gs → (m : Move) → IsSome (guest_named gs m.to)
    → move_fault gs m ≡ None
    → (p : Path) (f : Function) → path_in gs m.from m.slot ≡ Some p → function_in gs m.from m.slot ≡ Some f
    → IsMoved (after_move gs m) m p f
