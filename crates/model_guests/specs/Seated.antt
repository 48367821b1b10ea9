-- The guests' functions are on the board, whatever events and moves occurred.
--     IsSeatedAt, IsSeat, AreSeats      a slot has a function if and only if it has a path, and it is the endpoint there
--     IsSeatedGuest, AreSeated      32 such slots in each guest; no two guests have the same name, and no two slots the same path
--     SeatedAtFirst, SeatedAfterEvents, SeatedAfterMoves, SeatedAlong      this holds at first, and is preserved
--     ByIndex      a guest by its index
use Rattle.std.specs.{Prelude.{List, [], ◌∷◌, ◌≡◌, ℕ, false, Option, Some, None, ⊤, IsFalse, length, slice_get, slice_set}, Str.bytes_eq}
use Rattle.lists.specs.Elements.{Each, EachPair}
use Rattle.model_registers.specs.{Decoding.Function, EndpointTable.endpoint_reset, CopiedFiles.shape_of}
use Rattle.model_board.specs.{Paths.Path, Board.Board}
use Rattle.model_guests.specs.{Accesses.Event, Slots.Slots, Text.Text, World.{World, declared, HasLawfulGuests}, Guests.{GuestNow, GuestsNow, guests_at_first, guest_named, path_in, with_guest, after_guest_event, Move, after_move}, WorldNow.{WorldNow, after_lines}}

-- with its cells, whatever they hold
pub record IsSeatedAt (b : Board) (p : Path) (f : Function) : Type 0 where
  pub decl : declared b p ≡ Some f.decl
  pub shape : shape_of f.file ≡ shape_of (endpoint_reset f.decl false)

abbrev pub IsSeat : Board → Option Path → Option Function → Type 0
IsSeat b None None = ⊤
IsSeat b None (Some f) = ⊥
IsSeat b (Some p) None = ⊥
IsSeat b (Some p) (Some f) = IsSeatedAt b p f

abbrev pub AreSeats : Board → List (Option Path) → Slots → Type 0
AreSeats b [] [] = ⊤
AreSeats b [] (f ∷ fs) = ⊥
AreSeats b (q ∷ qs) [] = ⊥
AreSeats b (q ∷ qs) (f ∷ fs) = IsSeat b q f × AreSeats b qs fs

pub record IsSeatedGuest (b : Board) (g : GuestNow) : Type 0 where
  pub count : length g.paths ≡ 32
  pub seats : AreSeats b g.paths g.lone.slots

pub record AreSeated (b : Board) (gs : GuestsNow) : Type 0 where
  pub names_apart : EachPair (λ (g h : GuestNow). IsFalse (bytes_eq g.name h.name)) gs
  pub guests : Each (IsSeatedGuest b) gs
  pub paths_apart : (a c : Text) (n m : ℕ) (p : Path) → path_in gs a n ≡ Some p → path_in gs c m ≡ Some p
      → (a ≡ c) × (n ≡ m)

abbrev pub SeatedAtFirst : Type 0
SeatedAtFirst = (w : World) → HasLawfulGuests w → AreSeated w.board (guests_at_first w)

abbrev pub SeatedAfterEvents : Type 0
SeatedAfterEvents = (b : Board) (gs : GuestsNow) → AreSeated b gs → (name : Text) (e : Event)
    → AreSeated b (after_guest_event name e gs)

abbrev pub SeatedAfterMoves : Type 0
SeatedAfterMoves = (b : Board) (gs : GuestsNow) → AreSeated b gs → (m : Move) → AreSeated b (after_move gs m)

-- along any lines
abbrev pub SeatedAlong : Type 0
SeatedAlong = (b : Board) (w : WorldNow) → AreSeated b w.guests → (ls : List Text)
    → AreSeated b (after_lines w ls).guests

-- if names are unique, the guest at an index is the guest with its name
abbrev pub ByIndex : Type 0
ByIndex = (gs : GuestsNow) → EachPair (λ (g h : GuestNow). IsFalse (bytes_eq g.name h.name)) gs
    → (i : ℕ) (g : GuestNow) → slice_get gs i ≡ Some g
    → (guest_named gs g.name ≡ Some g) × ((f : GuestNow → GuestNow) → with_guest f g.name gs ≡ slice_set gs i (f g))
