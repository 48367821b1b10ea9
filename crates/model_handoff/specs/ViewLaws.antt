-- The handoff as the board identifies it later: with each function in a slot at reset, the state is the same whatever
-- guests did. So a monitor that keeps the board's registers and its guests needs no copy of the handoff to identify it.
--     sits gs p      a guest has the function at a path in a slot
--     with_seated_reset s gs      a state with each function in a slot at reset, except for the bytes that guests have copies of
--     OverReset      guests can't distinguish it from the state itself
--     ResetShown      the handoff and the board over it give the same state
--     ResetAtFirst, ResetAfterEvents, ResetAfterMoves      at first it has the assigned functions at reset, and it stays the same
use Rattle.std.specs.{Prelude.{◌≡◌, Bool, false, if◌then◌else◌, Option, None, option_map, IsSome}, List.list_any, Option.option_map_or}
use Rattle.model_registers.specs.Registers.{File}
use Rattle.model_board.specs.{Paths.{Path, path_eq}, AtReset.board_at, State.State}
use Rattle.model_guests.specs.{Accesses.Event, Text.Text, World.{World, declared}, Guests.{GuestNow, GuestsNow, guests_at_first, guest_named, after_guest_event, Move, after_move}, AgreedBoard.{with_files, state_over}, ChangeLaws.OverSeated}
use Rattle.model_handoff.specs.Handoffs.{file_at_reset, with_given_reset}

abbrev pub is_at : Path → Option Path → Bool
is_at p q = option_map_or (λ (x : Path). path_eq x p) q false

abbrev pub sits : GuestsNow → Path → Bool
sits gs p = list_any (λ (g : GuestNow). list_any (is_at p) g.paths) gs

abbrev pub seated_files : State → GuestsNow → Path → Option File
seated_files s gs p =
    if sits gs p then option_map file_at_reset (declared (board_at s.functions) p) else None

abbrev pub with_seated_reset : State → GuestsNow → State
with_seated_reset s gs = with_files (seated_files s gs) s

abbrev pub OverReset : Type 0
OverReset = OverSeated (λ s gs. state_over (with_seated_reset s gs) gs ≡ state_over s gs)

abbrev pub ResetShown : Type 0
ResetShown = OverSeated (λ s gs. with_seated_reset (state_over s gs) gs ≡ with_seated_reset s gs)

abbrev pub ResetAtFirst : Type 0
ResetAtFirst = (w : World) (s : State) → board_at s.functions ≡ w.board
    → with_seated_reset s (guests_at_first w) ≡ with_given_reset w s

abbrev pub ResetAfterEvents : Type 0
ResetAfterEvents = (s : State) (gs : GuestsNow) (name : Text) (e : Event)
    → with_seated_reset s (after_guest_event name e gs) ≡ with_seated_reset s gs

-- to a guest that exists
abbrev pub ResetAfterMoves : Type 0
ResetAfterMoves = OverSeated (λ s gs. (m : Move) → IsSome (guest_named gs m.to)
    → with_seated_reset s (after_move gs m) ≡ with_seated_reset s gs)
