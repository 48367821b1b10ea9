-- Statements that are false, each with what shows it.
use Rattle.std.{proofs.Common.{◌≡◌, ℕ, true, false, cond, [], ◌∷◌, Some, None, refl, ap, ◌∙◌, eqb, lit≤}, specs.Prelude.{map, codes, sum}}
use Rattle.model_registers.{specs.{Registers.{config, place_eq, PlacedCell, File, cell_at, raise}, Declarations.Endpoint, EndpointTable.endpoint_reset, Decoding.Function, CopiedFiles.{after_reset, places_of}}, proofs.RegisterFiles.self}
use Rattle.model_board.specs.{Paths.Path, Board.endpoint, AtReset.{board_at, reset_state}, State.State, Examples.{part, function_at, plain, main_apertures}}
use Rattle.model_guests.{specs.{World.World, Guests.{GuestsNow, Move, after_move, function_in, guests_at_first, move_fault, path_in}, AgreedBoard.{state_over, with_change_at}, Seated.AreSeated}, proofs.SeatedFirst.seated_at_first}

differ : (a b : ℕ) → eqb a b ≡ false → a ≡ b → ⊥
differ a b h e = let no : eqb a a ≡ false = ap (eqb a) e ∙ h in let yes : eqb a a ≡ true = self a in cc

-- places alone don't keep the copies from rising
raisable : File
raisable = map (λ (e : PlacedCell). cond (place_eq e.place (config 4)) (record e { cell = record e.cell { clearable = 0xff } }) e) (endpoint_reset (plain 1 0 0 []) false)

same_places : places_of raisable ≡ places_of (endpoint_reset (plain 1 0 0 []) false)
unfolding raisable
same_places = refl

it_rises : raise 1 (config 4) raisable ≡ raisable → ⊥
unfolding raisable
it_rises h = let n : (cell_at (raise 1 (config 4) raisable) (config 4)).value ≡ (cell_at raisable (config 4)).value = ap (λ (f : File). (cell_at f (config 4)).value) h in cc

-- a move to a guest that is not there, of an endpoint with two cells at one place
twice : Endpoint
twice = record (plain 1 0 0 []) { blocks = record { offset = 0x40; cells = record { value = 1; writable = 0; clearable = 0 } ∷ [] } ∷ record { offset = 0x40; cells = record { value = 2; writable = 0; clearable = 0 } ∷ [] } ∷ [] }

place : Path
place = part 1 0 ∷ []

world : World
world = record { board = function_at place (endpoint twice) ∷ []; apertures = main_apertures; guests = record { name = codes "a"; slots = place ∷ [] } ∷ [] }

seated : AreSeated world.board (guests_at_first world)
unfolding world place twice
seated = seated_at_first world (record { few_guests = lit≤ tt; lawful_names = (refl, tt); names_apart = (tt, tt); few_slots = (lit≤ tt, tt); endpoints = (refl, tt); paths_apart = (tt, tt) })

lost : Move
lost = record { from = codes "a"; slot = 0; to = codes "b"; target = 0 }

-- MoveResetsOneFunction, without a guest of the move's second name
abbrev AnyMoveResets : Type 0
AnyMoveResets = (s : State) (gs : GuestsNow) → AreSeated (board_at s.functions) gs → (m : Move) → move_fault gs m ≡ None
    → (p : Path) (f : Function) → path_in gs m.from m.slot ≡ Some p → function_in gs m.from m.slot ≡ Some f → state_over s (after_move gs m) ≡ with_change_at (after_reset f.decl) p (state_over s gs)

total : State → ℕ
total s = sum (map (λ f. sum (map (λ (e : PlacedCell). e.cell.value) f.file)) s.functions)

not_any : AnyMoveResets → ⊥
unfolding world lost twice place total
not_any h =
    let left : State = reset_state world.board in
    differ (total (state_over left (after_move (guests_at_first world) lost))) (total (with_change_at (after_reset twice) place (state_over left (guests_at_first world)))) refl
    (ap total (h left (guests_at_first world) seated lost refl place (record { decl = twice; file = endpoint_reset twice false }) refl refl))
