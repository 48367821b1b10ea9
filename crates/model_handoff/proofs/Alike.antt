-- A handoff with the files of seated guests in it is a handoff of the same board, and so is what guests get of one.
use Rattle.std.{proofs.Common.{◌≡◌, ◌+◌, ◌*◌, List, [], Option, refl, sym, ap, ap₂, ◌∙◌, subst, arith}, specs.{Prelude.{map, filter, find, option_map}, Option.option_map_or}}
use Rattle.model_registers.specs.{Registers.{File, config}, Cell.Cell, Declarations.Region, CopiedFiles.agreed_file, Decoding.command_word}
use Rattle.model_board.specs.{Paths.{Path, path_eq}, Board.Board, AtReset.board_at, Ports.file_at, Routing.{RoutingRow, routing}, State.{BoardFunction, State}}
use Rattle.model_set_up.specs.PlacedRegions.{PlacedRegion}
use Rattle.model_findings.specs.{OpenRegions.closed_regions, Witnesses.IsInOrder}
use Rattle.model_guests.{specs.{World.{World, HasLawfulGuests}, Guests.{GuestsNow, file_of, guests_at_first}, AgreedBoard.{agreed_function, state_over}, Seated.AreSeated, WorldNow.world_over}, proofs.{AgreedFiles.agreed_kept, FoundFiles.seated_file, SeatedFirst.seated_at_first}}
use Rattle.model_handoff.{specs.{Handoffs.{IsHandoff, is_given, taken_over}, Kept.IsLawfulOver, Regions.{opens_region, CanBeGiven}, ViewLaws.with_seated_reset}, proofs.{First.first_is_reset, Functions.{facts, path_stays, decl_stays}, Keeping.{find_path, keeps_board, keeps_routing, stays_in_order}, Kept.lawful_at_first, Regions.state_stays, Shapes.shapes_with, Views.{over_reset, reset_at_first}}}

-- ---- Command stays, as guests have copies of it

command_stays : (left own : File) → command_word (agreed_file left own) ≡ command_word left
command_stays left own = ap₂ (λ (x y : Cell). x.value + 256 * (y.value + 256 * 0)) (agreed_kept left own (config 4) refl) (agreed_kept left own (config 5) refl)

module _ (files : Path → Option File) where
  command_found : (o : Option BoardFunction)
      → command_word (option_map_or (λ (f : BoardFunction). f.file) (option_map (agreed_function files) o) []) ≡ command_word (option_map_or (λ (f : BoardFunction). f.file) o [])
  command_found o = grind (arith, command_stays)

  pub command_at : (fs : List BoardFunction) (p : Path) → command_word (file_at (map (agreed_function files) fs) p) ≡ command_word (file_at fs p)
  command_at fs p =
      ap (λ (o : Option BoardFunction). command_word (option_map_or (λ (f : BoardFunction). f.file) o []))
      (find_path (agreed_function files) (λ f. path_stays (files f.path) f) (λ f. decl_stays (files f.path) f) (λ f. path_eq f.path p) (λ f. path_eq f.path p)
      (λ f. ap (λ (q : Path). path_eq q p) (path_stays (files f.path) f)) fs)
      ∙ command_found (find (λ f. path_eq f.path p) fs)

-- ---- the states

pub record IsAlike (s t : State) : Type 0 where
  pub handoff : IsHandoff t
  pub board : board_at t.functions ≡ board_at s.functions
  pub routing_is : routing t.functions ≡ routing s.functions
  pub order : IsInOrder s.functions → IsInOrder t.functions
  pub opens : (q : Path) (r : Region) → opens_region t q r ≡ opens_region s q r

pub alike_over : (s : State) → IsHandoff s → (gs : GuestsNow) → AreSeated (board_at s.functions) gs → IsAlike s (state_over s gs)
alike_over s handoff gs seated =
    let shapes = shapes_with (board_at s.functions) (file_of gs) (λ p own e. seated_file (board_at s.functions) gs p own seated.guests e) s.functions (facts s.functions handoff.board) handoff.shapes in
    grind (arith, shapes, state_stays, keeps_board, keeps_routing, stays_in_order, command_at)

-- whatever the address latch holds
with_latch_clear : (s t : State) → IsAlike s t → IsAlike s (record t { latch = 0 })
with_latch_clear s t h = grind arith

-- ---- what guests get

module _ (w : World) (s : State) (handoff : IsHandoff s) (same : board_at s.functions ≡ w.board) (guests : HasLawfulGuests w) where
  abbrev gs : GuestsNow
  gs = guests_at_first w

  seated : AreSeated (board_at s.functions) gs
  seated = subst (λ (b : Board). AreSeated b gs) (sym same) (seated_at_first w guests)

  pub taken_alike : IsAlike s (taken_over w s)
  taken_alike =
      subst (λ (x : State). IsAlike s (record x { latch = 0 })) (first_is_reset w s) (with_latch_clear s (state_over s gs) (alike_over s handoff gs seated))

  taken_board : board_at (taken_over w s).functions ≡ w.board
  taken_board = taken_alike.board ∙ same

  pub taken_lawful : CanBeGiven w s → IsLawfulOver (world_over w (taken_over w s))
  taken_lawful can =
      lawful_at_first w (taken_over w s) taken_alike.handoff taken_board guests
      (record {
        order = taken_alike.order can.order;
        none_closed = ap (λ (rows : List RoutingRow). filter (λ (q : PlacedRegion). is_given w q.path) (closed_regions rows)) taken_alike.routing_is ∙ can.none_closed;
      })

  -- the guests' files stand there already
  pub taken_agrees : state_over (taken_over w s) gs ≡ taken_over w s
  taken_agrees = grind (arith, reset_at_first, over_reset, seated, first_is_reset)

  pub taken_shown : with_seated_reset (taken_over w s) gs ≡ taken_over w s
  taken_shown = reset_at_first w (taken_over w s) taken_board ∙ sym (first_is_reset w (taken_over w s)) ∙ taken_agrees
