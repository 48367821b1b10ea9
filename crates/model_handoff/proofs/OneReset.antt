-- A handoff in which one endpoint is reset, but for what guests have copies of, is a handoff of the same board.
use Rattle.std.{proofs.Common.{◌≡◌, List, [], ◌∷◌, Some, None, Option, sym, ap, ◌∙◌, subst, arith}, specs.{Prelude.codes, Option.option_map_or}}
use Rattle.model_registers.specs.{Apertures.Aperture, Declarations.Endpoint, CopiedFiles.after_reset}
use Rattle.model_board.specs.{Paths.Path, Board.Board, AtReset.board_at, State.{BoardFunction, State}}
use Rattle.model_guests.{specs.{World.{Guest, World, HasLawfulGuests, declared}, Guests.{GuestsNow, guests_at_first}, AgreedBoard.{state_over, with_change_at}, Seated.AreSeated}, proofs.SeatedFirst.seated_at_first}
use Rattle.model_handoff.{specs.{Handoffs.IsHandoff, Giving.with_reset_at}, proofs.{Alike.{IsAlike, alike_over}, First.{first_is_reset, one_given}}}

module _ (s : State) (handoff : IsHandoff s) (p : Path) (d : Endpoint) (declares : declared (board_at s.functions) p ≡ Some d) where
  abbrev b : Board
  b = board_at s.functions

  abbrev no_addresses : Aperture
  no_addresses = record { first = 0; last = 0 }

  abbrev only : Guest
  only = record { name = codes "g"; slots = p ∷ [] }

  -- a guest that has this endpoint alone
  abbrev w : World
  w = record { board = b; apertures = record { io = no_addresses; mem = no_addresses; pref = None }; guests = only ∷ [] }

  lawful : HasLawfulGuests w
  lawful = grind arith

  abbrev gs : GuestsNow
  gs = guests_at_first w

  seated : AreSeated b gs
  seated = seated_at_first w lawful

  one_is : state_over s gs ≡ with_change_at (after_reset d) p s
  one_is = first_is_reset w s ∙ ap (λ (fs : List BoardFunction). record s { functions = fs }) (one_given b p (Some d) declares s.functions)

  pub reset_is : with_reset_at p s ≡ with_change_at (after_reset d) p s
  reset_is = ap (λ (o : Option Endpoint). option_map_or (λ (e : Endpoint). with_change_at (after_reset e) p s) o s) declares

  pub alike : IsAlike s (with_reset_at p s)
  alike = subst (IsAlike s) (one_is ∙ sym reset_is) (alike_over s handoff gs seated)
