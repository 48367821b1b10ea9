-- What is kept of guests over a handoff is kept over another with the same board and routing registers.
use Rattle.std.{proofs.Common.{◌≡◌, ℕ, List, [], ◌∷◌, Some, Option, sym, ap, ◌∙◌, subst, rules, arith}, specs.{Prelude.{find, map, slice_get}, Option.option_map_or}}
use Rattle.lists.proofs.Indices.{at_map, index_in, map_at}
use Rattle.model_registers.specs.{Registers.File, Declarations.Endpoint, EndpointTable.BaseAddress, Decoding.{Function, base_address}}
use Rattle.model_board.specs.{Paths.Path, Board.{Decl, endpoint, Row}, AtReset.board_at, Ports.file_at, Routing.{Ranges, regions, windows, RoutingRow, ranges_of, row_of, routing}, State.{BoardFunction, State, row_at}}
use Rattle.model_findings.specs.Orderly.{IsStateOfBoard}
use Rattle.model_guests.specs.{Text.Text, Slots.Slots, Guests.GuestsNow}
use Rattle.model_handoff.proofs.Standing.{at_path, found}
use Rattle.monitor.specs.{declared.guest.{AssignedFunction.AssignedFunction, Guest.Guest}, Keeping.{IsHeld, IsSlot, AreSlots, AreGuests}}

-- ---- the bases of an endpoint, by its routing row

abbrev bases_in : Ranges → List BaseAddress
bases_in (regions bs) = bs
bases_in (windows wio wmem wpref) = []

abbrev bases_routed : List RoutingRow → ℕ → List BaseAddress
bases_routed rows i = option_map_or (λ (r : RoutingRow). bases_in r.ranges) (slice_get rows i) []

bases_held : (fs : List BoardFunction) → IsStateOfBoard fs → (i : ℕ) (p : Path) (d : Endpoint) → slice_get (board_at fs) i ≡ Some (record { path = p; decl = endpoint d })
    → bases_routed (routing fs) i ≡ map (base_address (file_at fs p)) d.regions
bases_held fs state i p d at = of (at_map row_at fs i (record { path = p; decl = endpoint d }) at)
  where
    of : (f : BoardFunction) × (slice_get fs i ≡ Some f) × (record { path = p; decl = endpoint d } ≡ row_at f) → bases_routed (routing fs) i ≡ map (base_address (file_at fs p)) d.regions
    of (f, there, row) =
        let path : f.path ≡ p = ap (λ (r : Row). r.path) (sym row) in
        let decl : f.decl ≡ endpoint d = ap (λ (r : Row). r.decl) (sym row) in
        let is_found : find (at_path p) fs ≡ Some f = subst (λ (x : Path). find (at_path x) fs ≡ Some f) path (found fs state f (index_in fs i f there)) in
        let file : file_at fs p ≡ f.file = ap (λ (o : Option BoardFunction). option_map_or (λ (g : BoardFunction). g.file) o []) is_found in
        ap (λ (o : Option RoutingRow). option_map_or (λ (r : RoutingRow). bases_in r.ranges) o []) (map_at row_of fs i f there)
        ∙ ap (λ (x : Decl). bases_in (ranges_of f.file x)) decl ∙ ap (λ (x : File). map (base_address x) d.regions) (sym file)

-- ---- slot by slot

module _ (s t : State) (on_s : IsStateOfBoard s.functions) (on_t : IsStateOfBoard t.functions) (same_board : board_at t.functions ≡ board_at s.functions) (same_routing : routing t.functions ≡ routing s.functions) where
  pub held_carried : (p : Path) (f : Function) (h : AssignedFunction) → IsHeld s p f h → IsHeld t p f h
  held_carried p f h is = search (rules, bases_held)

  slot_carried : (q : Option Path) (f : Option Function) (o : Option AssignedFunction) → IsSlot s q f o → IsSlot t q f o
  slot_carried q f o is = grind (arith, held_carried)

  slots_carried : (qs : List (Option Path)) (fs : Slots) (os : List (Option AssignedFunction)) → AreSlots s qs fs os → AreSlots t qs fs os
  slots_carried [] [] [] are = tt
  slots_carried (q ∷ qs) (f ∷ fs) (o ∷ os) are = (slot_carried q f o are.0, slots_carried qs fs os are.1)
  slots_carried qs fs os are = absurd are

  pub guests_carried : (ts : List Text) (ws : GuestsNow) (gs : List Guest) → AreGuests s ts ws gs → AreGuests t ts ws gs
  guests_carried [] [] [] are = tt
  guests_carried (name ∷ ts) (w ∷ ws) (g ∷ gs) are = grind (arith, guests_carried ts ws gs, slots_carried)
  guests_carried ts ws gs are = absurd are
