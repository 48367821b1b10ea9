-- Given functions are served, whatever guests do.
use Rattle.std.{proofs.Common.{◌≡◌, ℕ, zero, suc, Bool, true, false, not, cond, List, [], ◌∷◌, ◌++◌, Some, None, Option, refl, sym, ap, ◌∙◌, arith}, specs.Prelude.{map, flat_map, replicate, is_some, IsTrue}}
use Rattle.lists.{specs.Elements.IsIn, proofs.Members.{each_from, any_in, in_front, in_back, in_map, in_filter, in_flat_map}}
use Rattle.model_registers.specs.{Declarations.Region, Decoding.{Function, base_address, opens_space, command_word}}
use Rattle.model_board.{specs.{Paths.{Path, path_eq}, AtReset.board_at, Ports.file_at, State.State, Routing.{row_of, routing}}, proofs.PathEnds.path_self}
use Rattle.model_set_up.specs.PlacedRegions.{PlacedRegion}
use Rattle.model_findings.{specs.OpenRegions.{region_now, closed_of, closed_regions}, proofs.Witnesses.problems_are_real_and_complete}
use Rattle.model_guests.{specs.{Text.Text, World.{Guest, World, given_paths}, Guests.{GuestNow, GuestsNow, guest_at_first, guest_after, handed_over, move_fault, path_in, function_in, with_guest, with_slot_emptied, with_slot_filled}}, proofs.{GuestsByName.{Keeps, path_at}, DeclaredRows.declared_row, SeatedMoves.{Placed, placed, put_there, was_there}, Seats.paths_stay}}
use Rattle.model_handoff.{specs.{Handoffs.is_given, Regions.{opens_region, closed_given, AreServed, HasOpenRegions}, RegionLaws.{ServedAtFirst, ServedAfterEvents, ServedAfterMoves, FaultDecides}}, proofs.Standing.{endpoint_at, StandsAt, stands}}

-- ---- a path in a slot at first is a given one

in_slots : (qs : List Path) (k n : ℕ) (p : Path) → path_at (map Some qs ++ replicate k None) n ≡ Some p → IsIn p qs
in_slots [] zero n p h = cc
in_slots [] (suc k) n p h = grind (arith, in_slots [] k)
in_slots (q ∷ qs) k n p h = grind (arith, in_slots qs k)

among : (w : World) (gs : List Guest) (name : Text) (n : ℕ) (p : Path) → path_in (map (guest_at_first w) gs) name n ≡ Some p → IsIn p (flat_map (λ (g : Guest). g.slots) gs)
among w [] name n p h = cc
among w (g ∷ gs) name n p h = grind (arith, among w gs name n p, in_front, in_slots, in_back)

no_member : {A : Type 0} (x : A) (xs : List A) → xs ≡ [] → IsIn x xs → ⊥
no_member x xs e m = grind arith

pub served_at_first : ServedAtFirst
served_at_first w s state none name n p at d declares = each_from (λ r. IsTrue (opens_region s p r)) d.regions one
  where
    given : is_given w p ≡ true
    given = any_in (λ q. path_eq q p) p (given_paths w) (among w w.guests name n p at) (path_self p)

    one : (r : Region) → IsIn r d.regions → opens_region s p r ≡ true
    one r m = by (opens_region s p r) refl
      where
        by : (t : Bool) → opens_region s p r ≡ t → t ≡ true
        by true e = refl
        by false e =
            let there : StandsAt s.functions p d = stands s.functions state p d (declared_row (board_at s.functions) p d declares) in
            let q : PlacedRegion = region_now p (base_address (file_at s.functions p) r) in
            let closed : IsIn q (closed_regions (routing s.functions)) =
            in_flat_map closed_of (row_of (endpoint_at p d (file_at s.functions p))) q (routing s.functions) (in_map row_of (endpoint_at p d (file_at s.functions p)) s.functions there.among)
            (in_filter (λ (x : PlacedRegion). not (opens_space (command_word (file_at s.functions p)) x.space)) q (map (region_now p) (map (base_address (file_at s.functions p)) d.regions))
            (in_map (region_now p) (base_address (file_at s.functions p) r) (map (base_address (file_at s.functions p)) d.regions) (in_map (base_address (file_at s.functions p)) r d.regions m)) (ap not e)) in
            absurd (no_member q (closed_given w s) none (in_filter (λ (x : PlacedRegion). is_given w x.path) q (closed_regions (routing s.functions)) closed given))

-- ---- afterwards

-- a change of a guest that keeps its name and its paths
pub served_with : (change : GuestNow → GuestNow) → Keeps change → ((t : GuestNow) → (change t).paths ≡ t.paths)
    → (s : State) (gs : GuestsNow) → AreServed s gs → (name : Text) → AreServed s (with_guest change name gs)
served_with change keeps paths s gs served name a n p at = served a n p (sym (paths_stay change keeps paths name a n gs) ∙ at)

pub served_after_events : ServedAfterEvents
served_after_events s gs served name e = served_with (guest_after e) (λ t. refl) (λ t. refl) s gs served name

pub served_after_moves : ServedAfterMoves
served_after_moves s gs served m = by (is_some (move_fault gs m)) (function_in gs m.from m.slot)
  where
    emptied : (a : Text) (n : ℕ) (p : Path) → path_in (with_guest (with_slot_emptied m.slot) m.from gs) a n ≡ Some p → path_in gs a n ≡ Some p
    emptied a n p at = grind (arith, placed (with_slot_emptied m.slot) m.slot None, put_there, was_there)

    after : (o : Option Function) → AreServed s (handed_over m (path_in gs m.from m.slot) o gs)
    after None a n p at = served a n p at
    after (Some f) a n p at =
        of (placed (with_slot_filled m.target (path_in gs m.from m.slot) f.decl) m.target (path_in gs m.from m.slot) (λ t. refl) (λ t. refl) (with_guest (with_slot_emptied m.slot) m.from gs) m.to a n p at)
      where
        of : Placed (with_guest (with_slot_emptied m.slot) m.from gs) m.to a m.target n (path_in gs m.from m.slot) p → HasOpenRegions s p
        of (put_there x y z) = served m.from m.slot p z
        of (was_there x y) = served a n p (emptied a n p x)

    by : (t : Bool) (o : Option Function) → AreServed s (cond t gs (handed_over m (path_in gs m.from m.slot) o gs))
    by t o = grind (arith, after)

-- ---- faults

pub fault_decides : FaultDecides
fault_decides w s = grind (arith, problems_are_real_and_complete)
