-- A function by its index is the one at its path: each slot has the one just where it has the other.
use Rattle.std.{proofs.{Common.{◌≡◌, ◌<◌, ◌⊎◌, ℕ, Bool, false, eqb, cond, ◌||◌, ◌+◌, List, [], ◌∷◌, Some, None, Option, slice_get, refl, sym, ap₂, ◌∙◌, arith}, lemmas.{Bool.Decides.nat_tests, Iterator.Adapters.position_from-zero}}, specs.{Prelude.position, List.{list_any, position_from}}}
use Rattle.lists.proofs.Indices.{pair_at, same_at}
use Rattle.model_registers.specs.Decoding.{Function}
use Rattle.model_board.{specs.{Paths.{Path, path_eq}, Board.{Row, Board, IsBoard}, AtReset.board_at, State.State}, proofs.{PathEnds.{path_self, path_eq-sym}, PlacesLaw.before_apart}}
use Rattle.model_guests.specs.Slots.{Slots}
use Rattle.monitor.specs.{declared.guest.AssignedFunction.AssignedFunction, InSlots.is_at, Keeping.{IsSlot, AreSlots}}
use Rattle.model_handoff.specs.ViewLaws as path

-- ---- two rows of a board

sides : (i j : ℕ) → eqb j i ≡ false → (i < j) ⊎ (j < i)
sides i j e = grind (arith, nat_tests)

module _ (b : Board) (board : IsBoard b) where
  same_index : (i j : ℕ) (r t : Row) → slice_get b i ≡ Some r → slice_get b j ≡ Some t → eqb j i ≡ path_eq t.path r.path
  same_index i j r t at by = grind (arith, nat_tests, same_at, slice_get, path_self, sides, path_eq-sym, before_apart, pair_at)

-- ---- slot by slot

module _ (s : State) (board : IsBoard (board_at s.functions)) (i : ℕ) (r : Row) (at : slice_get (board_at s.functions) i ≡ Some r) where
  at_slot : (q : Option Path) (f : Option Function) (o : Option AssignedFunction) → IsSlot s q f o → is_at i o ≡ path.is_at r.path q
  at_slot None None None is = refl
  at_slot (Some p) (Some f) (Some h) is = same_index (board_at s.functions) board i h.index r _ at is.row
  at_slot q f o is = absurd is

  pub in_slots : (qs : List (Option Path)) (fs : Slots) (os : List (Option AssignedFunction)) → AreSlots s qs fs os → list_any (is_at i) os ≡ list_any (path.is_at r.path) qs
  in_slots [] [] [] are = refl
  in_slots (q ∷ qs) (f ∷ fs) (o ∷ os) are = ap₂ ◌||◌ (at_slot q f o are.0) (in_slots qs fs os are.1)
  in_slots qs fs os are = absurd are

  found_from : (n : ℕ) (qs : List (Option Path)) (fs : Slots) (os : List (Option AssignedFunction)) → AreSlots s qs fs os → position_from (is_at i) n os ≡ position_from (path.is_at r.path) n qs
  found_from n [] [] [] are = refl
  found_from n (q ∷ qs) (f ∷ fs) (o ∷ os) are = ap₂ (λ (t : Bool) (x : Option ℕ). cond t (Some n) x) (at_slot q f o are.0) (found_from (n + 1) qs fs os are.1)
  found_from n qs fs os are = absurd are

  pub found_in_slots : (qs : List (Option Path)) (fs : Slots) (os : List (Option AssignedFunction)) → AreSlots s qs fs os → position (is_at i) os ≡ position (path.is_at r.path) qs
  found_in_slots qs fs os are = position_from-zero (is_at i) os ∙ found_from 0 qs fs os are ∙ sym (position_from-zero (path.is_at r.path) qs)
