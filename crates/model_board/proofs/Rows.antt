-- The rows of a board have different paths, and a path's bit 7 of the header type is its row's.
use Rattle.std.{proofs.Common.{◌≡◌, Bool, true, ◌&&◌, ◌||◌, arith}, specs.{List.list_any, Prelude.◌==◌}}
use Rattle.lists.{proofs.{Tests.{left_true, right_true, same_test}, Members.{pair_in, any_in, from_any}}, specs.Elements.IsIn}
use Rattle.model_board.{specs.{Paths.{path_eq, last_part}, Board.{Row, Board, IsBoard, is_multifunction, declares_multifunction, has_multifunction_bit}}, proofs.{PathOrder.path_same, PathEnds.{path_self, not_before_itself}}}

-- two rows with one path are one
pub same_row : (b : Board) → IsBoard b → (r s : Row) → IsIn r b → IsIn s b → r.path ≡ s.path → r ≡ s
same_row b board r s m k e = grind (arith, pair_in, not_before_itself)

module _ (b : Board) (board : IsBoard b) (r : Row) (m : IsIn r b) where
  abbrev declares : Row → Bool
  declares s = path_eq s.path r.path && declares_multifunction s.decl

  declared_there : declares_multifunction r.decl ≡ true → list_any declares b ≡ true
  declared_there h = grind (arith, any_in declares r b m, path_self r.path)

  from_there : (s : Row) × IsIn s b × (declares s ≡ true) → declares_multifunction r.decl ≡ true
  from_there (s, k, h) =
      let same = same_row b board s r k m (path_same s.path r.path (left_true (path_eq s.path r.path) (declares_multifunction s.decl) h)) in
      grind (arith, right_true (path_eq s.path r.path) (declares_multifunction s.decl) h)

  -- the header type of a function of the board
  pub bit_of_row : has_multifunction_bit b r.path ≡ (is_multifunction b r.path && ((last_part r.path).function == 0 || declares_multifunction r.decl))
  bit_of_row = grind (arith, same_test (list_any declares b) (declares_multifunction r.decl) (λ h. from_there (from_any declares b h)) declared_there)
