-- The rows of a board by their paths.
use Rattle.std.{proofs.Common.{◌≡◌, true, false, [], ◌∷◌, Some, arith}, specs.Prelude.IsTrue}
use Rattle.lists.specs.Elements.{Each, EachPair, IsIn}
use Rattle.model_registers.specs.Declarations.{Endpoint}
use Rattle.model_board.{specs.{Paths.{Path, path_eq, path_before}, Board.{endpoint, Row, Board}}, proofs.{PathEnds.path_self, PathOrder.path_same, PlacesLaw.before_apart}}
use Rattle.model_guests.specs.World.{declared, endpoint_of}

-- in path order each row is found by its path
pub rows_found : (b : Board) → EachPair (λ r s. IsTrue (path_before r.path s.path)) b → Each (λ r. declared b r.path ≡ endpoint_of r) b
rows_found [] ordered = tt
rows_found (r ∷ rs) ordered = (here, later rs ordered.0 (rows_found rs ordered.1))
  where
    here : declared (r ∷ rs) r.path ≡ endpoint_of r
    here = let self : path_eq r.path r.path ≡ true = path_self r.path in rw self

    later : (ss : Board) → Each (λ s. IsTrue (path_before r.path s.path)) ss → Each (λ s. declared rs s.path ≡ endpoint_of s) ss → Each (λ s. declared (r ∷ rs) s.path ≡ endpoint_of s) ss
    later [] before found = tt
    later (s ∷ ss) before found = let other : path_eq r.path s.path ≡ false = before_apart r.path s.path before.0 in (rw other found.0, later ss before.1 found.1)

abbrev endpoint_row : Path → Endpoint → Row
endpoint_row p d = record { path = p; decl = endpoint d }

-- what is declared at a path stands there
pub declared_row : (b : Board) (p : Path) (d : Endpoint) → declared b p ≡ Some d → IsIn (endpoint_row p d) b
declared_row [] p d h = cc
declared_row (r ∷ rs) p d h = grind (arith, declared_row rs p d, path_same r.path p)
