-- Where a function stands among those of a board, and what guests change of it.
use Rattle.std.{proofs.Common.{◌≡◌, Bool, List, [], ◌∷◌, Some, arith}, specs.Prelude.{find, IsTrue}}
use Rattle.lists.{specs.Elements.{EachPair, IsIn}, proofs.{Members.{each_in, from_map}, EachLemmas.pairs_from_map}}
use Rattle.model_registers.specs.{Registers.File, Declarations.Endpoint}
use Rattle.model_board.{specs.{Paths.{Path, path_eq, path_before}, Board.{endpoint, Row}, AtReset.board_at, Ports.file_at, State.{BoardFunction, row_at}}, proofs.{PathEnds.path_self, PlacesLaw.before_apart}}
use Rattle.model_findings.specs.Orderly.{IsStateOfBoard}

abbrev pub at_path : Path → BoardFunction → Bool
at_path p f = path_eq f.path p

abbrev pub endpoint_at : Path → Endpoint → File → BoardFunction
endpoint_at p d file = record { path = p; decl = endpoint d; file = file }

found_among : (fs : List BoardFunction) → EachPair (λ (f g : BoardFunction). IsTrue (path_before f.path g.path)) fs → (g : BoardFunction) → IsIn g fs → find (at_path g.path) fs ≡ Some g
found_among [] ordered g m = absurd m
found_among (f ∷ fs) ordered g m = grind (arith, path_self, before_apart, each_in, found_among fs)

pub found : (fs : List BoardFunction) → IsStateOfBoard fs → (g : BoardFunction) → IsIn g fs → find (at_path g.path) fs ≡ Some g
found fs state g m = found_among fs (pairs_from_map (λ (r s : Row). IsTrue (path_before r.path s.path)) row_at fs state.places.in_order) g m

-- an endpoint of the board, with its cells
pub record StandsAt (fs : List BoardFunction) (p : Path) (d : Endpoint) : Type 0 where
  pub among : IsIn (endpoint_at p d (file_at fs p)) fs
  pub found_is : find (at_path p) fs ≡ Some (endpoint_at p d (file_at fs p))

pub stands : (fs : List BoardFunction) → IsStateOfBoard fs → (p : Path) (d : Endpoint) → IsIn (record { path = p; decl = endpoint d }) (board_at fs) → StandsAt fs p d
stands fs state p d m = grind (arith, from_map, found)
