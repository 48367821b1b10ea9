-- The functions of a state of a lawful board, with the guests that are seated there.
use Rattle.std.proofs.Common.{◌≡◌, true, List, Some, None, Option, refl, ap, arith}
use Rattle.lists.{specs.Elements.Each, proofs.EachLemmas.{each_both, each_map, each_from_map}}
use Rattle.model_registers.specs.{Registers.File, CopiedFiles.shape_of}
use Rattle.model_board.specs.{Board.{Decl, endpoint, bridge, Row, Board, is_bridge}, AtReset.board_at, State.{BoardFunction, row_at}, Lawful.IsLawfulDecl}
use Rattle.model_findings.specs.Orderly.{IsStateOfBoard}
use Rattle.model_guests.{specs.{World.{declared, endpoint_of}, Guests.{GuestsNow, file_of}, AgreedBoard.agreed_function, Seated.IsSeatedGuest}, proofs.{AgreedChanges.agreed_by, DeclaredRows.rows_found, FoundFiles.seated_file, SlotPlaces.IsFileOf}}

pub record Facts (b : Board) (f : BoardFunction) : Type 0 where
  pub found : declared b f.path ≡ endpoint_of (row_at f)
  pub lawful : IsLawfulDecl f.decl

pub facts : (fs : List BoardFunction) → IsStateOfBoard fs → Each (Facts (board_at fs)) fs
facts fs state =
    each_map (λ f. (declared (board_at fs) f.path ≡ endpoint_of (row_at f)) × IsLawfulDecl f.decl) (Facts (board_at fs)) fs
    (λ f h. record { found = h.0; lawful = h.1 })
    (each_both (λ f. declared (board_at fs) f.path ≡ endpoint_of (row_at f)) (λ f. IsLawfulDecl f.decl) fs
    (each_from_map (λ (r : Row). declared (board_at fs) r.path ≡ endpoint_of r) row_at fs (rows_found (board_at fs) state.places.in_order))
    (each_from_map (λ (r : Row). IsLawfulDecl r.decl) row_at fs state.declarations))

no_bridge_declared : (f : BoardFunction) (d : Decl) → f.decl ≡ d → is_bridge d ≡ true → endpoint_of (row_at f) ≡ None
no_bridge_declared f (endpoint d) e h = cc
no_bridge_declared f (bridge d) e h = ap (λ (x : Decl). endpoint_of (record { path = f.path; decl = x })) e

module _ (b : Board) (gs : GuestsNow) (all : Each (IsSeatedGuest b) gs) where
  pub file_is : (f : BoardFunction) (file : File) → file_of gs f.path ≡ Some file → IsFileOf shape_of b f.path file
  file_is f file e = seated_file b gs f.path file all e

  -- no guest has a bridge
  pub bridge_stays : (f : BoardFunction) → Facts b f → is_bridge f.decl ≡ true → agreed_function (file_of gs) f ≡ f
  bridge_stays f facts h = by (file_of gs f.path) refl
    where
      by : (own : Option File) → file_of gs f.path ≡ own → agreed_by own f ≡ f
      by None e = refl
      by (Some file) e = grind (arith, file_is f file e, no_bridge_declared f f.decl refl h)

-- whoever tells the files
pub path_stays : (own : Option File) (f : BoardFunction) → (agreed_by own f).path ≡ f.path
path_stays own f = grind arith

pub row_stays : (own : Option File) (f : BoardFunction) → row_at (agreed_by own f) ≡ row_at f
row_stays own f = grind arith

pub decl_stays : (own : Option File) (f : BoardFunction) → (agreed_by own f).decl ≡ f.decl
decl_stays own f = grind arith
