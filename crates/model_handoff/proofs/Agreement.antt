-- There is one state that agrees with seated guests over a handoff.
use Rattle.std.{proofs.Common.{◌≡◌, false, List, [], ◌∷◌, Some, None, Option, refl, sym, subst, arith}, specs.Prelude.map}
use Rattle.lists.specs.Elements.{Each, EachPair}
use Rattle.model_registers.specs.{Registers.{Place, File}, Declarations.Endpoint, EndpointTable.endpoint_reset, CopiedFiles.{agreed_file, places_of, shape_of}}
use Rattle.model_board.specs.{Board.{Decl, endpoint, Board}, Lawful.IsLawfulDecl, State.BoardFunction}
use Rattle.model_guests.{specs.{World.{declared, endpoint_of}, Guests.{GuestsNow, file_of}, AgreedBoard.agreed_function, AgreedLaws.{AgreesAt, AgreesAtEach}, Seated.IsSeatedGuest}, proofs.{AgreedChanges.agreed_by, AgreedFiles.{agreed_holds, only_file}, DistinctPlaces.{Apart, HasDistinctPlaces, distinct_places}, FoundFiles.same_places, SlotPlaces.IsFileOf}}
use Rattle.model_handoff.{specs.{Handoffs.{declared_cells, HasDeclaredShape}, AgreementLaws.{StateAgrees, StateIsOnly}}, proofs.Functions.{Facts, facts, file_is}}

-- a file with the places of the declaration at a path
pub record HasPlaces (left own : File) : Type 0 where
  pub same : places_of own ≡ places_of left
  pub distinct : HasDistinctPlaces left

pub distinct_left : (d : Endpoint) → IsLawfulDecl (endpoint d) → (left : File) → shape_of left ≡ shape_of (endpoint_reset d false) → HasDistinctPlaces left
distinct_left d lawful left shape =
    subst (λ (ps : List Place). EachPair Apart ps) (sym (same_places left (endpoint_reset d false) shape)) (distinct_places d lawful false 0 (λ r. 0))

has_places : (b : Board) (f : BoardFunction) (d : Decl) → f.decl ≡ d → declared b f.path ≡ endpoint_of (record { path = f.path; decl = d }) → IsLawfulDecl d → shape_of f.file ≡ shape_of (declared_cells d)
    → (own : File) → IsFileOf shape_of b f.path own → HasPlaces f.file own
has_places b f d e found lawful shape own is = grind (arith, same_places own f.file, distinct_left)

module _ (b : Board) (gs : GuestsNow) (all : Each (IsSeatedGuest b) gs) where
  pub places_in : (f : BoardFunction) → Facts b f → HasDeclaredShape f → (own : File) → file_of gs f.path ≡ Some own → HasPlaces f.file own
  places_in f facts shape own e = has_places b f f.decl refl facts.found facts.lawful shape own (file_is b gs all f own e)

  functions_agree : (fs : List BoardFunction) → Each (Facts b) fs → Each HasDeclaredShape fs → AgreesAtEach (file_of gs) fs (map (agreed_function (file_of gs)) fs)
  functions_agree [] facts shapes = tt
  functions_agree (f ∷ fs) facts shapes = grind (arith, functions_agree fs, agreed_holds, places_in)

  function_is_only : (f : BoardFunction) → Facts b f → HasDeclaredShape f → (own : Option File) → file_of gs f.path ≡ own → (now : BoardFunction) → AgreesAt f own now → now ≡ agreed_by own f
  function_is_only f facts shape None e now agrees = λ i. record { path = agrees.path i; decl = agrees.decl i; file = agrees.cells i }
  function_is_only f facts shape (Some file) e now agrees =
      let same : now.file ≡ agreed_file f.file file = only_file f.file file now.file (places_in f facts shape file e).distinct agrees.cells in
      λ i. record { path = agrees.path i; decl = agrees.decl i; file = same i }

  functions_are_only : (fs : List BoardFunction) → Each (Facts b) fs → Each HasDeclaredShape fs → (ns : List BoardFunction) → AgreesAtEach (file_of gs) fs ns → ns ≡ map (agreed_function (file_of gs)) fs
  functions_are_only [] facts shapes n agrees = grind arith
  functions_are_only (f ∷ fs) facts shapes [] agrees = absurd agrees
  functions_are_only (f ∷ fs) facts shapes (n ∷ ns) agrees = grind (arith, function_is_only, functions_are_only fs facts.1 shapes.1 ns agrees.1)

pub state_agrees : StateAgrees
state_agrees s handoff gs seated = grind (arith, functions_agree, facts)

pub state_is_only : StateIsOnly
state_is_only s handoff gs seated now agrees = grind (arith, functions_are_only, facts, agrees.latch)
