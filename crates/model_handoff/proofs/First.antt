-- Before any event each given function is at reset.
use Rattle.std.{proofs.{Common.{◌≡◌, ℕ, zero, suc, Bool, false, ◌||◌, cond, List, [], ◌∷◌, ◌++◌, Some, None, Option, refl, ap₂, arith}, lemmas.List.Folds.list_any-append}, specs.{Prelude.{map, flat_map, replicate, option_map, IsTrue}, List.list_any, Option.option_map_or}}
use Rattle.lists.specs.Elements.{Each}
use Rattle.model_registers.specs.{Registers.File, Declarations.Endpoint, CopiedFiles.{after_reset, shape_of}}
use Rattle.model_board.{specs.{Paths.{Path, path_eq}, Board.{Decl, endpoint, bridge, Board}, AtReset.board_at, Lawful.IsLawfulDecl, State.{BoardFunction, with_file}}, proofs.{PathEnds.path_eq-sym, PathOrder.path_same}}
use Rattle.model_guests.{specs.{Slots.reset_function, World.{Guest, World, declared, endpoint_of}, Guests.{file_in, file_of, guest_at_first, guests_at_first}, AgreedBoard.agreed_function}, proofs.{AgreedChanges.agreed_by, AgreedFiles.only_file, Changes.files_same}}
use Rattle.model_handoff.{specs.{Handoffs.{declared_cells, HasDeclaredShape, is_given, file_at_reset, files_given, reset_files, HoldsReset}, AgreementLaws.{FirstIsReset, FirstIsHandoff}}, proofs.{Functions.{Facts, facts}, Agreement.distinct_left}}

module _ (w : World) (p : Path) where
  abbrev reset_here : Option File
  reset_here = option_map file_at_reset (declared w.board p)

  abbrev among : List Path → Bool
  among qs = list_any (λ q. path_eq q p) qs

  none : (k j : ℕ) → file_in (replicate k None) (map reset_function (replicate j None)) p ≡ None
  none zero j = refl
  none (suc k) zero = refl
  none (suc k) (suc j) = none k j

  in_slots : (qs : List Path) (k j : ℕ) → file_in (map Some qs ++ replicate k None) (map reset_function (map (declared w.board) qs ++ replicate j None)) p ≡ cond (among qs) reset_here None
  in_slots [] k j = none k j
  in_slots (q ∷ qs) k j = grind (arith, in_slots qs k j, path_same)

  in_guests : (gs : List Guest) → file_of (map (guest_at_first w) gs) p ≡ cond (among (flat_map (λ (g : Guest). g.slots) gs)) reset_here None
  in_guests [] = refl
  in_guests (g ∷ gs) = grind (arith, in_guests gs, in_slots, list_any-append)

pub first_is_reset : FirstIsReset
first_is_reset w s = grind (arith, files_same (reset_files w) (file_of (guests_at_first w)), in_guests w)

-- ---- where they are at reset

module _ (w : World) (b : Board) (same : b ≡ w.board) where
  one_stays : (f : BoardFunction) (d : Decl) → f.decl ≡ d → declared b f.path ≡ endpoint_of (record { path = f.path; decl = d }) → IsLawfulDecl d → shape_of f.file ≡ shape_of (declared_cells d)
      → (IsTrue (is_given w f.path) → HoldsReset d f.file) → agreed_function (reset_files w) f ≡ f
  one_stays f (bridge d) e found lawful shape reset = grind (arith, none, same)
  one_stays f (endpoint d) e found lawful shape reset = grind (arith, distinct_left d lawful f.file shape, none, only_file)

  all_stay : (fs : List BoardFunction) → Each (Facts b) fs → Each HasDeclaredShape fs → Each (λ f. IsTrue (is_given w f.path) → HoldsReset f.decl f.file) fs → map (agreed_function (reset_files w)) fs ≡ fs
  all_stay [] facts shapes reset = refl
  all_stay (f ∷ fs) facts shapes reset =
      ap₂ (λ (x : BoardFunction) (xs : List BoardFunction). x ∷ xs) (one_stays f f.decl refl facts.0.found facts.0.lawful shapes.0 reset.0) (all_stay fs facts.1 shapes.1 reset.1)

pub first_is_handoff : FirstIsHandoff
first_is_handoff w s handoff same reset =
    grind (arith, first_is_reset w s, all_stay w (board_at s.functions) same s.functions (facts s.functions handoff.board) handoff.shapes reset, facts s.functions handoff.board)

-- ---- where one is given

module _ (b : Board) (p : Path) where
  abbrev file_here : Option Endpoint → Bool → Option File
  file_here o t = cond (t || false) (option_map file_at_reset o) None

  given_here : (f : BoardFunction) → files_given b (p ∷ []) f.path ≡ file_here (declared b p) (path_eq f.path p)
  given_here f = grind (arith, path_same, path_eq-sym)

  one_by : (o : Option Endpoint) (f : BoardFunction) (t : Bool) → agreed_by (file_here o t) f ≡ cond t (option_map_or (λ (d : Endpoint). record f { file = after_reset d f.file }) o f) f
  one_by o f t = grind arith

  pub one_given : (o : Option Endpoint) → declared b p ≡ o → (fs : List BoardFunction)
      → map (agreed_function (files_given b (p ∷ []))) fs ≡ option_map_or (λ (d : Endpoint). with_file (after_reset d) p fs) o fs
  one_given d e [] = grind arith
  one_given None e (f ∷ fs) = grind (arith, agreed_by, given_here f, one_by None f (path_eq f.path p), one_given None e fs)
  one_given (Some d) e (f ∷ fs) = grind (arith, one_given (Some d) e fs, given_here, one_by)
