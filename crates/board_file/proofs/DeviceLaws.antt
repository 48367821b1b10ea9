-- No function of an accepted file is at a device that its number of devices excludes.
use Rattle.std.{proofs.{Common.{◌≡◌, ◌<◌, inl, inr, ℕ, Bool, true, List, [], ◌∷◌, ◌++◌, Option, None, Ok, refl, sym, ◌∙◌, subst, arith}, lemmas.Bool.{ltb-true}}, specs.{Prelude.{IsTrue, nat_lt}, List.list_all}}
use Rattle.lists.{specs.Elements.{Each}, proofs.{EachLemmas.{each_map, each_test, each_of_map, each_from_map}, Members.{all_in, each_from}, Tests.{left_true, right_true}}}
use Rattle.model_registers.specs.DeclarationRules.{first_broken}
use Rattle.model_board.{specs.{Paths.{Part, Path}, Board.{Row}, Places.{Standing, standing, board_of}}, proofs.PlacesLaw.each_to_board}
use Rattle.model_guests.specs.World.{World}
use Rattle.board_file.{specs.{Entries.{File, file}, PathTexts.{is_path_text, is_path_within, path_at}, Functions.{rows, standings}, Rules.device_limit, MarkedPaths.function_texts, Judged.is_judged, Meaning.{early_checks, checks, check, unless, world_of}, DeviceLaws.{IsBelow, AcceptedDevicesAreBelowLimit}}, proofs.{Asked.{unbroken, places}, ByChecks.judged, LawfulWorld.{path_in, place_paths, places_of_rows}}}
use Rattle.board_file.specs.declared.fault.BoardFault.TheVariants as fault

path_below : (n : ℕ) (text : List ℕ) → is_path_within n text ≡ true → IsBelow n (path_at text)
path_below n text h =
    each_map (λ (q : Part). IsTrue (nat_lt q.device n)) (λ (q : Part). q.device < n) (path_at text) (λ q t. ltb-true q.device n t)
    (each_test (λ (q : Part). nat_lt q.device n) (path_at text) (right_true (is_path_text text) _ h))

module _ (f : File) (j : is_judged f ≡ true) where
  abbrev Below : Path → Type 0
  Below p = IsBelow (device_limit f.devices) p

  texts_below : Each (λ t. Below (path_in t)) (function_texts f)
  texts_below =
      let limited =
      left_true (list_all (λ p. is_path_within (device_limit f.devices) p.1) (function_texts f)) _
      (sym (places f) ∙ unbroken f j fault.Place (inr (inr (inl refl)))) in
      each_from (λ t. Below (path_in t)) (function_texts f)
      (λ t m. path_below (device_limit f.devices) t.1 (all_in (λ u. is_path_within (device_limit f.devices) u.1) t (function_texts f) limited m))

  standings_below : Each (λ (s : Standing). Below s.path) (standings f)
  standings_below =
      each_from_map Below (λ (s : Standing). s.path) (standings f) (subst (Each Below) (place_paths f) (each_of_map Below path_in (function_texts f) texts_below))

  rows_below : Each (λ (r : Row). Below r.path) (board_of (rows f))
  rows_below =
      each_to_board (λ (r : Row). Below r.path) (rows f)
      (each_from_map (λ (s : Standing). Below s.path) standing (rows f) (subst (Each (λ (s : Standing). Below s.path)) (sym (places_of_rows f)) standings_below))

-- where no check of a list fails, none of its first ones does
first_pass : (cs ds : List (ℕ × Bool)) → first_broken (cs ++ ds) ≡ None → first_broken cs ≡ None
first_pass [] ds h = refl
first_pass ((n, b) ∷ cs) ds h = grind (arith, first_pass cs ds)

accepted : (o : Option ℕ) (x w : World) → unless o x ≡ Ok w → (o ≡ None) × (x ≡ w)
accepted o x w h = grind arith

pub accepted_devices_are_below_limit : AcceptedDevicesAreBelowLimit
accepted_devices_are_below_limit ms w h =
    let (passed, same) = accepted (first_broken (checks ms)) (world_of (file ms)) w h in
    subst (λ (v : World). Each (λ (r : Row). IsBelow (device_limit (file ms).devices) r.path) v.board) same
    (rows_below (file ms) (judged ms (first_pass (early_checks ms) (check ms fault.CellMasks ∷ []) passed)))
