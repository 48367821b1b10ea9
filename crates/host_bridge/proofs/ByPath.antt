-- One function of a board by its path: it is the one at the index that is found for the path.
use Rattle.std.{proofs.Common.{arith, ◌≡◌, ℕ, List, Option, Some, None, refl, ap, ◌∙◌}, specs.{Prelude.{find, IsSome}, List.slice_get, Option.option_map_or}}
use Rattle.model_registers.specs.{Registers.File}
use Rattle.model_board.{specs.{Paths.{Path, path_eq}, State.{BoardFunction, with_file}}, proofs.PathOrder.path_same}
use Rattle.lists.proofs.FirstFound.{found_passes}
use Rattle.bridge_forward.specs.Lending.{as_endpoint, endpoint_at, endpoint_nth, with_endpoint_reset}
use Rattle.host_bridge.specs.ByIndex.{with_file_nth, with_reset_nth}

module _ (fs : List BoardFunction) (p : Path) (i : ℕ) (at : slice_get fs i ≡ find (λ f. path_eq f.path p) fs) where
  pub endpoint_same : endpoint_nth fs i ≡ endpoint_at fs p
  endpoint_same = ap (λ o. option_map_or as_endpoint o None) at

  pub change_same : (g : File → File) → IsSome (endpoint_at fs p) → with_file_nth g i fs ≡ with_file g p fs
  change_same g = by (find (λ f. path_eq f.path p) fs) refl
    where
      by : (o : Option BoardFunction) → find (λ f. path_eq f.path p) fs ≡ o → IsSome (option_map_or as_endpoint o None) → with_file_nth g i fs ≡ with_file g p fs
      by None found h = cc
      by (Some f) found h =
          ap (λ o. option_map_or (λ (f : BoardFunction). with_file g f.path fs) o fs) (at ∙ found)
          ∙ ap (λ q. with_file g q fs) (path_same f.path p (found_passes (λ (f : BoardFunction). path_eq f.path p) fs f found))

  pub reset_same : with_reset_nth i fs ≡ with_endpoint_reset p fs
  reset_same = grind (arith, endpoint_same, change_same)
