-- Bridges that lead to a function are all that can be blamed for its regions.
use Rattle.std.{proofs.Common.{◌≡◌, List, [], ◌∷◌, refl, sym, ap, ◌∙◌, arith}, specs.{Prelude.{Bool, filter, flat_map}, Option.option_to_list}}
use Rattle.lists.{specs.Elements.{first_some, IsIn}, proofs.Members.flat_map_same}
use Rattle.model_board.specs.{Paths.{Path, is_ancestor_of}, Routing.RoutingRow}
use Rattle.model_set_up.specs.PlacedRegions.{PlacedRegion}
use Rattle.findings.{specs.{Regions.regions_of, BridgeViolations.{bars_to_check, blame, blames_of}, declared.bridge_violation.ViolationKind.ViolationKind}, proofs.Sorts.path_of}

abbrev pub leads : Path → RoutingRow → Bool
leads p r = is_ancestor_of r.path p

blames_above : (c : ViolationKind) (q : PlacedRegion) (rows : List RoutingRow) → first_some (blame c q) (filter (leads q.path) rows) ≡ first_some (blame c q) rows
blames_above c q [] = refl
blames_above c q (r ∷ rows) = grind (arith, blames_above c q rows)

pub function_blames : (c : ViolationKind) (rows above : List RoutingRow) (r : RoutingRow) → above ≡ filter (leads r.path) rows → flat_map (blames_of c above) (regions_of (bars_to_check c) r) ≡ flat_map (blames_of c rows) (regions_of (bars_to_check c) r)
function_blames c rows above r e = flat_map_same (blames_of c above) (blames_of c rows) (regions_of (bars_to_check c) r) one
  where
    one : (q : PlacedRegion) → IsIn q (regions_of (bars_to_check c) r) → blames_of c above q ≡ blames_of c rows q
    one q m =
        let same : above ≡ filter (leads q.path) rows = e ∙ ap (λ (p : Path). filter (leads p) rows) (sym (path_of (bars_to_check c) r.path r.command r.ranges q m)) in
        ap option_to_list (ap (first_some (blame c q)) same ∙ blames_above c q rows)
