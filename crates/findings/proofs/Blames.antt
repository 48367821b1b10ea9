-- What is told of blames is what the definitions say of all regions.
use Rattle.std.{proofs.{Common.{arith, ◌≡◌, ℕ, Bool, true, false, cond, List, [], ◌∷◌, map, Option, Some, None, refl, ap, ◌∙◌}, lemmas.List.map-append}, specs.{Prelude.flat_map, Option.{option_map, option_to_list}}}
use Rattle.lists.specs.Elements.{first_some}
use Rattle.model_board.specs.{Paths.is_ancestor_of, Routing.RoutingRow}
use Rattle.model_set_up.specs.PlacedRegions.{PlacedRegion}
use Rattle.model_findings.specs.{OpenRegions.open_regions, Problems.{first_unforwarded_address, forwarding_problem}, ReadinessIssues.{plain_regions, first_prefetched_address, prefetch_blame, prefetch_issue}}
use Rattle.findings.{specs.{Regions.all_selected_bars, BridgeViolations.{blame, blames_of, first_violations, unforwarded_problem, prefetched_issue}, declared.{regions.Sort.TheVariants.{Open, Plain}, bridge_violation.{BridgeViolation.BridgeViolation, ViolationKind.{ViolationKind, TheVariants.{NotForwarded, Prefetched}}}}}, proofs.Sorts.{all_open, all_plain}}
use Rattle.model_findings.specs.Problems as audit

-- if a blame is told as g tells of its region and row, so is the first one, and so are all
module _ {B : Type 0} (c : ViolationKind) (to : BridgeViolation → B) (g : PlacedRegion → RoutingRow → Option B) (same : (q : PlacedRegion) (r : RoutingRow) → option_map to (blame c q r) ≡ g q r) where
  first_told : (rows : List RoutingRow) (q : PlacedRegion) → option_map to (first_some (blame c q) rows) ≡ first_some (g q) rows
  first_told [] q = refl
  first_told (r ∷ rows) q = grind (arith, first_told rows q)

  listed : (o : Option BridgeViolation) → map to (option_to_list o) ≡ option_to_list (option_map to o)
  listed None = refl
  listed (Some b) = refl

  causes_unless_at_reset : (rows : List RoutingRow) (qs : List PlacedRegion) → map to (flat_map (blames_of c rows) qs) ≡ flat_map (λ q. option_to_list (first_some (g q) rows)) qs
  causes_unless_at_reset rows [] = refl
  causes_unless_at_reset rows (q ∷ qs) = grind (arith, map-append, listed, first_told, causes_unless_at_reset rows qs)

one_told : {B : Type 0} (to : BridgeViolation → B) (above : Bool) (at : Option ℕ) (of : ℕ → BridgeViolation) → option_map to (cond above (option_map of at) None) ≡ cond above (option_map (λ n. to (of n)) at) None
one_told to true None of = refl
one_told to true (Some n) of = refl
one_told to false at of = refl

pub forwarding : (rows : List RoutingRow) → map unforwarded_problem (first_violations NotForwarded rows) ≡ flat_map (forwarding_problem rows) (open_regions rows)
forwarding rows =
    causes_unless_at_reset NotForwarded unforwarded_problem audit.blame (λ q r. one_told unforwarded_problem (is_ancestor_of r.path q.path) (first_unforwarded_address r q) (λ n. record { region = q; bridge = r.path; address = n })) rows (all_selected_bars Open rows)
    ∙ ap (flat_map (forwarding_problem rows)) (all_open rows)

pub prefetching : (rows : List RoutingRow) → map prefetched_issue (first_violations Prefetched rows) ≡ flat_map (prefetch_issue rows) (plain_regions rows)
prefetching rows =
    causes_unless_at_reset Prefetched prefetched_issue prefetch_blame (λ q r. one_told prefetched_issue (is_ancestor_of r.path q.path) (first_prefetched_address r q) (λ n. record { region = q; bridge = r.path; address = n })) rows (all_selected_bars Plain rows)
    ∙ ap (flat_map (prefetch_issue rows)) (all_plain rows)
