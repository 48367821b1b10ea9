-- Regions of one sort are those that the definitions name.
use Rattle.std.{proofs.Common.{◌≡◌, ℕ, Bool, ◌&&◌, List, [], ◌∷◌, map, refl, ap, ◌∙◌, arith}, specs.Prelude.{not, filter}}
use Rattle.lists.{specs.Elements.IsIn, proofs.Members.{flat_map_same, from_map}}
use Rattle.model_registers.specs.{EndpointTable.BaseAddress, Decoding.{opens_space, space_of}}
use Rattle.model_board.specs.{Paths.Path, Routing.{Ranges, regions, windows, RoutingRow}}
use Rattle.model_set_up.specs.PlacedRegions.{PlacedRegion}
use Rattle.model_findings.specs.{OpenRegions.{region_now, open_of, closed_of, open_regions, closed_regions}, Agents.{region_agent, agents_of}, ReadinessIssues.{is_non_prefetchable_memory, plain_of, plain_regions}}
use Rattle.findings.specs.{Regions.{is_bar_selected, regions_of, all_selected_bars}, declared.regions.Sort.{Sort, TheVariants.{Open, Closed, Plain}}}

abbrev row_of : Path → ℕ → Ranges → RoutingRow
row_of p command rs = record { path = p; command = command; ranges = rs }

filter_map : (t : PlacedRegion → Bool) (p : Path) (bs : List BaseAddress) → map (region_now p) (filter (λ b. t (region_now p b)) bs) ≡ filter t (map (region_now p) bs)
filter_map t p [] = refl
filter_map t p (b ∷ bs) = grind (arith, filter_map t p bs)

filter_filter : (t u : BaseAddress → Bool) (bs : List BaseAddress) → filter (λ b. t b && u b) bs ≡ filter u (filter t bs)
filter_filter t u [] = refl
filter_filter t u (b ∷ bs) = grind (arith, filter_filter t u bs)

open_is : (p : Path) (command : ℕ) (rs : Ranges) → regions_of Open (row_of p command rs) ≡ open_of (row_of p command rs)
open_is p command (regions bs) = filter_map (λ q. opens_space command q.space) p bs
open_is p command (windows wio wmem wpref) = refl

closed_is : (p : Path) (command : ℕ) (rs : Ranges) → regions_of Closed (row_of p command rs) ≡ closed_of (row_of p command rs)
closed_is p command (regions bs) = filter_map (λ q. not (opens_space command q.space)) p bs
closed_is p command (windows wio wmem wpref) = refl

plain_is : (p : Path) (command : ℕ) (rs : Ranges) → regions_of Plain (row_of p command rs) ≡ plain_of (row_of p command rs)
plain_is p command (regions bs) =
    ap (map (region_now p)) (filter_filter (λ b. is_non_prefetchable_memory b.kind) (λ b. opens_space command (space_of b.kind)) bs)
    ∙ filter_map (λ q. opens_space command q.space) p (filter (λ (b : BaseAddress). is_non_prefetchable_memory b.kind) bs)
plain_is p command (windows wio wmem wpref) = refl

pub all_open : (rows : List RoutingRow) → all_selected_bars Open rows ≡ open_regions rows
all_open rows = flat_map_same (regions_of Open) open_of rows (λ r m. open_is r.path r.command r.ranges)

pub all_closed : (rows : List RoutingRow) → all_selected_bars Closed rows ≡ closed_regions rows
all_closed rows = flat_map_same (regions_of Closed) closed_of rows (λ r m. closed_is r.path r.command r.ranges)

pub all_plain : (rows : List RoutingRow) → all_selected_bars Plain rows ≡ plain_regions rows
all_plain rows = flat_map_same (regions_of Plain) plain_of rows (λ r m. plain_is r.path r.command r.ranges)

-- the agents of an endpoint
pub agents_are : (r : RoutingRow) (bs : List BaseAddress) → r.ranges ≡ regions bs → map region_agent (regions_of Open r) ≡ agents_of r
agents_are r bs e = of r.path r.command r.ranges e
  where
    of : (p : Path) (command : ℕ) (rs : Ranges) → rs ≡ regions bs → map region_agent (regions_of Open (row_of p command rs)) ≡ agents_of (row_of p command rs)
    of p command (regions cs) e = ap (map region_agent) (open_is p command (regions cs))
    of p command (windows wio wmem wpref) e = cc

-- a region of a function has its path
pub path_of : (sort : Sort) (p : Path) (command : ℕ) (rs : Ranges) (q : PlacedRegion) → IsIn q (regions_of sort (row_of p command rs)) → q.path ≡ p
path_of sort p command (regions bs) q m = ap (λ (x : PlacedRegion). x.path) (from_map (region_now p) q (filter (is_bar_selected sort command) bs) m).2
path_of sort p command (windows wio wmem wpref) q m = absurd m
