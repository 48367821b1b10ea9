-- The least address of a region that a bridge prefetches.
use Rattle.std.{proofs.Common.{◌≡◌, ℕ, Bool, ◌&&◌, List, [], ◌∷◌, ◌++◌, Option, sym, ap, ◌∙◌}, specs.{Prelude.{map, filter}, Option.option_to_list}}
use Rattle.model_board.specs.Routing.{RoutingRow}
use Rattle.model_set_up.specs.PlacedRegions.{PlacedRegion, holds}
use Rattle.model_findings.specs.{Agents.Extent, Problems.least, ReadinessIssues.{prefetches, prefetch_edges, first_prefetched_address}}
use Rattle.findings.{specs.Extents.least_of, proofs.Least.{least_piece, least_last}}

abbrev held : RoutingRow → PlacedRegion → ℕ → Bool
held r q n = holds q.space n q && prefetches n r

pub least_prefetched : (r : RoutingRow) (q : PlacedRegion) (xs ys : List Extent) → prefetch_edges r ≡ map (λ (e : Extent). e.first) xs ++ map (λ (e : Extent). e.end) ys → (a b c : Option ℕ)
    → option_to_list a ≡ filter (held r q) (q.first ∷ [])
    → option_to_list b ≡ filter (held r q) (map (λ e. e.first) xs)
    → option_to_list c ≡ filter (held r q) (map (λ e. e.end) ys)
    → least_of a (least_of b c) ≡ first_prefetched_address r q
least_prefetched r q xs ys edges a b c f g h =
    ap (least_of a) (ap (least_of b) (sym (least_last (held r q) c (map (λ e. e.end) ys) h)) ∙ sym (least_piece (held r q) b (map (λ e. e.first) xs) (map (λ e. e.end) ys) g))
    ∙ sym (least_piece (held r q) a (q.first ∷ []) (map (λ e. e.first) xs ++ map (λ e. e.end) ys) f)
    ∙ ap (λ zs. least (filter (held r q) (q.first ∷ zs))) (sym edges)
