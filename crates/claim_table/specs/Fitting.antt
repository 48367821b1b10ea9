-- Whether a table fits a host depends on the routing registers only.
use Rattle.std.{proofs.{Common.{◌≡◌, ℕ, List, sym, ap, ◌∙◌}, lemmas.{Option.slice_get-map, Simd.map-map}}, specs.{Prelude.{map, slice_get}, Option.option_map}}
use Rattle.lists.proofs.EachLemmas.{each_map}
use Rattle.model_board.{specs.{Paths.Path, State.BoardFunction, Routing.{RoutingRow, routing}}, proofs.Routing.same_claims}
use Rattle.host_bridge.specs.HostState.{HostState}
use Rattle.claim_table.specs.Tables.{TableEntry, IsOfFunction, FitsTable}

abbrev pub paths : List BoardFunction → List Path
paths fs = map (λ (f : BoardFunction). f.path) fs

pub same_paths : (fs gs : List BoardFunction) → routing fs ≡ routing gs → paths fs ≡ paths gs
same_paths fs gs h =
    sym (map-map (λ (r : RoutingRow). r.path) _ fs)
    ∙ ap (map (λ (r : RoutingRow). r.path)) h ∙ map-map (λ (r : RoutingRow). r.path) _ gs

pub nth_path : (fs : List BoardFunction) (i : ℕ)
    → option_map (λ (f : BoardFunction). f.path) (slice_get fs i) ≡ slice_get (paths fs) i
nth_path fs i = sym (slice_get-map (λ (f : BoardFunction). f.path) fs i)

pub fits_by_routing : (t : List TableEntry) (h k : HostState)
    → routing h.state.functions ≡ routing k.state.functions → FitsTable t h → FitsTable t k
fits_by_routing t h k same fits = record {
  claims = λ space n. fits.claims space n ∙ (same_claims h.state.functions k.state.functions same space n).0;
  functions = each_map (IsOfFunction h.state.functions) (IsOfFunction k.state.functions) t
      (λ e at. nth_path k.state.functions e.function
      ∙ ap (λ (ps : List Path). slice_get ps e.function) (sym (same_paths h.state.functions k.state.functions same))
      ∙ sym (nth_path h.state.functions e.function) ∙ at) fits.functions;
}
