-- Mutable borrows of a tree's endpoints.
--     endpoint_at fs p      the endpoint at a path, if there is one
--     with_endpoint p e fs      the functions with this endpoint at the path
--     endpoint_nth fs i      the endpoint at an index of the list, if there is one
--     with_endpoint_reset p fs      the functions with only the endpoint at a path reset
--     with_endpoint_nth i e fs      the functions with this endpoint at the index, keeping its path
use Rattle.std.specs.{Prelude.{List, ℕ, if◌then◌else◌, Option, Some, None, map, find, slice_get, slice_set}, Option.option_map_or, Borrow.{LendsIf, MutBor, Fml}}
use Rattle.model_registers.specs.{Decoding.Function, CopiedFiles.after_reset}
use Rattle.model_board.specs.{Paths.{Path, path_eq}, Board.{endpoint, bridge}, State.{BoardFunction, with_file}}
use Rattle.bridge_forward.specs.contracts.endpoint.EndpointFn as endpoint_fn
use Rattle.bridge_forward.specs.contracts.bus.Bus as bus

abbrev pub as_endpoint : BoardFunction → Option Function
as_endpoint f = elim f.decl [ endpoint d ↦ Some (record { decl = d; file = f.file }) | bridge d ↦ None ]

abbrev pub endpoint_at : List BoardFunction → Path → Option Function
endpoint_at fs p = option_map_or as_endpoint (find (λ f. path_eq f.path p) fs) None

-- all other functions stay the same
abbrev pub with_endpoint : Path → Function → List BoardFunction → List BoardFunction
with_endpoint p e fs =
    map (λ (f : BoardFunction).
    if path_eq f.path p then record { path = p; decl = endpoint e.decl; file = e.file } else f) fs

abbrev pub with_endpoint_reset : Path → List BoardFunction → List BoardFunction
with_endpoint_reset p fs = option_map_or (λ (e : Function). with_file (after_reset e.decl) p fs) (endpoint_at fs p) fs

-- in the end the endpoint at the path has the state that the borrow r leaves
abbrev pub LendsEndpoint : MutBor (List BoardFunction) → Path → Option (MutBor Function) → Fml
LendsEndpoint b p r = LendsIf bus.the_row endpoint_fn.the_row b r (λ e. with_endpoint p e b.now) b.now

abbrev pub endpoint_nth : List BoardFunction → ℕ → Option Function
endpoint_nth fs i = option_map_or as_endpoint (slice_get fs i) None

abbrev pub with_endpoint_nth : ℕ → Function → List BoardFunction → List BoardFunction
with_endpoint_nth i e fs =
    option_map_or
    (λ (f : BoardFunction). slice_set fs i (record { path = f.path; decl = endpoint e.decl; file = e.file }))
    (slice_get fs i) fs

-- in the end the endpoint at the index has the state that the borrow r leaves
abbrev pub LendsEndpointNth : MutBor (List BoardFunction) → ℕ → Option (MutBor Function) → Fml
LendsEndpointNth b i r = LendsIf bus.the_row endpoint_fn.the_row b r (λ e. with_endpoint_nth i e b.now) b.now
