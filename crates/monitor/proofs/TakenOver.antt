-- A board that a monitor takes over: given functions at reset, one after the other.
use Rattle.std.{proofs.{Common.{◌≡◌, ℕ, ◌+◌, List, [], ◌∷◌, ◌++◌, take, Option, Some, None, refl, sym, ap, ◌∙◌, rules, arith}, lemmas.List.{append-nil, Concat.flat_map-append, Folds.list_any-append}}, specs.{Prelude.{map, flat_map, find, option_map, slice_get}, Option.option_map_or}}
use Rattle.lists.proofs.{FirstFound.found_passes, Indices.at_map}
use Rattle.model_registers.specs.{Declarations.Endpoint, Decoding.Function, CopiedFiles.after_reset}
use Rattle.model_board.{specs.{Paths.{Path, path_eq}, Board.{endpoint, Board}, AtReset.board_at, State.{BoardFunction, with_file}}, proofs.PathOrder.path_same}
use Rattle.model_guests.{specs.{World.{Guest, declared}, AgreedBoard.agreed_function}, proofs.Changes.agreed_twice}
use Rattle.model_handoff.{specs.Handoffs.files_given, proofs.{First.one_given, Functions.path_stays, Keeping.rows_stay}}
use Rattle.bridge_forward.{specs.Lending.{as_endpoint, endpoint_at, with_endpoint_reset}, proofs.RoutingRows.take_at}
use Rattle.host_bridge.specs.{ByIndex.with_reset_nth, HostState.{HostState, with_functions}}
use Rattle.window_packing.specs.Readies.{board_below}

-- ---- some paths, and then others

pub files_joined : (b : Board) (ps qs : List Path) (fs : List BoardFunction) → map (agreed_function (files_given b qs)) (map (agreed_function (files_given b ps)) fs) ≡ map (agreed_function (files_given b (ps ++ qs))) fs
files_joined b ps qs [] = refl
files_joined b ps qs (f ∷ fs) = grind (arith, files_joined b ps qs fs, path_stays, list_any-append, agreed_twice)

pub no_files : (b : Board) (fs : List BoardFunction) → map (agreed_function (files_given b [])) fs ≡ fs
no_files b [] = refl
no_files b (f ∷ fs) = ap (λ (xs : List BoardFunction). f ∷ xs) (no_files b fs)

-- ---- one path

pub declared_there : (fs : List BoardFunction) (p : Path) → declared (board_at fs) p ≡ option_map (λ (e : Function). e.decl) (endpoint_at fs p)
declared_there [] p = refl
declared_there (f ∷ fs) p = grind (arith, declared_there fs p)

pub one_reset : (fs : List BoardFunction) (p : Path) → with_endpoint_reset p fs ≡ map (agreed_function (files_given (board_at fs) (p ∷ []))) fs
one_reset fs p = grind (arith, declared_there, one_given)

-- the function that stands at the path
pub reset_found : (fs : List BoardFunction) (p : Path) (i : ℕ) → slice_get fs i ≡ find (λ (f : BoardFunction). path_eq f.path p) fs → with_reset_nth i fs ≡ with_endpoint_reset p fs
reset_found fs p i told = ap by_index told ∙ by (find (λ (f : BoardFunction). path_eq f.path p) fs) refl
  where
    by_index : Option BoardFunction → List BoardFunction
    by_index o = option_map_or (λ (e : Function). option_map_or (λ (f : BoardFunction). with_file (after_reset e.decl) f.path fs) o fs) (option_map_or as_endpoint o None) fs

    by : (o : Option BoardFunction) → find (λ (f : BoardFunction). path_eq f.path p) fs ≡ o → by_index o ≡ option_map_or (λ (e : Function). with_file (after_reset e.decl) p fs) (option_map_or as_endpoint o None) fs
    by None k = refl
    by (Some f) k =
        let path : f.path ≡ p = path_same f.path p (found_passes (λ (g : BoardFunction). path_eq g.path p) fs f k) in
        ap (λ (q : Path). option_map_or (λ (e : Function). with_file (after_reset e.decl) q fs) (as_endpoint f) fs) path

-- an endpoint by the row of the board
pub reset_row : (fs : List BoardFunction) (i : ℕ) (p : Path) (d : Endpoint) → slice_get (board_at fs) i ≡ Some (record { path = p; decl = endpoint d }) → with_reset_nth i fs ≡ with_file (after_reset d) p fs
reset_row fs i p d row = grind (arith, at_map)

-- ---- one more

abbrev pub reset_on : HostState → List Path → HostState
reset_on h ps = with_functions (map (agreed_function (files_given (board_below h) ps)) h.state.functions) h

pub none_reset : (h : HostState) → h ≡ reset_on h []
none_reset h = ap (λ (fs : List BoardFunction). with_functions fs h) (sym (no_files (board_below h) h.state.functions))

pub resets_joined : (h : HostState) (ps qs : List Path) → reset_on (reset_on h ps) qs ≡ reset_on h (ps ++ qs)
resets_joined h ps qs = search (rules, files_joined, rows_stay)

pub path_reset : (h k n : HostState) (ps : List Path) (i : ℕ) (p : Path) → slice_get ps i ≡ Some p → k ≡ reset_on h (take i ps) → n ≡ with_functions (with_endpoint_reset p k.state.functions) k
    → n ≡ reset_on h (take (i + 1) ps)
path_reset h k n ps i p at so_far more =
    more ∙ ap (λ (fs : List BoardFunction). with_functions fs k) (one_reset k.state.functions p)
    ∙ ap (λ (x : HostState). reset_on x (p ∷ [])) so_far ∙ resets_joined h (take i ps) (p ∷ []) ∙ ap (reset_on h) (sym (take_at ps i p at))

slots_push : (gs : List Guest) (g : Guest) → flat_map (λ (x : Guest). x.slots) (gs ++ g ∷ []) ≡ flat_map (λ (x : Guest). x.slots) gs ++ g.slots
slots_push gs g = search (rules, flat_map-append, append-nil)

pub guest_reset : (h k n : HostState) (gs : List Guest) (i : ℕ) (g : Guest) → slice_get gs i ≡ Some g → k ≡ reset_on h (flat_map (λ (x : Guest). x.slots) (take i gs)) → n ≡ reset_on k g.slots
    → n ≡ reset_on h (flat_map (λ (x : Guest). x.slots) (take (i + 1) gs))
guest_reset h k n gs i g at so_far more =
    let done = flat_map (λ (x : Guest). x.slots) (take i gs) in
    more ∙ ap (λ (x : HostState). reset_on x g.slots) so_far ∙ resets_joined h done g.slots
    ∙ ap (reset_on h) (sym (ap (flat_map (λ (x : Guest). x.slots)) (take_at gs i g at) ∙ slots_push (take i gs) g))
