-- The bridges that are known to lead to buses, where one function or one entry changes.
use Rattle.std.{proofs.{Common.{arith, ◌≡◌, ℕ, zero, suc, Bool, true, false, ◌&&◌, cond, Option, Some, None, List, [], ◌∷◌, ◌++◌, replicate, refl, ap, ap₂, sym, ◌∙◌, subst, get_or, rules}, lemmas.{Grind.common_steps, Option.{slice_get_within, get_or_from_slice_get}}}, specs.{Prelude.{IfSome, find}, List.{slice_get, slice_set}}}
use Rattle.model_board.specs.{Paths.{Part, Path}, Board.is_bridge, State.BoardFunction, Cycles.{taker, takes, is_route}}
use Rattle.bridge_forward.{specs.{declared.{bus.Node.Node, function.Function.{Function, TheVariants.{Endpoint, Bridge}}}, Cycled.after_access, Functions.{decl_of, file_of, with_cells, endpoint_in}, ResetAlone.after_leaf_reset, Layout.{function_of, functions_of, paths_of}, Leading.{LeadsTo, AreUnknown, AreRoutes, IsBus}}, proofs.{Reached.taking, Skipping.{covers_none, same_kind, tree_set}, EndpointAccess.set_cases, Changes.laid_set}}
use Rattle.config_bytes.specs.{declared.op.Op.Op, Ops.is_write}
use Rattle.lists.proofs.Indices.{at_map, read_at, same_at, map_at, map_set, set_same}

-- a search that passes what was there and what is there now finds the same
find_set : {A : Type 0} (t : A → Bool) (xs : List A) (i : ℕ) (x y : A) → slice_get xs i ≡ Some x → t x ≡ false → t y ≡ false → find t (slice_set xs i y) ≡ find t xs
find_set t [] i x y e h k = refl
find_set t (z ∷ zs) zero x y e h k = let same : z ≡ x = cc in let first : t z ≡ false = ap t same ∙ h in rw (k, first) refl
find_set t (z ∷ zs) (suc i) x y e h k = ap (λ r. cond (t z) (Some z) r) (find_set t zs i x y e h k)

step_same : (fs gs : List BoardFunction) (n : ℕ) → ((bus : Path) → taker fs bus n ≡ taker gs bus n) → (above : Path) (x : Part) (ends : Bool) → takes fs above n x ends ≡ takes gs above n x ends
step_same fs gs n h above x ends = grind arith

-- routes are told by the bridges that take cycles
route_same : (fs gs : List BoardFunction) (n : ℕ) → ((bus : Path) → taker fs bus n ≡ taker gs bus n) → (above p : Path) → is_route fs n above p ≡ is_route gs n above p
route_same fs gs n h above [] = refl
route_same fs gs n h above (x ∷ []) = refl
route_same fs gs n h above (x ∷ y ∷ []) = step_same fs gs n h above x true
route_same fs gs n h above (x ∷ y ∷ z ∷ ps) = ap₂ (λ a b. a && b) (step_same fs gs n h above x false) (route_same fs gs n h (above ++ x ∷ []) (y ∷ z ∷ ps))

module _ (nodes : List Node) (i : ℕ) (n : Node) (f : Function) (e : slice_get nodes i ≡ Some n) (old : is_bridge (decl_of n.function) ≡ false) (new : is_bridge (decl_of f) ≡ false) where
  abbrev changed : List Node
  changed = slice_set nodes i (record n { function = f })

  not_taking : (bus : Path) (b : ℕ) (m : Node) → is_bridge (decl_of m.function) ≡ false → taking bus b (function_of m) ≡ false
  not_taking bus b m h = search (rules, covers_none)

  taker_set : (bus : Path) (b : ℕ) → taker (functions_of changed) bus b ≡ taker (functions_of nodes) bus b
  taker_set bus b =
      ap (find (taking bus b)) (map_set function_of nodes i (record n { function = f }))
      ∙ find_set (taking bus b) (functions_of nodes) i (function_of n) (function_of (record n { function = f })) (map_at function_of nodes i n e) (not_taking bus b n old)
      (not_taking bus b (record n { function = f }) new)

  same_paths : paths_of changed ≡ paths_of nodes
  same_paths = map_set (λ (m : Node). m.path) nodes i (record n { function = f }) ∙ set_same (paths_of nodes) i n.path (map_at (λ (m : Node). m.path) nodes i n e)

  leads_set : (b k : ℕ) → LeadsTo nodes b k → LeadsTo changed b k
  leads_set b k led =
      let there : slice_get (paths_of changed) k ≡ Some led.bridge.path = ap (λ (ps : List Path). slice_get ps k) same_paths ∙ map_at (λ (m : Node). m.path) nodes k led.bridge led.there in
      grind (arith, at_map, route_same, taker_set)

  -- a function that is no bridge may change
  pub routes_set : (known : List (Option ℕ)) → AreRoutes nodes known → AreRoutes changed known
  routes_set known are b k g = leads_set b k (are b k g)

  pub bus_set : (known : List (Option ℕ)) → IsBus nodes known → IsBus changed known
  bus_set known is = search (rules, tree_set, laid_set, routes_set)

pub bus_same : (nodes : List Node) (i : ℕ) (n : Node) (known : List (Option ℕ)) → slice_get nodes i ≡ Some n → IsBus nodes known → IsBus (slice_set nodes i n) known
bus_same nodes i n known e is = subst (λ (ms : List Node). IsBus ms known) (sym (set_same nodes i n e)) is

-- where nothing is known
pub routes_unknown : (nodes : List Node) (known : List (Option ℕ)) → AreUnknown known → AreRoutes nodes known
routes_unknown nodes known none n i e = grind (arith, slice_get_within, get_or_from_slice_get)

pub routes_none : (nodes : List Node) (count : ℕ) (known : List (Option ℕ)) → known ≡ replicate count None → AreRoutes nodes known
routes_none nodes count known is = routes_unknown nodes known (λ n l. grind (arith, common_steps))

-- one more bridge, or one less
pub routes_more : (nodes : List Node) (known : List (Option ℕ)) (n : ℕ) (o : Option ℕ) → AreRoutes nodes known → ((i : ℕ) → o ≡ Some i → LeadsTo nodes n i) → AreRoutes nodes (slice_set known n o)
routes_more nodes known n o are led m i e = search (rules, set_cases)

-- after a cycle that read, or that wrote a function which is no bridge
pub routes_after : (nodes : List Node) (i : ℕ) (n : Node) (op : Op) (off enables : ℕ) (g : Function) (known : List (Option ℕ)) → slice_get nodes i ≡ Some n
    → g ≡ with_cells n.function (after_access op off enables (file_of n.function)) → (is_write op && is_bridge (decl_of g)) ≡ false
    → AreRoutes nodes known → AreRoutes (slice_set nodes i (record n { function = g })) known
routes_after nodes i n op off enables g known e is test are = grind (arith, set_same, routes_set, same_kind)

pub routes_cycled : (nodes : List Node) (i : ℕ) (n : Node) (op : Op) (off enables : ℕ) (g : Function) (known left : List (Option ℕ)) (count : ℕ) (changed : Bool) → slice_get nodes i ≡ Some n
    → g ≡ with_cells n.function (after_access op off enables (file_of n.function)) → (is_write op && is_bridge (decl_of g)) ≡ changed → left ≡ cond changed (replicate count None) known
    → AreRoutes nodes known → AreRoutes (slice_set nodes i (record n { function = g })) left
routes_cycled nodes i n op off enables g known left count changed e is test forgot are = grind (arith, routes_none, routes_after)

-- after an endpoint was reset
pub bus_reset : (nodes : List Node) (i : ℕ) (n : Node) (g : Function) (known : List (Option ℕ)) → slice_get nodes i ≡ Some n → g ≡ with_cells n.function (after_leaf_reset (decl_of n.function) (file_of n.function))
    → IsBus nodes known → IsBus (slice_set nodes i (record n { function = g })) known
bus_reset nodes i n g known e is bus = by_kind n.function refl
  where
    by_kind : (f : Function) → n.function ≡ f → IsBus (slice_set nodes i (record n { function = g })) known
    by_kind (Endpoint w) q =
        bus_set nodes i n g e (ap (λ (f : Function). is_bridge (decl_of f)) q)
        (ap (λ (f : Function). is_bridge (decl_of f)) is ∙ same_kind n.function (after_leaf_reset (decl_of n.function) (file_of n.function)) ∙ ap (λ (f : Function). is_bridge (decl_of f)) q) known bus
    by_kind (Bridge b) q =
        let stays : g ≡ n.function = is ∙ ap (λ (f : Function). with_cells f (after_leaf_reset (decl_of f) (file_of f))) q ∙ sym q in
        subst (λ (f : Function). IsBus (slice_set nodes i (record n { function = f })) known) (sym stays) (bus_same nodes i n known e bus)

-- a bridge lends no endpoint
pub none_lent : (f : Function) → is_bridge (decl_of f) ≡ true → None ≡ endpoint_in f
none_lent f h = grind arith

-- what is known is an entry
pub known_at : (known : List (Option ℕ)) (n i : ℕ) → get_or known n None ≡ Some i → slice_get known n ≡ Some (Some i)
known_at [] n i e = absurd (cc)
known_at (k ∷ ks) zero i e = ap (λ o. Some o) e
known_at (k ∷ ks) (suc n) i e = known_at ks n i e

pub found_some : (P : ℕ → Type 0) (o : Option ℕ) → IfSome o P → (i : ℕ) → o ≡ Some i → P i
found_some P o h i e = grind arith

-- what was read twice at one place
pub same_read_at : (nodes : List Node) (i : ℕ) (n m : Node) → slice_get nodes i ≡ Some n → m ≡ get_or nodes i m → n ≡ m
same_read_at nodes i n m e q = same_at nodes i n m e (read_at nodes i m (slice_get_within nodes i n e) q)
