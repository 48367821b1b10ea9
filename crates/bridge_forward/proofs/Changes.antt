-- One node changed: the layout stays, and so do all other functions.
use Rattle.std.{proofs.{Common.{◌≡◌, ℕ, Bool, true, false, cond, Option, Some, None, List, [], ◌∷◌, map, zero, suc, refl, ap, ap₂, sym, ◌∙◌, arith, subst, get_or, rules}, lemmas.Option.slice_get_within}, specs.{Prelude.{find, IsSome}, List.{slice_get, slice_set}, Option.option_map_or}}
use borrow.Follows.Closed.{read_of}
use base.Fml.{GName}
use mathlib.Core.Option.{Option as Opt}
use Rattle.lists.{specs.Elements.EachPair, proofs.Indices.{read_at, same_at, map_at, at_map, map_set, set_same, found_at}}
use Rattle.model_registers.specs.{Registers.File, CopiedFiles.after_reset}
use Rattle.model_board.{specs.{Paths.{Path, path_eq, path_before}, Board.endpoint, State.{BoardFunction, with_file}}, proofs.{PathOrder.path_same, PathEnds.{path_self, not_before_itself}}}
use Rattle.bridge_forward.{specs.{declared.{bus.Node.Node, function.Function.{Function, TheVariants.{Endpoint, Bridge}}}, Functions.{decl_of, file_of, with_cells, endpoint_in}, ResetAlone.after_leaf_reset, Layout.{function_of, functions_of, IsLaidOut}, Lending.{as_endpoint, endpoint_at, with_endpoint, with_endpoint_reset, endpoint_nth, with_endpoint_nth}, Search.IsAt}, proofs.Nodes.ordered}
use Rattle.model_registers.specs.Decoding as decoding

-- another function at one place leaves the layout
pub laid_set : (nodes : List Node) (i : ℕ) (n : Node) (f : Function) → slice_get nodes i ≡ Some n → IsLaidOut nodes → IsLaidOut (slice_set nodes i (record n { function = f }))
laid_set nodes i n f e laid = search (rules, map_set, set_same, map_at)

-- a map that changes one element alone
map_one : {A : Type 0} (t : A → Bool) (g : A → A) (xs : List A) (i : ℕ) (x : A) → slice_get xs i ≡ Some x → t x ≡ true → ((j : ℕ) (y : A) → (j ≡ i → ⊥) → slice_get xs j ≡ Some y → t y ≡ false)
    → map (λ y. cond (t y) (g y) y) xs ≡ slice_set xs i (g x)
map_one t g [] i x e h k = refl
map_one {A} t g (y ∷ ys) zero x e h k =
    let same : y ≡ x = cc in
    ap₂ (λ z zs. z ∷ zs) (ap (λ z. cond (t z) (g z) z) same ∙ ap (λ b. cond b (g x) x) h) (rest ys (λ j z f. k (suc j) z (λ q. absurd (omega (arith, q))) f))
  where
    rest : (zs : List A) → ((j : ℕ) (z : A) → slice_get zs j ≡ Some z → t z ≡ false) → map (λ z. cond (t z) (g z) z) zs ≡ zs
    rest [] m = refl
    rest (z ∷ zs) m = ap₂ (λ w ws. w ∷ ws) (ap (λ b. cond b (g z) z) (m 0 z refl)) (rest zs (λ j w f. m (suc j) w f))
map_one t g (y ∷ ys) (suc i) x e h k =
    ap₂ (λ z zs. z ∷ zs) (ap (λ b. cond b (g y) y) (k 0 y (λ q. absurd (omega (arith, q))) refl)) (map_one t g ys i x e h (λ j z d f. k (suc j) z (λ q. d (omega arith)) f))

-- files that are left as they are
pub same_files : (p : Path) (fs : List BoardFunction) → with_file (λ file. file) p fs ≡ fs
same_files p [] = refl
same_files p (f ∷ fs) = search (rules, same_files p fs)

-- no endpoint is reset where no function stands
pub none_back : (p : Path) (fs : List BoardFunction) → find (λ f. path_eq f.path p) fs ≡ None → fs ≡ with_endpoint_reset p fs
none_back p fs none = sym (ap (λ o. option_map_or (λ (e : decoding.Function). with_file (after_reset e.decl) p fs) (option_map_or as_endpoint o None) fs) none)

module _ (nodes : List Node) (laid : IsLaidOut nodes) (i : ℕ) (n : Node) (e : slice_get nodes i ≡ Some n) where
  -- no other function has the path
  others : (j : ℕ) (f : BoardFunction) → (j ≡ i → ⊥) → slice_get (functions_of nodes) j ≡ Some f → path_eq f.path n.path ≡ false
  others j f d ef = grind (arith, at_map function_of nodes j f ef, ordered, path_same f.path n.path, not_before_itself n.path)

  changed_one : (g : BoardFunction → BoardFunction) → map (λ (f : BoardFunction). cond (path_eq f.path n.path) (g f) f) (functions_of nodes) ≡ slice_set (functions_of nodes) i (g (function_of n))
  changed_one g = map_one (λ (f : BoardFunction). path_eq f.path n.path) g (functions_of nodes) i (function_of n) (map_at function_of nodes i n e) (path_self n.path) others

  -- with other cells in one function
  pub cells_set : (g : File → File) → functions_of (slice_set nodes i (record n { function = with_cells n.function (g (function_of n).file) })) ≡ with_file g n.path (functions_of nodes)
  cells_set g =
      map_set function_of nodes i (record n { function = with_cells n.function (g (function_of n).file) })
      ∙ ap (λ f. slice_set (functions_of nodes) i f) (same_function n.function)
      ∙ sym (changed_one (λ f. record f { file = g f.file }))
    where
      same_function : (f : Function) → function_of (record n { function = with_cells f (g (function_of (record n { function = f })).file) }) ≡ record (function_of (record n { function = f })) { file = g (function_of (record n { function = f })).file }
      same_function (Endpoint w) = refl
      same_function (Bridge b) = refl

  -- with another endpoint at a path
  module _ (path : Path) (at : find (λ f. path_eq f.path path) (functions_of nodes) ≡ Some (function_of n)) where
    path_is : n.path ≡ path
    path_is = path_same n.path path (found_at (λ (f : BoardFunction). path_eq f.path path) (functions_of nodes) (function_of n) at).0

    pub endpoint_set : (w : decoding.Function) → functions_of (slice_set nodes i (record n { function = Endpoint w })) ≡ with_endpoint path w (functions_of nodes)
    endpoint_set w =
        map_set function_of nodes i (record n { function = Endpoint w })
        ∙ sym (changed_one (λ f. record { path = n.path; decl = endpoint w.decl; file = w.file }))
        ∙ ap (λ p. with_endpoint p w (functions_of nodes)) path_is

    pub endpoint_there : endpoint_in n.function ≡ endpoint_at (functions_of nodes) path
    endpoint_there = search rules

    -- with that endpoint reset
    pub endpoint_back : functions_of (slice_set nodes i (record n { function = with_cells n.function (after_leaf_reset (decl_of n.function) (file_of n.function)) })) ≡ with_endpoint_reset path (functions_of nodes)
    endpoint_back = search (rules, cells_set, path_is, endpoint_there, same_files)

  pub kept : functions_of (slice_set nodes i n) ≡ functions_of nodes
  kept = ap functions_of (set_same nodes i n e)

-- the node that a search answered, where it is read
pub found_there : (nodes ms : List Node) (i : ℕ) (n : Node) (a : List BoardFunction → Option BoardFunction) → ms ≡ nodes → IsAt ms i (a (functions_of ms)) → slice_get nodes i ≡ Some n → a (functions_of nodes) ≡ Some (function_of n)
found_there nodes ms i n a q h e = grind (arith, same_at)

pub same_order : {fs gs : List BoardFunction} → fs ≡ gs → EachPair (λ (f g : BoardFunction). path_before f.path g.path ≡ true) fs → EachPair (λ (f g : BoardFunction). path_before f.path g.path ≡ true) gs
same_order e h = subst (λ (xs : List BoardFunction). EachPair (λ (f g : BoardFunction). path_before f.path g.path ≡ true) xs) e h

-- the node that was read at the index of an answer
pub node_there : (nodes ms : List Node) (i : ℕ) (n : Node) (a : List BoardFunction → Option BoardFunction) → ms ≡ nodes → IsAt ms i (a (functions_of ms)) → n ≡ get_or nodes i n → slice_get nodes i ≡ Some n
node_there nodes ms i n a q h e = grind (arith, read_at, slice_get_within)

-- two ways to write what a lender ends as
pub same_read : {D E : Type 0} (n : Opt GName) (f g : E → D) (d e : D) → ((w : E) → f w ≡ g w) → d ≡ e → read_of n f d ≡ read_of n g e
same_read n f g d e p q = λ i. read_of n (λ w. p w i) (q i)

-- ---- one function of the list, by its index

module _ (nodes : List Node) (i : ℕ) (n : Node) (e : slice_get nodes i ≡ Some n) where
  pub nth_set : (w : decoding.Function) → functions_of (slice_set nodes i (record n { function = Endpoint w })) ≡ with_endpoint_nth i w (functions_of nodes)
  nth_set w = grind (arith, map_set, map_at)

  pub nth_there : endpoint_in n.function ≡ endpoint_nth (functions_of nodes) i
  nth_there = grind (arith, map_at)

  -- an endpoint that stands there is the one at the index
  pub nth_is : (w : decoding.Function) → n.function ≡ Endpoint w → IsSome (endpoint_nth (functions_of nodes) i)
  nth_is w is = subst (λ (o : Option decoding.Function). IsSome o) (nth_there) (subst (λ (f : Function). IsSome (endpoint_in f)) (sym is) refl)
