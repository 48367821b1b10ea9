-- The search for a path among nodes in path order.
use Rattle.std.{proofs.{Common.{◌≡◌, ℕ, ◌+◌, ◌<◌, ◌≤◌, true, false, Some, None, List, [], ◌∷◌, ◌++◌, ap, sym, arith, subst, ◌↔◌, suc, map, drop, length, get_or, add-one, IsFalse}, Math.Seq.drop-cons}, specs.{Prelude.find, List.slice_get}}
use Rattle.model_board.{specs.{Paths.{Part, Path, path_eq, path_before}, Places.{Standing, has_path}}, proofs.{PathOrder.path_same, PathEnds.{not_before_itself, leads_self, no_turn}}}
use Rattle.bridge_forward.{specs.{declared.bus.Node.Node, Layout.{function_of, functions_of, IsLaidOut}, Search.{IsSide, IsAt}}, proofs.Nodes.{ordered, in_side}}
use Rattle.lists.{proofs.Indices.{read_at, same_at, map_at, at_map, find_at, find_none}, specs.Elements.{Each, EachPair}}

-- the path stands neither below low nor from high on
pub record Halved (nodes : List Node) (path : Path) (low high : ℕ) : Type 0 where
  pub below : (j : ℕ) (n : Node) → j < low → slice_get nodes j ≡ Some n → path_eq n.path path ≡ false
  pub above : (j : ℕ) (n : Node) → high ≤ j → slice_get nodes j ≡ Some n → path_eq n.path path ≡ false

-- a function on a bus stands nowhere but among what is behind the bus
pub halved_side : (nodes : List Node) (laid : IsLaidOut nodes) (bus : Path) (from to : ℕ) (side : IsSide nodes bus from to) (t : Part) → Halved nodes (bus ++ t ∷ []) from to
halved_side nodes laid bus from to side t = record {
  below = λ j n l e. grind (arith, path_same n.path (bus ++ t ∷ []), leads_self bus t, in_side nodes laid bus from to side j n e);
  above = λ j n l e. grind (arith, path_same n.path (bus ++ t ∷ []), leads_self bus t, in_side nodes laid bus from to side j n e);
}

module _ (nodes : List Node) (laid : IsLaidOut nodes) (path : Path) where
  -- the node that stands in the middle
  module _ (i : ℕ) (m : Node) (l : i < length nodes) (there : m ≡ get_or nodes i m) where
    em : slice_get nodes i ≡ Some m
    em = read_at nodes i m l there

    -- what comes before an earlier node is no later path
    pub below_here : (low high : ℕ) → Halved nodes path low high → path_eq m.path path ≡ false → path_before m.path path ≡ true → Halved nodes path (i + 1) high
    below_here low high h other before = record {
      below = λ j n l e. grind (arith, em, path_same n.path path, no_turn m.path path before, ordered nodes laid j i n m, same_at nodes j m n);
      above = h.above;
    }

    pub above_here : (low high : ℕ) → Halved nodes path low high → path_eq m.path path ≡ false → path_before m.path path ≡ false → Halved nodes path low i
    above_here low high h other before = record {
      below = h.below;
      above = λ j n l e. grind (arith, em, path_same n.path path, ordered nodes laid i j m n, same_at nodes j m n);
    }

    pub here : path_eq m.path path ≡ true → IsAt nodes i (find (λ f. path_eq f.path path) (functions_of nodes))
    here h = record {
      node = m;
      there = em;
      found = find_at (λ f. path_eq f.path path) (functions_of nodes) i (function_of m) (map_at function_of nodes i m em) h
          (λ j f l e.
          let n = at_map function_of nodes j f e in
          grind (arith, n.2, path_same n.0.path path, path_same m.path path h, ordered nodes laid j i n.0 m l n.1 em, not_before_itself path));
    }

  pub nowhere : (low high : ℕ) → Halved nodes path low high → high ≤ low → find (λ f. path_eq f.path path) (functions_of nodes) ≡ None
  nowhere low high h l = find_none (λ f. path_eq f.path path) (functions_of nodes) (λ j f e. let n = at_map function_of nodes j f e in grind (arith, n.2, h.below j n.0, h.above j n.0))

-- ---- what a search for a path says of each place

abbrev Apart : Standing → Standing → Type 0
Apart s t = IsFalse (path_eq t.path s.path)

none_at : (ss : List Standing) (p : Path) → has_path ss p ≡ false → Each (λ t. IsFalse (path_eq t.path p)) ss
none_at [] p h = tt
none_at (s ∷ ss) p h = (grind arith, none_at ss p (grind arith))

some_at : (ss : List Standing) (p : Path) → has_path ss p ≡ true → Each (λ t. IsFalse (path_eq t.path p)) ss → ⊥
some_at [] p h k = cc
some_at (s ∷ ss) p h k = some_at ss p (rw k.0 at h) k.1

module _ {A : Type 0} (standing : A → Standing) where
  next : (xs : List A) (i : ℕ) (x : A) → i < length xs → x ≡ get_or xs i x → map standing (drop i xs) ≡ standing x ∷ map standing (drop (i + 1) xs)
  next xs i x h e = rw (add-one, drop-cons xs i x h) (ap (λ y. standing y ∷ map standing (drop (suc i) xs)) (sym e))

  pub apart_from_here : (xs : List A) (i : ℕ) (x : A) → i < length xs → x ≡ get_or xs i x → has_path (map standing (drop (i + 1) xs)) (standing x).path ≡ false
      → EachPair Apart (map standing (drop i xs)) ↔ EachPair Apart (map standing (drop (i + 1) xs))
  apart_from_here xs i x h e none = (λ k. (subst (EachPair Apart) (next xs i x h e) k).1, λ k. subst (EachPair Apart) (sym (next xs i x h e)) (none_at (map standing (drop (i + 1) xs)) (standing x).path none, k))

  pub not_apart_here : (xs : List A) (i : ℕ) (x : A) → i < length xs → x ≡ get_or xs i x → has_path (map standing (drop (i + 1) xs)) (standing x).path ≡ true
      → EachPair Apart (map standing (drop i xs)) → ⊥
  not_apart_here xs i x h e some k = some_at (map standing (drop (i + 1) xs)) (standing x).path some (subst (EachPair Apart) (next xs i x h e) k).0
