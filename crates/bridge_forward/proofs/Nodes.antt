-- A tree as one list: what its extents say of paths.
use Rattle.std.{proofs.{Common.{◌≡◌, ℕ, ◌+◌, ◌<◌, ◌≤◌, true, false, ◌&&◌, Some, List, [], ◌∷◌, length, refl, sym, arith, inl, inr, ◌⊎◌, subst, rules}, lemmas.{Bool.Decides.nat_tests, Option.slice_get_within, List.length-map}}, specs.{Prelude.nat_lt, List.slice_get}}
use Rattle.lists.{specs.Elements.{Each, EachPair}, proofs.Indices.{at_below, each_at, pair_at, any_at, map_at, at_map}}
use Rattle.model_board.{specs.{State.BoardFunction, Paths.{Path, path_eq, path_before, is_ancestor_of, parent, last_part, IsPath}}, proofs.{PathOrder.path_same, PathEnds.{snoc, leads_up, leads_self, leads_trans, leads_longer}}}
use Rattle.bridge_forward.specs.{declared.bus.Node.Node, Layout.{functions_of, paths_of, EndsAt, IsLaidOut}, Search.IsSide}
use Rattle.paths.proofs.Paths.{length-parent}

-- a path behind a bus stands on it, or its parent is behind that bus
pub on_or_behind : (bus p : Path) → 0 < length p → is_ancestor_of bus p ≡ true → (bus ≡ parent p) ⊎ (is_ancestor_of bus (parent p) ≡ true)
on_or_behind bus p some h = leads_up bus (parent p) (last_part p) (subst (λ q. is_ancestor_of bus q ≡ true) (snoc p some) h)

pub parent_leads : (p : Path) → 0 < length p → is_ancestor_of (parent p) p ≡ true
parent_leads p some = subst (λ q. is_ancestor_of (parent p) q ≡ true) (sym (snoc p some)) (leads_self (parent p) (last_part p))

module _ (nodes : List Node) (laid : IsLaidOut nodes) where
  path_at : (i : ℕ) (n : Node) → slice_get nodes i ≡ Some n → slice_get (paths_of nodes) i ≡ Some n.path
  path_at i n e = map_at (λ (m : Node). m.path) nodes i n e

  ends : (i : ℕ) (n : Node) → slice_get nodes i ≡ Some n → EndsAt (paths_of nodes) i n.end
  ends i n e = laid.ends_at i n.end (map_at (λ (m : Node). m.end) nodes i n e)

  pub path_of : (i : ℕ) (n : Node) → slice_get nodes i ≡ Some n → IsPath n.path
  path_of i n e = each_at IsPath (paths_of nodes) i n.path laid.order.paths (path_at i n e)

  pub inside : (i : ℕ) (n : Node) → slice_get nodes i ≡ Some n → (i < n.end) × (n.end ≤ length nodes)
  inside i n e = let w = ends i n e in (w.after, rw (← length-map nodes (λ (m : Node). m.path)) w.within)

  pub leads : (i j : ℕ) (m n : Node) → slice_get nodes i ≡ Some m → slice_get nodes j ≡ Some n → is_ancestor_of m.path n.path ≡ (nat_lt i j && nat_lt j m.end)
  leads i j m n em en = (ends i m em).leads j m.path n.path (path_at i m em) (path_at j n en)

  pub ordered : (i j : ℕ) (m n : Node) → i < j → slice_get nodes i ≡ Some m → slice_get nodes j ≡ Some n → path_before m.path n.path ≡ true
  ordered i j m n l em en = pair_at (λ (p q : Path). path_before p q ≡ true) (paths_of nodes) i j m.path n.path laid.order.in_order l (path_at i m em) (path_at j n en)

  -- what stands within the extent of i is behind i, and nothing else
  pub leads_within : (i j : ℕ) (m n : Node) → slice_get nodes i ≡ Some m → slice_get nodes j ≡ Some n → i < j → j < m.end → is_ancestor_of m.path n.path ≡ true
  leads_within i j m n em en l k = grind (arith, nat_tests, leads i j m n em en)

  pub within_of_leads : (i j : ℕ) (m n : Node) → slice_get nodes i ≡ Some m → slice_get nodes j ≡ Some n → is_ancestor_of m.path n.path ≡ true → (i < j) × (j < m.end)
  within_of_leads i j m n em en a = grind (arith, nat_tests, leads i j m n em en)

  -- extents nest
  pub nested : (i k : ℕ) (m n : Node) → slice_get nodes i ≡ Some m → slice_get nodes k ≡ Some n → i < k → k < m.end → n.end ≤ m.end
  nested i k m n em en l h = grind (arith, past)
    where
      past : m.end < n.end → ⊥
      past o =
          let w = inside k n en in
          let j = at_below nodes m.end (omega (arith, w.1)) in
          let a = leads_within i k m n em en l h in
          let b = leads_within k m.end n j.0 en j.1 h o in
          let v = within_of_leads i m.end m j.0 em j.1 (leads_trans m.path n.path j.0.path a b) in
          omega (arith, v.1)

  -- the bridge above a path stands in the list
  pub bridge_above : (i : ℕ) (n : Node) → slice_get nodes i ≡ Some n → 0 < length (parent n.path) → (k : ℕ) × ((m : Node) × (slice_get nodes k ≡ Some m) × (m.path ≡ parent n.path))
  bridge_above i n e some = search (rules, each_at, path_at, any_at, at_map, path_same)

  -- ---- sides

  -- the whole list is the side of bus 0
  pub side_root : IsSide nodes [] 0 (length nodes)
  side_root = record {
    within = omega arith;
    behind = λ j n e. grind (arith, nat_tests, slice_get_within nodes j n e, leads_some n.path (path_of j n e).some);
  }
    where
      leads_some : (p : Path) → 0 < length p → is_ancestor_of [] p ≡ true
      leads_some [] h = absurd (omega arith)
      leads_some (x ∷ xs) h = refl

  -- the extent of a bridge is its side
  pub side_behind : (i : ℕ) (n : Node) → slice_get nodes i ≡ Some n → IsSide nodes n.path (i + 1) n.end
  side_behind i n e = record {
    within = let w = inside i n e in omega (arith, w.1);
    behind = λ j m em. grind (arith, nat_tests, leads i j n m e em);
  }

  module _ (bus : Path) (from to : ℕ) (side : IsSide nodes bus from to) where
    pub behind_bus : (j : ℕ) (n : Node) → slice_get nodes j ≡ Some n → from ≤ j → j < to → is_ancestor_of bus n.path ≡ true
    behind_bus j n e l h = grind (arith, nat_tests, side.behind j n e)

    pub in_side : (j : ℕ) (n : Node) → slice_get nodes j ≡ Some n → is_ancestor_of bus n.path ≡ true → (from ≤ j) × (j < to)
    in_side j n e h = grind (arith, nat_tests, side.behind j n e)

    -- all that was met before index i ends before it
    abbrev pub Ended : ℕ → Type 0
    Ended i = (j : ℕ) (n : Node) → from ≤ j → j < i → slice_get nodes j ≡ Some n → n.end ≤ i

    -- so what is met at index i stands on the bus
    pub met_on_bus : (i : ℕ) (n : Node) → Ended i → slice_get nodes i ≡ Some n → from ≤ i → i < to → parent n.path ≡ bus
    met_on_bus i n ended e l h = by_place (on_or_behind bus n.path (path_of i n e).some (behind_bus i n e l h))
      where
        by_place : (bus ≡ parent n.path) ⊎ (is_ancestor_of bus (parent n.path) ≡ true) → parent n.path ≡ bus
        by_place (inl p) = sym p
        by_place (inr p) =
            let long = leads_longer bus (parent n.path) p in
            let above = bridge_above i n e (omega (arith, long)) in
            let m = above.1.0 in
            let there = in_side above.0 m above.1.1 in
            let over = within_of_leads above.0 i m n above.1.1 e in
            grind (arith, above.1.2, there, over, parent_leads n.path (path_of i n e).some, ended above.0 m)

    -- the step past a node and all that stands behind it
    pub ended_next : (i : ℕ) (n : Node) → Ended i → slice_get nodes i ≡ Some n → Ended n.end
    ended_next i n ended e j m l h em = search (rules, inside, nested)

    -- what is passed by that step stands on no bus of its own parent
    pub passed_by : (i j : ℕ) (n m : Node) → Ended i → slice_get nodes i ≡ Some n → slice_get nodes j ≡ Some m → from ≤ i → i < to → i < j → j < n.end → path_eq (parent m.path) bus ≡ false
    passed_by i j n m ended e em l h b g =
        let here = met_on_bus i n ended e l h in
        let longer = leads_longer n.path m.path (leads_within i j n m e em b g) in
        grind (arith, length-parent m.path, length-parent n.path, path_of i n e, path_same (parent m.path) bus)

  -- ---- the functions of the tree

  after_first : (n : Node) (ns : List Node) → Each (λ q. path_before n.path q ≡ true) (paths_of ns) → Each (λ (g : BoardFunction). path_before n.path g.path ≡ true) (functions_of ns)
  after_first n [] h = tt
  after_first n (m ∷ ms) h = (h.0, after_first n ms h.1)

  in_order : (ns : List Node) → EachPair (λ p q. path_before p q ≡ true) (paths_of ns) → EachPair (λ (f g : BoardFunction). path_before f.path g.path ≡ true) (functions_of ns)
  in_order [] h = tt
  in_order (n ∷ ns) h = (after_first n ns h.0, in_order ns h.1)

  pub functions_in_order : EachPair (λ (f g : BoardFunction). path_before f.path g.path ≡ true) (functions_of nodes)
  functions_in_order = in_order nodes laid.order.in_order
