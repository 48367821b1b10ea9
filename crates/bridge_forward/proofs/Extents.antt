-- Where that ends which stands behind a path, in a list in path order.
use Rattle.std.{proofs.{Common.{◌≡◌, ℕ, ◌+◌, ◌<◌, ◌≤◌, true, false, Some, List, length, ap, ◌∙◌, arith, rules}, lemmas.{Bool.Decides.nat_tests, Option.slice_get_within}}, specs.List.{slice_get, slice_set}}
use Rattle.model_board.{specs.Paths.{Path, path_before, is_ancestor_of}, proofs.{PathOrder.{behind_trans, leads_before}, PathEnds.{not_before_itself, no_turn}}}
use Rattle.bridge_forward.{specs.{declared.bus.Node.Node, Layout.{functions_of, paths_of, AreInOrder, EndsAt, IsLaidOut}}, proofs.EndpointAccess.set_cases}
use Rattle.lists.proofs.Indices.{same_at, at_below, pair_at, map_at, at_map, map_set, set_same}

-- ---- path order

-- what stands in order between a path and one behind it is behind it
pub between : (p q r : Path) → is_ancestor_of p r ≡ true → path_before p q ≡ true → path_before q r ≡ true → is_ancestor_of p q ≡ true
between p q r a b c = grind (arith, behind_trans r p q b, no_turn q r c)

-- ---- the search for the end

-- what stands from index i up to `end` is behind the path at i
pub record Behind (ps : List Path) (i end : ℕ) : Type 0 where
  pub after : i < end
  pub within : end ≤ length ps
  pub all : (j : ℕ) (p q : Path) → i < j → j < end → slice_get ps i ≡ Some p → slice_get ps j ≡ Some q → is_ancestor_of p q ≡ true

module _ (ps : List Path) (order : AreInOrder ps) where
  ordered : (i j : ℕ) (p q : Path) → i < j → slice_get ps i ≡ Some p → slice_get ps j ≡ Some q → path_before p q ≡ true
  ordered i j p q l e f = pair_at (λ (x y : Path). path_before x y ≡ true) ps i j p q order.in_order l e f

  -- no path stands before what leads to it
  not_back : (i j : ℕ) (p q : Path) → slice_get ps i ≡ Some p → slice_get ps j ≡ Some q → j ≤ i → is_ancestor_of p q ≡ true → ⊥
  not_back i j p q ep eq l t = grind (arith, leads_before p q t, no_turn p q, ordered j i q p, same_at ps i p q, not_before_itself p)

  -- the search ends where the list does, or at a path that is not behind
  ends_here : (i end : ℕ) → Behind ps i end → ((p q : Path) → slice_get ps i ≡ Some p → slice_get ps end ≡ Some q → is_ancestor_of p q ≡ false) → EndsAt ps i end
  ends_here i end b stop = record {
    after = b.after;
    within = b.within;
    leads = λ j p q ep eq. grind (arith, nat_tests, b.all j p q, not_back i j p q ep eq, no_more j p q ep eq);
  }
    where
      no_more : (j : ℕ) (p q : Path) → slice_get ps i ≡ Some p → slice_get ps j ≡ Some q → end ≤ j → is_ancestor_of p q ≡ true → ⊥
      no_more j p q ep eq l t =
          let e = at_below ps end (let w = slice_get_within ps j q eq in omega (arith, w)) in
          grind (arith, stop p e.0 ep e.1, between p e.0 q t (ordered i end p e.0 b.after ep e.1), ordered end j e.0 q, same_at ps j q e.0)

  pub behind_more : (i end : ℕ) (p q : Path) → Behind ps i end → slice_get ps i ≡ Some p → slice_get ps end ≡ Some q → is_ancestor_of p q ≡ true → Behind ps i (end + 1)
  behind_more i end p q h ep eq t = search (rules, slice_get_within, same_at)

  pub stops : (i end : ℕ) (p q : Path) → Behind ps i end → slice_get ps i ≡ Some p → slice_get ps end ≡ Some q → is_ancestor_of p q ≡ false → EndsAt ps i end
  stops i end p q h ep eq f = ends_here i end h (λ x y ex ey. ap (λ z. is_ancestor_of z y) (same_at ps i x p ex ep) ∙ ap (is_ancestor_of p) (same_at ps end y q ey eq) ∙ f)

  pub stops_past : (i end : ℕ) → Behind ps i end → length ps ≤ end → EndsAt ps i end
  stops_past i end h l = ends_here i end h (λ x y ex ey. absurd (let w = slice_get_within ps end y ey in omega (arith, w)))

-- ---- all ends

-- the nodes before index i have their ends
pub record Done (nodes initial : List Node) (i : ℕ) : Type 0 where
  pub paths : paths_of nodes ≡ paths_of initial
  pub functions : functions_of nodes ≡ functions_of initial
  pub ends : (k : ℕ) (n : Node) → k < i → slice_get nodes k ≡ Some n → EndsAt (paths_of initial) k n.end

pub done_more : (nodes initial : List Node) (i end : ℕ) (n : Node) → Done nodes initial i → slice_get nodes i ≡ Some n → EndsAt (paths_of nodes) i end → Done (slice_set nodes i (record n { end = end })) initial (i + 1)
done_more nodes initial i end n d e x = grind (arith, map_set, set_same, map_at, set_cases)

pub all_done : (nodes initial : List Node) (i : ℕ) → AreInOrder (paths_of initial) → Done nodes initial i → length nodes ≤ i → IsLaidOut nodes
all_done nodes initial i order d l = search (rules, at_map, slice_get_within)
