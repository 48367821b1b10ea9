-- What a search for a bridge may pass: functions that are no bridges, with nothing behind them.
use Rattle.std.{proofs.{Common.{◌≡◌, ℕ, zero, suc, ◌+◌, ◌<◌, ◌≤◌, inl, inr, false, ◌&&◌, Some, List, length, refl, ap, ◌∙◌, subst, arith, rules}, lemmas.{Bool.Decides.nat_tests, Option.slice_get_within}}, specs.{Prelude.nat_le, List.{slice_get, slice_set}}}
use Rattle.model_registers.specs.Registers.{File}
use Rattle.model_board.specs.{Paths.Path, Board.is_bridge, Cycles.{secondary_register, subordinate_register, covers}}
use Rattle.bridge_forward.{specs.{declared.{bus.Node.Node, function.Function.{Function, TheVariants.{Endpoint, Bridge}}}, Functions.{decl_of, with_cells}, Layout.{function_of, functions_of, paths_of, ends_of, IsLaidOut}, Skips.{AreSkipped, IsTree, first_bridge_from}, Search.IsSide}, proofs.{EndpointAccess.set_cases, Reached.{Passed, passed_next}}}
use Rattle.lists.proofs.Indices.{at_below, map_at, map_set, set_same, same_at}

-- ---- another function at one place

abbrev StaysLeaf : Function → Function → Type 0
StaysLeaf f g = is_bridge (decl_of f) ≡ false → is_bridge (decl_of g) ≡ false

module _ (nodes : List Node) (i : ℕ) (n : Node) (e : slice_get nodes i ≡ Some n) (m : Node) (ends : m.end ≡ n.end) (leaf : is_bridge (decl_of n.function) ≡ false → is_bridge (decl_of m.function) ≡ false) where
  pub skipped_set : (k b : ℕ) → AreSkipped nodes k b → AreSkipped (slice_set nodes i m) k b
  skipped_set k b s = record { ahead = s.ahead; leaves = λ j x l h g. grind (arith, set_cases nodes i j m x g, s.leaves j x l h, s.leaves j n l h) }

pub tree_set : (nodes : List Node) (i : ℕ) (n : Node) (f : Function) → slice_get nodes i ≡ Some n → StaysLeaf n.function f → IsTree nodes → IsLaidOut (slice_set nodes i (record n { function = f })) → IsTree (slice_set nodes i (record n { function = f }))
tree_set nodes i n f e leaf tree laid = record {
  laid = laid;
  skips = λ k x g. elim (set_cases nodes i k (record n { function = f }) x g) [
    | inl p ↦ rw (p.0, p.1) (skipped_set nodes i n e (record n { function = f }) refl leaf i n.bridge (tree.skips i n e))
    | inr q ↦ skipped_set nodes i n e (record n { function = f }) refl leaf k x.bridge (tree.skips k x q.1)
  ];
}

pub same_kind : (f : Function) (file : File) → is_bridge (decl_of (with_cells f file)) ≡ is_bridge (decl_of f)
same_kind (Endpoint w) file = refl
same_kind (Bridge b) file = refl

-- with other cells
pub cells_leaf : (f g : Function) (file : File) → g ≡ with_cells f file → StaysLeaf f g
cells_leaf f g file is h = ap (λ (x : Function). is_bridge (decl_of x)) is ∙ same_kind f file ∙ h

-- ---- the search

pub covers_none : (n : ℕ) (m : Node) → is_bridge (decl_of m.function) ≡ false → covers n (function_of m) ≡ false
covers_none n m h = ap (λ t. (t && nat_le (secondary_register (function_of m).file) n) && nat_le n (subordinate_register (function_of m).file)) h

module _ (nodes : List Node) (laid : IsLaidOut nodes) (bus : Path) (n from to : ℕ) (side : IsSide nodes bus from to) where
  passed_run : (k i : ℕ) → Passed nodes laid bus n from to side i → ((j : ℕ) (m : Node) → i ≤ j → j < i + k → slice_get nodes j ≡ Some m → (m.end ≡ j + 1) × (is_bridge (decl_of m.function) ≡ false))
      → from ≤ i → i + k ≤ to → Passed nodes laid bus n from to side (i + k)
  passed_run zero i p leaves l h = let same : i ≡ i + 0 = omega arith in subst (Passed nodes laid bus n from to side) same p
  passed_run (suc k) i p leaves l h =
      let within = side.within in
      let m = at_below nodes i (omega (arith, h, within)) in
      let leaf = leaves i m.0 (omega arith) (omega arith) m.1 in
      let next = passed_next nodes laid bus n from to side i m.0 p m.1 l (omega (arith, h)) (covers_none n m.0 leaf.1) in
      let same : i + 1 + k ≡ i + suc k = omega arith in
      subst (Passed nodes laid bus n from to side) same
      (passed_run k (i + 1) (subst (Passed nodes laid bus n from to side) leaf.0 next) (λ j x a b g. leaves j x (omega (arith, a)) (omega (arith, b)) g) (omega (arith, l)) (omega (arith, h)))

-- what is passed by takes no cycle
pub passed_at : (nodes : List Node) (laid : IsLaidOut nodes) (bus : Path) (n from to : ℕ) (side : IsSide nodes bus from to) (i b : ℕ) → Passed nodes laid bus n from to side i → AreSkipped nodes i b → from ≤ i
    → b < to → Passed nodes laid bus n from to side b
passed_at nodes laid bus n from to side i b p s l h = search (rules, passed_run)

pub passed_whole : (nodes : List Node) (laid : IsLaidOut nodes) (bus : Path) (n from to : ℕ) (side : IsSide nodes bus from to) (i b : ℕ) → Passed nodes laid bus n from to side i → AreSkipped nodes i b → from ≤ i
    → i < to → to ≤ b → Passed nodes laid bus n from to side to
passed_whole nodes laid bus n from to side i b p s l h g = search (rules, passed_run)

-- ---- where the next bridges stand

-- from index i on the nodes say where the next bridge stands
pub record Linked (nodes initial : List Node) (i next : ℕ) : Type 0 where
  pub paths : paths_of nodes ≡ paths_of initial
  pub ends : ends_of nodes ≡ ends_of initial
  pub functions : functions_of nodes ≡ functions_of initial
  pub run : AreSkipped nodes i next
  pub skips : (k : ℕ) (m : Node) → i ≤ k → slice_get nodes k ≡ Some m → AreSkipped nodes k m.bridge

pub linked_none : (nodes : List Node) → Linked nodes nodes (length nodes) (length nodes)
linked_none nodes = search (rules, slice_get_within)

run_here : (nodes : List Node) (i next : ℕ) (n : Node) → slice_get nodes i ≡ Some n → AreSkipped nodes (i + 1) next → AreSkipped nodes i (first_bridge_from n i next)
run_here nodes i next n e s = let a = s.ahead in record { ahead = grind arith; leaves = λ j m l k g. grind (arith, nat_tests, same_at nodes j m n, s.leaves j m) }

pub linked_more : (nodes initial : List Node) (i next : ℕ) (n : Node) (at : ℕ) → Linked nodes initial (i + 1) next → slice_get nodes i ≡ Some n → at ≡ first_bridge_from n i next → Linked (slice_set nodes i (record n { bridge = at })) initial i at
linked_more nodes initial i next n at d e is = record {
  paths = search (rules, map_set, set_same, map_at, d.paths);
  ends = search (rules, map_set, set_same, map_at, d.ends);
  functions = search (rules, map_set, set_same, map_at, d.functions);
  run = here;
  skips = λ k m l g. elim (set_cases nodes i k new m g) [
    | inl p ↦ rw (p.0, p.1) here
    | inr q ↦ skipped_set nodes i n e new refl (λ h. h) k m.bridge (d.skips k m (let other = q.0 in omega (arith, l, other)) q.1)
  ];
}
  where
    new : Node
    new = record n { bridge = at }

    here : AreSkipped (slice_set nodes i new) i at
    here = skipped_set nodes i n e new refl (λ h. h) i at (rw is (run_here nodes i next n e d.run))

pub all_linked : (nodes initial : List Node) (next : ℕ) → Linked nodes initial 0 next → IsLaidOut initial → IsTree nodes
all_linked nodes initial next d laid = record {
  laid = rw (d.paths, d.ends) laid;
  skips = λ k m e. d.skips k m (omega arith) e;
}
