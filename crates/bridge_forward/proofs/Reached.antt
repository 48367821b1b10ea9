-- What a search along the buses says of the function that a cycle reaches.
use Rattle.std.{proofs.Common.{◌≡◌, ℕ, true, false, ◌&&◌, Option, Some, None, List, ap, sym, ◌∙◌, eqb, rules, ◌<◌, ◌≤◌, Bool, refl, arith, ◌⊎◌, subst}, specs.{Prelude.{IfSome, IfNone, find}, List.slice_get}}
use Rattle.lists.proofs.{Tests.{left_true, right_true}, Indices.{same_at, found_at, at_map, find_at, find_none}}
use Rattle.model_board.{specs.{Paths.{Path, Part, path_eq, parent}, Board.is_bridge, State.BoardFunction, Cycles.{secondary_register, covers, taker, reached_type1}}, proofs.{PathOrder.path_same, PathEnds.path_self}}
use Rattle.bridge_forward.{specs.{declared.bus.Node.Node, Layout.{function_of, functions_of, IsLaidOut}, Search.{is_named, IsAt, IsSide}, Leading.{LeadsTo, LeadsNowhere}}, proofs.{Reaching.{Passing, find_same, passing_next, routed, stuck}, Nodes.{path_of, parent_leads, in_side, Ended, met_on_bus, ended_next, passed_by}}}

abbrev part_of : ℕ → ℕ → Part
part_of device function = record { device = device; function = function }

module _ (nodes : List Node) (laid : IsLaidOut nodes) (n : ℕ) (above : Path) (passing : Passing nodes laid n above) where
  pub no_taker : {A : Type 0} (r : Option A) → taker (functions_of nodes) above n ≡ None → IfNone r (LeadsNowhere nodes n)
  no_taker None e = λ t. stuck nodes laid n above t passing e
  no_taker (Some x) e = tt

  -- the node at which the bridge was found that takes the cycle
  module _ (i : ℕ) (m : Node) (at : IsAt nodes i (taker (functions_of nodes) above n)) (e : slice_get nodes i ≡ Some m) where
    same_node : at.node ≡ m
    same_node = same_at nodes i at.node m at.there e

    taken : taker (functions_of nodes) above n ≡ Some (function_of m)
    taken = at.found ∙ ap (λ (z : Node). Some (function_of z)) same_node

    is_taker : is_bridge (function_of m).decl ≡ true
    is_taker = search (rules, found_at, taken, right_true, left_true)

    -- whether it leads to the bus is told by its Secondary
    pub leads_elsewhere : (is_bridge (function_of m).decl && eqb (secondary_register (function_of m).file) n) ≡ false → eqb (secondary_register (function_of m).file) n ≡ false
    leads_elsewhere h = rw is_taker at h

    pub next : eqb (secondary_register (function_of m).file) n ≡ false → Passing nodes laid n m.path
    next d = passing_next nodes laid n above (function_of m) taken passing d

    pub leads_here : eqb (secondary_register (function_of m).file) n ≡ true → LeadsTo nodes n i
    leads_here leads = record {
      bridge = m;
      there = e;
      routes = λ p t. routed nodes laid n above (function_of m) taken passing leads p t;
    }

-- what a cycle reaches by the bridge that leads to its bus is the function with the numbers behind it
module _ (nodes : List Node) (device function n i : ℕ) (m : Node) (led : LeadsTo nodes n i) (e : slice_get nodes i ≡ Some m) where
  behind : reached_type1 (functions_of nodes) n (part_of device function) ≡ find (is_named m.path device function) (functions_of nodes)
  behind = search (rules, find_same, same_at)

  pub type1_found : (r : Option ℕ) → IfSome r (λ j. IsAt nodes j (find (is_named m.path device function) (functions_of nodes))) → IfSome r (λ j. IsAt nodes j (reached_type1 (functions_of nodes) n (part_of device function)))
  type1_found r h = simp behind h

  pub type1_missed : (r : Option ℕ) → IfNone r (find (is_named m.path device function) (functions_of nodes) ≡ None) → IfNone r (reached_type1 (functions_of nodes) n (part_of device function) ≡ None)
  type1_missed r h = simp behind h

-- ---- the search for a bridge along one bus

-- a bridge of the bus that takes cycles for bus n
abbrev pub taking : Path → ℕ → BoardFunction → Bool
taking bus n f = path_eq (parent f.path) bus && covers n f

-- before index i nothing on the bus takes the cycle, and all that was met ends
pub record Passed (nodes : List Node) (laid : IsLaidOut nodes) (bus : Path) (number : ℕ) (from to : ℕ) (side : IsSide nodes bus from to) (i : ℕ) : Type 0 where
  pub ended : Ended nodes laid bus from to side i
  pub none : (j : ℕ) (m : Node) → j < i → slice_get nodes j ≡ Some m → taking bus number (function_of m) ≡ false

module _ (nodes : List Node) (laid : IsLaidOut nodes) (bus : Path) (number : ℕ) (from to : ℕ) (side : IsSide nodes bus from to) where
  -- what is outside the side stands on another bus
  outside : (j : ℕ) (m : Node) → slice_get nodes j ≡ Some m → (j < from) ⊎ (to ≤ j) → taking bus number (function_of m) ≡ false
  outside j m e o = grind (arith, path_same (parent m.path) bus, parent_leads m.path (path_of nodes laid j m e).some, in_side nodes laid bus from to side j m e)

  pub passed_none : Passed nodes laid bus number from to side from
  passed_none = search (rules, outside)

  pub passed_next : (i : ℕ) (n : Node) → Passed nodes laid bus number from to side i → slice_get nodes i ≡ Some n → from ≤ i → i < to → covers number (function_of n) ≡ false
      → Passed nodes laid bus number from to side n.end
  passed_next i n p e l h not = record {
    ended = ended_next nodes laid bus from to side i n p.ended e;
    none = λ j m g em. grind (arith, p.none j m, same_at nodes j m n, passed_by nodes laid bus from to side i j n m p.ended e em l h);
  }

  pub first_here : (i : ℕ) (n : Node) → Passed nodes laid bus number from to side i → slice_get nodes i ≡ Some n → from ≤ i → i < to → covers number (function_of n) ≡ true
      → IsAt nodes i (taker (functions_of nodes) bus number)
  first_here i n p e l h is =
      let on : path_eq (parent n.path) bus ≡ true = subst (λ q. path_eq (parent n.path) q ≡ true) (met_on_bus nodes laid bus from to side i n p.ended e l h) (path_self (parent n.path)) in
      record {
        node = n;
        there = e;
        found = find_at (taking bus number) (functions_of nodes) i (function_of n) (Rattle.lists.proofs.Indices.map_at function_of nodes i n e) (rw (on, is) refl)
            (λ j f g ef. let m = at_map function_of nodes j f ef in subst (λ z. taking bus number z ≡ false) (sym m.2) (p.none j m.0 g m.1));
      }

  pub none_on_bus : (i : ℕ) → Passed nodes laid bus number from to side i → to ≤ i → taker (functions_of nodes) bus number ≡ None
  none_on_bus i p l = search (rules, find_none, at_map, outside)
