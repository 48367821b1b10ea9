-- Each problem is real, as its witness shows, and a state without problems is consistent: PCI-to-PCI Bridge Architecture
-- 1.2, chapters 3 and 4.
--     ForwardsAll q r      the bridge forwards each byte of the region
--     IsNotForwarded, IsContended, IsNotFound      the meaning of a problem of each kind
--     IsReal, ProblemsAreReal      each reported problem is real
--     IsInOrder fs      an orderly state in which each function is found
--     RoutingDecides, NumberingDecides, ProblemsDecide      there are no problems if and only if this holds
use Rattle.std.specs.{Prelude.{List, [], ◌∷◌, ◌++◌, ◌≡◌, ℕ, ◌≤◌, Option, Some, IsTrue, IsFalse, ◌↔◌, ◌⊎◌}, Option.option_map}
use Rattle.lists.specs.Elements.{IsIn, Each}
use Rattle.model_board.specs.{Paths.{Path, is_ancestor_of}, State.BoardFunction, Cycles.{BusAddress, reached}, Routing.{RoutingRow, routing, row_forwards}}
use Rattle.model_set_up.specs.PlacedRegions.{PlacedRegion, holds}
use Rattle.model_findings.specs.{OpenRegions.open_regions, Agents.{Agent, agents, answers, on_one_bus}, Orderly.IsOrderly, Found.{current_bdf, IsNumbered}, Problems.{Problem, not_forwarded, contended, not_found, routing_problems, numbering_problems, problems}}

abbrev pub ForwardsAll : PlacedRegion → RoutingRow → Type 0
ForwardsAll q r = (n : ℕ) → IsTrue (holds q.space n q) → IsTrue (row_forwards q.space n r)

pub record IsNotForwarded (rows : List RoutingRow) (q : PlacedRegion) (bridge : Path) (n : ℕ) : Type 0 where
  pub region : IsIn q (open_regions rows)
  -- the bridge among the rows, and those before it
  pub row : RoutingRow
  pub before : List RoutingRow
  pub after : List RoutingRow
  pub rows_are : rows ≡ before ++ row ∷ after
  pub bridge_is : row.path ≡ bridge
  pub above : IsTrue (is_ancestor_of bridge q.path)
  pub first : Each (λ r. IsTrue (is_ancestor_of r.path q.path) → ForwardsAll q r) before
  pub byte : IsTrue (holds q.space n q)
  pub lost : IsFalse (row_forwards q.space n row)
  pub least : (m : ℕ) → IsTrue (holds q.space m q) → IsFalse (row_forwards q.space m row) → n ≤ m

-- two elements of a list, the first one before the second
abbrev pub IsBefore : {A : Type 0} → A → A → List A → Type 0
IsBefore x y [] = ⊥
IsBefore x y (z ∷ zs) = ((x ≡ z) × IsIn y zs) ⊎ IsBefore x y zs

pub record IsContended (rows : List RoutingRow) (a b : Agent) (n : ℕ) : Type 0 where
  pub two : IsBefore a b (agents rows)
  pub bus : IsTrue (on_one_bus a b)
  pub one_answers : IsTrue (answers a.space n a)
  pub other_answers : IsTrue (answers a.space n b)
  pub least : (m : ℕ) → IsTrue (answers a.space m a) → IsTrue (answers a.space m b) → n ≤ m

pub record IsNotFound (fs : List BoardFunction) (p : Path) (at : BusAddress) (instead : Option Path) : Type 0 where
  pub function : (f : BoardFunction) × IsIn f fs × (f.path ≡ p)
  pub address : at ≡ current_bdf fs p
  pub reached : instead ≡ option_map (λ (f : BoardFunction). f.path) (reached fs at)
  pub other : instead ≡ Some p → ⊥

abbrev pub IsReal : List BoardFunction → Problem → Type 0
IsReal fs (not_forwarded q p n) = IsNotForwarded (routing fs) q p n
IsReal fs (contended a b n) = IsContended (routing fs) a b n
IsReal fs (not_found p at instead) = IsNotFound fs p at instead

abbrev pub ProblemsAreReal : Type 0
ProblemsAreReal = (fs : List BoardFunction) → Each (IsReal fs) (problems fs)

pub record IsInOrder (fs : List BoardFunction) : Type 0 where
  pub routes : IsOrderly (routing fs)
  pub numbers : IsNumbered fs

abbrev pub RoutingDecides : Type 0
RoutingDecides = (rows : List RoutingRow) → (routing_problems rows ≡ []) ↔ IsOrderly rows

abbrev pub NumberingDecides : Type 0
NumberingDecides = (fs : List BoardFunction) → (numbering_problems fs ≡ []) ↔ IsNumbered fs

abbrev pub ProblemsDecide : Type 0
ProblemsDecide = (fs : List BoardFunction) → (problems fs ≡ []) ↔ IsInOrder fs
