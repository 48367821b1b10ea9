-- What set-up leaves has no problem.
use Rattle.std.{proofs.Common.{◌≡◌, ◌+◌, ◌-◌, ◌<◌, List, [], ◌∷◌, ◌++◌, refl, sym, ap, subst, arith}, specs.Prelude.{map, flat_map, IsTrue}}
use Rattle.lists.{proofs.{Members.{pairs_of_map, each_in, each_from, in_flat_map, from_flat_map, from_map, from_filter, pairs_weaker, pairs_flat_map, pairs_of_part}, EachLemmas.pairs_filter}, specs.Elements.{Each, EachPair, IsIn}}
use Rattle.model_registers.specs.{Decoding.opens_space, Apertures.Apertures}
use Rattle.model_board.{specs.{Board.{Board, Row, Decl}, Paths.{Path, path_before}, State.BoardFunction, Routing.{RoutingRow, row_of, routing}}, proofs.{PathOrder.path_same, Routing.forwarded_by_routing}}
use Rattle.model_set_up.{specs.{Layout.{IsLawful, layout}, PlacementLaws.HasRows, SetUp.set_up_state, PlacedRegions.{PlacedRegion, placed_at, placed_regions}, UniqueClaimant.{CanBePlaced, HasUniqueClaims}, WindowLaws.HasPlacedWindows}, proofs.{Holders.{Holds, holds_is}, LawfulPlacement.layout_is_lawful, DeclaredRows.one_row_per_region_or_window, BoardWindows.set_up_windows, SetUpNumbers.set_up_has_numbers, UniqueClaimant.{set_up_gives_unique_claimants, left}}}
use Rattle.model_findings.{specs.{OpenRegions.{open_of, open_regions, regions_of}, Agents.{Agent, agents_of, agents}, Orderly.{IsForwarded, AreAlone, IsOrderly}, SetUpPasses.{SetUpPasses, RoutedAsSetUp}}, proofs.{Answering.region_answers, Found.numbers_of_board, Witnesses.problems_are_real_and_complete, Placing.regions_placed, Holding.{one_holds, agent_held}}}

module _ (b : Board) (a : Apertures) (can : CanBePlaced b a) (lawful : IsLawful b a (layout b a)) (has : HasRows b a) (windows : Each (λ r. HasPlacedWindows b a r.path r.decl) b) (unique : HasUniqueClaims b a (set_up_state b a).functions) where
  abbrev fs : List BoardFunction
  fs = (set_up_state b a).functions

  -- an open region is a placed one
  open_is_placed : (p : Path) (d : Decl) (q : PlacedRegion) → IsIn (record { path = p; decl = d }) b → IsIn q (open_of (row_of (left b a (record { path = p; decl = d })))) → IsIn q (placed_at b a (record { path = p; decl = d }))
  open_is_placed p d q m k = subst (IsIn q) (regions_placed b a can lawful has p d m) (from_filter (λ r. opens_space (row_of (left b a (record { path = p; decl = d }))).command r.space) q (regions_of (row_of (left b a (record { path = p; decl = d })))) k).0

  open_placed : (q : PlacedRegion) → IsIn q (open_regions (routing fs)) → IsIn q (placed_regions b a)
  open_placed q m = of_row (from_flat_map open_of q (routing fs) m)
    where
      of_board : (s : Row) → IsIn s b → IsIn q (open_of (row_of (left b a s))) → IsIn q (placed_regions b a)
      of_board s k l = in_flat_map (placed_at b a) s q b k (open_is_placed s.path s.decl q k l)

      of_function : (f : BoardFunction) → IsIn q (open_of (row_of f)) → (s : Row) × IsIn s b × (f ≡ left b a s) → IsIn q (placed_regions b a)
      of_function f l (s, k, e) = of_board s k (subst (λ (g : BoardFunction). IsIn q (open_of (row_of g))) e l)

      of_row : (r : RoutingRow) × IsIn r (routing fs) × IsIn q (open_of r) → IsIn q (placed_regions b a)
      of_row (r, k, l) = of (from_map row_of r fs k)
        where
          of : (f : BoardFunction) × IsIn f fs × (r ≡ row_of f) → IsIn q (placed_regions b a)
          of (f, i, e) = of_function f (subst (λ (x : RoutingRow). IsIn q (open_of x)) e l) (from_map (left b a) f b i)

  forwarded : (q : PlacedRegion) → IsIn q (open_regions (routing fs)) → IsForwarded (routing fs) q
  forwarded q m n h =
      let held : Holds q.space n q = holds_is q.space n q h in
      let k : n - q.first < q.size = omega (arith, held.from, held.below) in
      let same : q.first + (n - q.first) ≡ n = omega (arith, held.from) in
      grind (arith, each_in, open_placed, forwarded_by_routing fs q.path q.space n)

  -- ---- agents

  one_function : (p : Path) (d : Decl) → IsIn (record { path = p; decl = d }) b → EachPair AreAlone (agents_of (row_of (left b a (record { path = p; decl = d }))))
  one_function p d m = grind (arith, pairs_of_part, pairs_filter, regions_placed, pairs_of_map, pairs_weaker, holds_is, region_answers)

  two_functions : (r s : Row) → IsIn r b → IsIn s b → IsTrue (path_before r.path s.path) → (x y : Agent) → IsIn x (agents_of (row_of (left b a r))) → IsIn y (agents_of (row_of (left b a s))) → AreAlone x y
  two_functions r s m k before x y i j bus space n h =
      grind (arith, agent_held b a can lawful has windows r.path r.decl x space n m i h, agent_held b a can lawful has windows s.path s.decl y space n k j, path_same, one_holds b a can.apertures lawful r.path s.path space n before)

  alone : EachPair AreAlone (agents (routing fs))
  alone =
      subst (λ (xs : List Agent). EachPair AreAlone xs) (sym (flat b))
      (pairs_flat_map (λ (r s : Row). IsTrue (path_before r.path s.path)) AreAlone (λ r. agents_of (row_of (left b a r))) b can.places.in_order
      (λ r m. one_function r.path r.decl m) two_functions)
    where
      flat : (rs : List Row) → flat_map agents_of (map row_of (map (left b a) rs)) ≡ flat_map (λ r. agents_of (row_of (left b a r))) rs
      flat [] = refl
      flat (r ∷ rs) = ap (λ (xs : List Agent). agents_of (row_of (left b a r)) ++ xs) (flat rs)

  orderly : IsOrderly (routing fs)
  orderly = record { forwarded = each_from (IsForwarded (routing fs)) (open_regions (routing fs)) forwarded; alone = alone }

pub set_up_orderly : (b : Board) (a : Apertures) → CanBePlaced b a → IsOrderly (routing (set_up_state b a).functions)
set_up_orderly b a can =
    orderly b a can (layout_is_lawful b a can.places can.declarations can.room) (one_row_per_region_or_window b a can.places can.declarations)
    (set_up_windows b a can.places can.declarations can.apertures can.io_paths can.room) (set_up_gives_unique_claimants b a can (set_up_state b a).functions refl)

pub routed_as_set_up : RoutedAsSetUp
routed_as_set_up b a can fs same numbers = grind (arith, problems_are_real_and_complete, set_up_orderly, numbers_of_board b can.places fs numbers)

pub set_up_passes_the_audit : SetUpPasses
set_up_passes_the_audit b a few can = routed_as_set_up b a can (set_up_state b a).functions refl (set_up_has_numbers b a few)
