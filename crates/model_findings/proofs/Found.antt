-- Where no function is told as not found, a state is numbered: each function is reached by its address alone. A board
-- that holds its own numbers is numbered.
use Rattle.std.{proofs.{Common.{◌≡◌, ℕ, ◌⊎◌, inl, inr, Bool, true, false, ◌&&◌, List, [], ◌∷◌, ◌++◌, Option, Some, None, refl, sym, ap, ◌∙◌, subst, arith, append_assoc}, lemmas.Bool.{eqb-true, and_from}}, specs.{Prelude.{find, IsTrue}, Option.{option_map, option_map_or}}}
use Rattle.lists.{proofs.{Tests.{left_true, right_true}, Members.{each_in, each_from, in_map, from_map, any_in, pair_in, none_each, each_none}, FirstFound.{found, found_in}, EachLemmas.{each_map, pairs_from_map}}, specs.Elements.IsIn}
use Rattle.model_board.{specs.{Paths.{Part, Path, path_eq, parent, last_part}, Board.{Board, Row, is_bridge, IsBoard}, BusNumbers.{secondary, bus_behind}, State.{BoardFunction, row_at}, Cycles.{secondary_register, is_route, ends_in, reached_type0, reached_type1, BusAddress, reached}}, proofs.{PathEnds.{path_self, not_before_itself, snoc_some}, PathOrder.path_same}}
use Rattle.model_set_up.{specs.Reach.{HasNumbers, address_of}, proofs.{Partings.{BridgeAt, bridge_at}, Routes.{bdf_reaches_its_function_only, ends_is_last, last_flag}}}
use Rattle.model_findings.specs.{Orderly.IsStateOfBoard, Found.{is_bridge_at, current_bus_number, current_bdf, path_reached, FoundOnce, NumbersOfBoard}, Problems.{Problem, not_found, numbering_problem}, Witnesses.{IsNotFound, NumberingDecides}}
use Rattle.model_board.specs.Board as board

-- ---- what is told of one function

module _ (fs : List BoardFunction) (f : BoardFunction) where
  abbrev is_there : Option Path → Bool
  is_there o = option_map_or (λ q. path_eq q f.path) o false

  there_is : (o : Option Path) → is_there o ≡ true → o ≡ Some f.path
  there_is None h = cc
  there_is (Some q) h = ap Some (path_same q f.path h)

  none_if_reached : path_reached fs f.path ≡ Some f.path → numbering_problem fs f ≡ []
  none_if_reached h = grind (arith, path_self)

  -- what a problem of the third kind says
  pub lost_function : IsIn f fs → (p : Problem) → IsIn p (numbering_problem fs f) → (p ≡ not_found f.path (current_bdf fs f.path) (path_reached fs f.path)) × IsNotFound fs f.path (current_bdf fs f.path) (path_reached fs f.path)
  lost_function there p m = grind (arith, path_self)

-- ---- all functions

pub numbering_decides : NumberingDecides
numbering_decides fs = grind (arith, each_map, there_is, none_each, each_none, none_if_reached)

-- ---- the one address of a function

module _ (fs : List BoardFunction) (state : IsStateOfBoard fs) where
  -- one function stands at a path
  one_function : (f g : BoardFunction) → IsIn f fs → IsIn g fs → f.path ≡ g.path → f ≡ g
  one_function f g m k e = grind (arith, pair_in, pairs_from_map, not_before_itself)

  -- so a search for the bridge at its path finds it
  pub is_found_at : (f : BoardFunction) → IsIn f fs → is_bridge f.decl ≡ true → find (is_bridge_at f.path) fs ≡ Some f
  is_found_at f m is = of (found (is_bridge_at f.path) fs (any_in (is_bridge_at f.path) f fs m (and_from (is_bridge f.decl) (path_eq f.path f.path) is (path_self f.path))))
    where
      of : (g : BoardFunction) × (find (is_bridge_at f.path) fs ≡ Some g) × IsIn g fs × (is_bridge_at f.path g ≡ true) → find (is_bridge_at f.path) fs ≡ Some f
      of (g, e, k, at) = e ∙ ap Some (one_function g f k m (path_same g.path f.path (right_true (is_bridge g.decl) (path_eq g.path f.path) at)))

  number_of : (f : BoardFunction) → IsIn f fs → is_bridge f.decl ≡ true → (bus : Path) (p : Part) → f.path ≡ bus ++ p ∷ [] → current_bus_number fs (bus ++ p ∷ []) ≡ secondary_register f.file
  number_of f m is bus p e = grind (arith, snoc_some bus p, is_found_at)

  module _ (n : ℕ) where
    -- a way that leads to bus n ends behind the bridge whose number is n
    way_ends : (above p : Path) → is_route fs n above p ≡ true → current_bus_number fs (above ++ parent p) ≡ n
    way_ends above [] h = cc
    way_ends above (p ∷ []) h = cc
    way_ends above (p ∷ q ∷ []) h = grind (arith, found_in, path_same, left_true, right_true, number_of, eqb-true, last_flag)
    way_ends above (p ∷ q ∷ r ∷ ps) h = grind (arith, append_assoc, right_true, way_ends (above ++ p ∷ []) (q ∷ r ∷ ps))

  by_type0 : (t : Part) (f : BoardFunction) → reached_type0 fs t ≡ Some f → (current_bus_number fs (parent f.path) ≡ 0) × (last_part f.path ≡ t)
  by_type0 t f e =
      let at : f.path ≡ t ∷ [] = path_same f.path (t ∷ []) (found_in (λ g. path_eq g.path (t ∷ [])) fs f e).1 in
      (ap (λ (p : Path). current_bus_number fs (parent p)) at, ap last_part at)

  by_type1 : (n : ℕ) (t : Part) (f : BoardFunction) → reached_type1 fs n t ≡ Some f → (current_bus_number fs (parent f.path) ≡ n) × (last_part f.path ≡ t)
  by_type1 n t f e =
      let got = (found_in (λ g. ends_in g.path t && is_route fs n [] g.path) fs f e).1 in (
        way_ends n [] f.path (right_true (ends_in f.path t) (is_route fs n [] f.path) got),
        ends_is_last f.path t (left_true (ends_in f.path t) (is_route fs n [] f.path) got),
      )

  pub reached_in : (at : BusAddress) (f : BoardFunction) → reached fs at ≡ Some f → IsIn f fs
  reached_in at f e = grind (arith, found_in)

  pub itself : (f : BoardFunction) → IsIn f fs → path_reached fs f.path ≡ Some f.path → reached fs (current_bdf fs f.path) ≡ Some f
  itself f m e = by (reached fs (current_bdf fs f.path)) refl e
    where
      by : (o : Option BoardFunction) → reached fs (current_bdf fs f.path) ≡ o → option_map (λ (x : BoardFunction). x.path) o ≡ Some f.path → o ≡ Some f
      by None k h = cc
      by (Some g) k h = grind (arith, one_function g f (reached_in (current_bdf fs f.path) g k) m)

pub found_once : FoundOnce
found_once fs state numbered = grind (arith, each_from, itself, each_in, by_type0, by_type1)

-- ---- a board with its own numbers

module _ (b : Board) (lawful : IsBoard b) (fs : List BoardFunction) (has : HasNumbers b fs) where
  there : (f : BoardFunction) → IsIn f fs → IsIn (row_at f) b
  there f m = subst (IsIn (row_at f)) has.rows (in_map row_at f fs m)

  from_row : (r : Row) → IsIn r b → (f : BoardFunction) × IsIn f fs × (r ≡ row_at f)
  from_row r m = from_map row_at r fs (subst (IsIn r) (sym has.rows) m)

  -- the number behind a bridge is the board's
  behind : (bus : Path) → (bus ≡ []) ⊎ IsTrue (board.is_bridge_at b bus) → current_bus_number fs bus ≡ bus_behind b bus
  behind [] h = refl
  behind (p ∷ ps) (inl e) = cc
  behind (p ∷ ps) (inr h) = by_row d.0 d.1 d.2 d.3
    where
      d : BridgeAt b lawful (p ∷ ps)
      d = bridge_at b lawful (p ∷ ps) h

      by_found : (f : BoardFunction) × (find (is_bridge_at (p ∷ ps)) fs ≡ Some f) × IsIn f fs × (is_bridge_at (p ∷ ps) f ≡ true) → current_bus_number fs (p ∷ ps) ≡ secondary b (p ∷ ps)
      by_found (f, e, k, at) = grind (arith, path_same f.path (p ∷ ps) (right_true (is_bridge f.decl) (path_eq f.path (p ∷ ps)) at), each_in)

      by_row : (r : Row) → IsIn r b → is_bridge r.decl ≡ true → r.path ≡ p ∷ ps → current_bus_number fs (p ∷ ps) ≡ secondary b (p ∷ ps)
      by_row r m is path = grind (arith, from_row r m, by_found, found (is_bridge_at (p ∷ ps)) fs, any_in (is_bridge_at (p ∷ ps)), path_self (p ∷ ps))

  named : (f : BoardFunction) → IsIn f fs → current_bdf fs f.path ≡ address_of b f.path
  named f m = grind (arith, behind, each_in, there)

  is_reached : (f : BoardFunction) → IsIn f fs → path_reached fs f.path ≡ Some f.path
  is_reached f m = grind (arith, any_in, there, path_self, bdf_reaches_its_function_only b lawful fs has f.path, named)

pub numbers_of_board : NumbersOfBoard
numbers_of_board b lawful fs has = grind (arith, each_from, is_reached, named)
