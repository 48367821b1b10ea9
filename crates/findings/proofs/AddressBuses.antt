-- The bridge above a bus is what stands at its path, if that is a bridge.
use Rattle.std.{proofs.{Common.{◌≡◌, ℕ, Bool, true, false, List, [], ◌∷◌, Some, None, Option, refl, sym, ap, ◌∙◌, eqb, length, arith}, lemmas.Bool.and_parts}, specs.{Prelude.{find, slice_get, unwrap_or}, Option.option_map_or}}
use Rattle.lists.{specs.Elements.IsIn, proofs.{EachLemmas.pairs_from_map, FirstFound.found_in, Members.pair_in}}
use Rattle.model_board.{specs.{Paths.{Path, path_eq}, Board.{Decl, endpoint, bridge, is_bridge}, State.BoardFunction, Cycles.secondary_register}, proofs.{PathOrder.path_same, PathEnds.not_before_itself}}
use Rattle.model_findings.{specs.{Orderly.IsStateOfBoard, Found.{is_bridge_at, current_bus_number}}, proofs.Found.is_found_at}
use Rattle.bridge_forward.specs.RoutingRows.{secondary_of, secondary_bus_nth}

abbrev stands_at : Path → BoardFunction → Bool
stands_at p f = path_eq f.path p

-- the number that a search for the bridge gives
abbrev held : Option BoardFunction → ℕ
held o = option_map_or (λ (f : BoardFunction). secondary_register f.file) o 0

none_at : (p : Path) (fs : List BoardFunction) → find (stands_at p) fs ≡ None → find (is_bridge_at p) fs ≡ None
none_at p [] h = refl
none_at p (f ∷ fs) h = grind (arith, none_at p fs)

module _ (fs : List BoardFunction) (state : IsStateOfBoard fs) (p : Path) where
  abbrev there : Option BoardFunction
  there = find (stands_at p) fs

  one_function : (f g : BoardFunction) → IsIn f fs → IsIn g fs → f.path ≡ g.path → f ≡ g
  one_function f g m k e = grind (arith, pair_in, pairs_from_map, not_before_itself)

  no_bridge : (f : BoardFunction) → there ≡ Some f → is_bridge f.decl ≡ false → find (is_bridge_at p) fs ≡ None
  no_bridge f at other = by (find (is_bridge_at p) fs) refl
    where
      by : (o : Option BoardFunction) → find (is_bridge_at p) fs ≡ o → o ≡ None
      by None e = refl
      by (Some g) e =
          let m = found_in (is_bridge_at p) fs g e in
          let k = found_in (stands_at p) fs f at in
          let both = and_parts (is_bridge g.decl) (path_eq g.path p) m.1 in
          let same : g ≡ f = one_function g f m.0 k.0 (path_same g.path p both.1 ∙ sym (path_same f.path p k.1)) in
          let no : is_bridge g.decl ≡ false = ap (λ (x : BoardFunction). is_bridge x.decl) same ∙ other in
          let yes : is_bridge g.decl ≡ true = both.0 in
          cc

  its_number : (f : BoardFunction) → there ≡ Some f → unwrap_or (secondary_of f.decl f.file) 0 ≡ held (find (is_bridge_at p) fs)
  its_number f at = by f.decl refl
    where
      by : (d : Decl) → f.decl ≡ d → unwrap_or (secondary_of d f.file) 0 ≡ held (find (is_bridge_at p) fs)
      by (endpoint d) e = sym (ap held (no_bridge f at (ap is_bridge e)))
      by (bridge d) e =
          let k = found_in (stands_at p) fs f at in
          let is : f.path ≡ p = path_same f.path p k.1 in
          sym (ap held (ap (λ (q : Path). find (is_bridge_at q) fs) (sym is) ∙ is_found_at fs state f k.0 (ap is_bridge e)))

  some_bus : eqb (length p) 0 ≡ false → current_bus_number fs p ≡ held (find (is_bridge_at p) fs)
  some_bus some = grind arith

  pub number_by_index : eqb (length p) 0 ≡ false → (i : ℕ) → slice_get fs i ≡ there → unwrap_or (secondary_bus_nth fs i) 0 ≡ current_bus_number fs p
  number_by_index some i is = grind (arith, some_bus, none_at, its_number)

  pub number_of_none : eqb (length p) 0 ≡ false → None ≡ there → 0 ≡ current_bus_number fs p
  number_of_none some e = sym (some_bus some ∙ ap held (none_at p fs (sym e)))
