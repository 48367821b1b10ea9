-- A function that has a number and isn't found by it is what an audit says isn't found.
use Rattle.std.{proofs.{Common.{◌≡◌, true, false, ◌&&◌, ◌==◌, not, cond, List, [], ◌∷◌, Option, Some, None, refl, ap, ◌∙◌, subst, arith, eqb-true}, lemmas.Bool.{and_from, not-true, not_from_false, Decides.nat_tests}}, specs.Option.{option_map, option_map_or}}
use Rattle.lists.{specs.Elements.IsIn, proofs.{Members.{in_map, in_filter, from_filter, in_flat_map, from_flat_map}, Tests.{left_true, right_true}}}
use Rattle.model_board.{specs.{Paths.{Path, part_eq, path_eq}, State.BoardFunction, Cycles.{BusAddress, reached}}, proofs.PathOrder.{part_same, part_self, path_same}}
use Rattle.model_findings.{specs.Found.current_bdf, proofs.Found.lost_function}
use Rattle.model_lines.specs.Ways.{address_eq, has_number, is_found, not_found, why_number}
use Rattle.model_findings.specs.Problems as audit

address_same : (a b : BusAddress) → address_eq a b ≡ true → a ≡ b
address_same a b h = grind (arith, eqb-true, nat_tests, part_same, left_true, right_true)

address_self : (a b : BusAddress) → a ≡ b → address_eq a b ≡ true
address_self a b e = subst (λ (x : BusAddress). address_eq a x ≡ true) e (and_from (a.bus == a.bus) (part_eq a.part a.part) (let same : (a.bus == a.bus) ≡ true = grind (arith, nat_tests) in same) (part_self a.part))

-- a function, its number, and what is reached by it
told_of : BoardFunction → BusAddress → Option Path → List audit.Problem
told_of f at o = cond (option_map_or (λ (q : Path). path_eq q f.path) o false) [] (audit.not_found f.path at o ∷ [])

path_of : Option BoardFunction → Option Path
path_of o = option_map (λ (g : BoardFunction). g.path) o

found_there : (o : Option BoardFunction) (f : BoardFunction) → option_map_or (λ (q : Path). path_eq q f.path) (option_map (λ (g : BoardFunction). g.path) o) false ≡ is_found o f
found_there o f = grind arith

module _ (fs : List BoardFunction) (at : BusAddress) where
  pub unfound : (f : BoardFunction) → IsIn f (not_found fs at (reached fs at)) → IsIn (audit.not_found f.path at (why_number fs at).reached) (audit.numbering_problems fs)
  unfolding told_of path_of
  unfound f m =
      let g = from_filter (λ (x : BoardFunction). has_number fs at x && not (is_found (reached fs at) x)) f fs m in
      let number : current_bdf fs f.path ≡ at = address_same (current_bdf fs f.path) at (left_true (has_number fs at f) (not (is_found (reached fs at) f)) g.1) in
      let lost : is_found (reached fs at) f ≡ false = not-true (is_found (reached fs at) f) (right_true (has_number fs at f) (not (is_found (reached fs at) f)) g.1) in
      let p = audit.not_found f.path at (path_of (reached fs at)) in
      grind (arith, in_flat_map (audit.numbering_problem fs) f p fs g.0, told_of f, path_of, found_there (reached fs at) f)

  pub all_unfound : (p : Path) (instead : Option Path) → IsIn (audit.not_found p at instead) (audit.numbering_problems fs) → IsIn p (why_number fs at).not_found
  all_unfound p instead m = of (from_flat_map (audit.numbering_problem fs) (audit.not_found p at instead) fs m)
    where
      not_there : (f : BoardFunction) (o : Option BoardFunction) → (option_map (λ (g : BoardFunction). g.path) o ≡ Some f.path → ⊥) → is_found o f ≡ false
      not_there f None h = refl
      not_there f (Some g) h = grind (arith, path_same g.path f.path)

      of : (f : BoardFunction) × IsIn f fs × IsIn (audit.not_found p at instead) (audit.numbering_problem fs f) → IsIn p (why_number fs at).not_found
      of (f, k, l) =
          let is = lost_function fs f k (audit.not_found p at instead) l in
          let path : f.path ≡ p = cc in
          let number : current_bdf fs f.path ≡ at = cc in
          let other = is.1.other in
          let lost : is_found (reached fs at) f ≡ false = not_there f (reached fs at) (λ e. other (ap (λ (a : BusAddress). option_map (λ (g : BoardFunction). g.path) (reached fs a)) number ∙ e)) in
          grind (arith, in_map, in_filter, and_from, address_self, not_from_false)
