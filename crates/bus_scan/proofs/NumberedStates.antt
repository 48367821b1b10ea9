-- A numbered board: each function holds what its declaration says, and the bridges hold the board's numbers.
use Rattle.std.{proofs.{Common.{◌≡◌, ◌+◌, ◌<◌, ◌≤◌, inl, inr, Bool, true, ◌&&◌, List, [], ◌∷◌, map, Some, refl, sym, ap, ◌∙◌, subst, arith}, lemmas.List.Sums.sum_by-cons}, specs.Prelude.{count_by, IsTrue}}
use Rattle.lists.{specs.Elements.{Each, EachPair, IsIn}, proofs.{Members.{each_in, each_from}, FirstFound.each_found}}
use Rattle.model_board.{specs.{Paths.{Path, path_eq, path_before, is_ancestor_of}, Board.{Board, Row, Decl, is_bridge, is_bridge_at, IsBoard}, BusNumbers.{secondary, subordinate, bus_of}, State.{BoardFunction, State, row_at}, Cycles.{BusAddress, reached, secondary_register, subordinate_register}, AtReset.board_at}, proofs.{PathOrder.{one, exclusive, path_same}, PathEnds.not_before_itself, BusNumbers.{bridges, bridges-cons, at, count_three, counted}}}
use Rattle.model_set_up.{specs.{Reach.HasNumbers, Scanning.{BusNumbers, board_numbers, numbers_in, numbered_file, IsNumbered}}, proofs.{Routes.bridge_of, Scanning.{numbers_read, bus_not_more}}}

-- ---- numbers of a board fit

whole_one : (t : Bool) → one (t && true) ≡ one t
whole_one t = grind arith

all_bridges : (b : Board) → bridges (λ x. true) b ≡ count_by (λ r. is_bridge r.decl) b
all_bridges [] = refl
all_bridges (r ∷ b) = bridges-cons (λ x. true) r b ∙ (let here : one (is_bridge r.decl && true) ≡ one (is_bridge r.decl) = whole_one (is_bridge r.decl) in let more : bridges (λ x. true) b ≡ count_by (λ r. is_bridge r.decl) b = all_bridges b in let split : count_by (λ r. is_bridge r.decl) (r ∷ b) ≡ one (is_bridge r.decl) + count_by (λ r. is_bridge r.decl) b = sum_by-cons (λ (s : Row). one (is_bridge s.decl)) r b in omega arith)

numbers_fit : (b : Board) (p : Path) → count_by (λ r. is_bridge r.decl) b ≤ 255 → is_bridge_at b p ≡ true → (bus_of b p < 256) × (secondary b p < 256) × (subordinate b p < 256)
numbers_fit b p few h =
    let all : bridges (λ x. path_before x p) b + bridges (at p) b + bridges (λ x. is_ancestor_of p x) b ≤ bridges (λ x. true) b =
    count_three (λ x. path_before x p) (at p) (λ x. is_ancestor_of p x) (λ x. true) (λ x. exclusive x p) b in
    grind (arith, all_bridges b, counted b p h, bus_not_more b p)

-- ---- what the functions hold

module _ (s : State) (h : IsNumbered s) where
  abbrev pub board : Board
  board = board_at s.functions

  abbrev HoldsNumbered : BoardFunction → Type 0
  HoldsNumbered f = f.file ≡ numbered_file board (board_numbers board) f.path f.decl

  each_holds : (rs : List Row) → Each HoldsNumbered (map (λ (r : Row). record { path = r.path; decl = r.decl; file = numbered_file board (board_numbers board) r.path r.decl }) rs)
  each_holds [] = tt
  each_holds (r ∷ rs) = (refl, each_holds rs)

  pub holds : Each (λ f. f.file ≡ numbered_file (board_at s.functions) (board_numbers (board_at s.functions)) f.path f.decl) s.functions
  holds = subst (λ fs. Each HoldsNumbered fs) (sym (ap (λ (s : State). s.functions) h.registers)) (each_holds board)

  number_of : (f : BoardFunction) → IsIn f s.functions → (d : Decl) → f.decl ≡ d → is_bridge d ≡ true → numbers_in f.file ≡ board_numbers board f.path
  number_of f m d e k = grind (arith, bridge_of, each_in, holds, numbers_read, numbers_fit)

  pub has_numbers : HasNumbers (board_at s.functions) s.functions
  has_numbers = record {
    rows = refl;
    numbers = each_from (λ f. IsTrue (is_bridge f.decl) → (secondary_register f.file ≡ secondary board f.path) × (subordinate_register f.file ≡ subordinate board f.path)) s.functions
        (λ f m k. let n = number_of f m f.decl refl k in (ap (λ (n : BusNumbers). n.secondary) n, ap (λ (n : BusNumbers). n.subordinate) n));
  }

  pub no_latch : s.latch ≡ 0
  no_latch = ap (λ (s : State). s.latch) h.registers

-- ---- the function that a number reaches

-- what holds of each function holds of the one that is reached
pub each_reached : (P : BoardFunction → Type 0) (fs : List BoardFunction) (at : BusAddress) (f : BoardFunction) → Each P fs → reached fs at ≡ Some f → P f
each_reached P fs at f all e = grind (arith, each_found)

pub in_itself : (fs : List BoardFunction) → Each (λ f. IsIn f fs) fs
in_itself fs = each_from (λ f. IsIn f fs) fs (λ f m. m)

-- functions in path order: one alone stands at a path
pub each_unmapped : (P : Row → Type 0) (fs : List BoardFunction) → Each P (map row_at fs) → Each (λ f. P (row_at f)) fs
each_unmapped P [] h = tt
each_unmapped P (f ∷ fs) h = (h.0, each_unmapped P fs h.1)

pairs_unmapped : (R : Row → Row → Type 0) (fs : List BoardFunction) → EachPair R (map row_at fs) → EachPair (λ f g. R (row_at f) (row_at g)) fs
pairs_unmapped R [] h = tt
pairs_unmapped R (f ∷ fs) h = (each_unmapped (R (row_at f)) fs h.0, pairs_unmapped R fs h.1)

abbrev InOrder : BoardFunction → BoardFunction → Type 0
InOrder f g = IsTrue (path_before f.path g.path)

never_twice : (p q : Path) → path_before p q ≡ true → p ≡ q → ⊥
never_twice p q before e = not_before_itself p (ap (path_before p) e ∙ before)

only_one : (fs : List BoardFunction) → EachPair InOrder fs → (f : BoardFunction) → IsIn f fs → Each (λ g. path_eq g.path f.path ≡ true → g ≡ f) fs
only_one [] order f m = absurd m
only_one (x ∷ xs) order f (inl e) =
    (λ k. sym e, each_from (λ g. path_eq g.path f.path ≡ true → g ≡ f) xs (λ g m k. absurd (never_twice x.path g.path (each_in (InOrder x) g xs order.0 m) (sym (path_same g.path f.path k ∙ ap (λ (f : BoardFunction). f.path) e)))))
only_one (x ∷ xs) order f (inr m) = grind (arith, never_twice, each_in (InOrder x) f xs order.0 m, path_same, only_one xs)

pub only_there : (fs : List BoardFunction) → IsBoard (board_at fs) → (f : BoardFunction) → IsIn f fs → Each (λ g. path_eq g.path f.path ≡ true → g ≡ f) fs
only_there fs lawful f m = only_one fs (pairs_unmapped (λ r s. IsTrue (path_before r.path s.path)) fs lawful.in_order) f m
