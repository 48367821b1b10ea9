-- Set-up leaves the board's numbers in its bridges.
use Rattle.std.{proofs.Common.{◌≡◌, ℕ, ◌+◌, ◌*◌, ◌%◌, ◌≤◌, ◌<◌, inl, true, [], ◌∷◌, refl, ap, arith}, specs.Prelude.{map, count_by, IsTrue}}
use Rattle.lists.{specs.Elements.{Each, IsIn}, proofs.{Members.any_in, Tests.and_true}}
use Rattle.model_registers.specs.{Registers.File, Apertures.Apertures}
use Rattle.model_board.{specs.{Paths.{Path, path_before, is_ancestor_of}, Board.{Decl, Row, Board, is_bridge, is_bridge_at}, BusNumbers.{secondary, subordinate, Enumerates}, Cycles.{secondary_register, subordinate_register}, State.{row_at, BoardFunction}}, proofs.{BusNumbers.{bridges, at, count_three, counted}, PathEnds.path_self, PathOrder.exclusive}}
use Rattle.model_set_up.specs.{Reach.SetUpHasNumbers, SetUp.set_up_file}

-- the numbers of a bridge are bytes
pub record IsSmall (b : Board) (p : Path) : Type 0 where
  pub first : secondary b p < 256
  pub last : subordinate b p < 256

-- so they are on a board that enumerates
pub numbers_small : (b : Board) → Enumerates b → (p : Path) → is_bridge_at b p ≡ true → IsSmall b p
numbers_small b few p h =
    let parts : bridges (λ x. path_before x p) b + bridges (at p) b + bridges (λ x. is_ancestor_of p x) b ≤ bridges (λ x. true) b =
    count_three (λ x. path_before x p) (at p) (λ x. is_ancestor_of p x) (λ x. true) (λ x. exclusive x p) b in
    let whole : bridges (λ x. true) b ≡ count_by (λ r. is_bridge r.decl) b = λ i. count_by (λ r. and_true (is_bridge r.decl) i) b in
    grind (arith, bridges, at, counted)

abbrev pub HoldsNumbers : Board → Path → File → Type 0
HoldsNumbers b p file = (secondary_register file ≡ secondary b p) × (subordinate_register file ≡ subordinate b p)

pub byte : (k : ℕ) → k < 256 → k % 256 + 256 * 0 ≡ k
byte k l = omega arith

module _ (b : Board) (a : Apertures) (few : Enumerates b) where
  abbrev left : Row → BoardFunction
  left r = record { path = r.path; decl = r.decl; file = set_up_file b a r.path r.decl }

  pub left_numbers : (p : Path) (d : Decl) → is_bridge_at b p ≡ true → is_bridge d ≡ true → HoldsNumbers b p (set_up_file b a p d)
  left_numbers p d h k = grind (arith, numbers_small, byte)

  rows_stay : (rs : Board) → map row_at (map left rs) ≡ rs
  rows_stay [] = refl
  rows_stay (r ∷ rs) = ap (λ (ss : Board). r ∷ ss) (rows_stay rs)

  numbers_of : (rs : Board) → ((r : Row) → IsIn r rs → IsIn r b) → Each (λ (f : BoardFunction). IsTrue (is_bridge f.decl) → HoldsNumbers b f.path f.file) (map left rs)
  numbers_of [] inside = tt
  numbers_of (r ∷ rs) inside = grind (arith, left_numbers r.path r.decl, numbers_of rs, any_in, inside r (inl refl), path_self r.path)

pub set_up_has_numbers : SetUpHasNumbers
set_up_has_numbers b a few = record { rows = rows_stay b a few b; numbers = numbers_of b a few b (λ r m. m) }
