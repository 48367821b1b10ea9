-- Where the paths of two functions of a board part.
use Rattle.std.proofs.{Common.{◌≡◌, ℕ, zero, suc, ◌+◌, ◌≤◌, ◌<◌, Bool, true, false, [], ◌∷◌, ◌++◌, length, refl, sym, ap, ap₂, ◌∙◌, arith, rules}, lemmas.Bool.and_from}
use Rattle.lists.{specs.Elements.IsIn, proofs.{Tests.{left_true, right_true}, Members.{each_in, from_any, pair_in}}}
use Rattle.model_board.{specs.{Board.{Board, Row, is_bridge, is_bridge_at, IsBoard}, Paths.{Part, Path, part_eq, is_ancestor_of, parent, last_part}}, proofs.{PathOrder.{part_same, path_same, part_self}, PathEnds.{snoc, length_snoc, leads_up, not_before_itself, leads_longer}}}

-- ---- two paths

-- equal, one above the other, or parting on a bus
pub data Meeting (p q : Path) : Type 0 where
  Same : p ≡ q → Meeting p q
  Above : is_ancestor_of p q ≡ true → Meeting p q
  Below : is_ancestor_of q p ≡ true → Meeting p q
  Parting : (bus : Path) (x y : Part) (ps qs : Path) → p ≡ bus ++ x ∷ ps → q ≡ bus ++ y ∷ qs → part_eq x y ≡ false → Meeting p q

pub meet : (p q : Path) → Meeting p q
meet [] y = grind arith
meet (x ∷ p) [] = Below refl
meet (x ∷ p) (y ∷ q) = step (part_eq x y) refl (meet p q)
  where
    step : (t : Bool) → part_eq x y ≡ t → Meeting p q → Meeting (x ∷ p) (y ∷ q)
    step false e m = Parting [] x y p q refl refl e
    step true e (Same h) = Same (ap₂ ◌∷◌ (part_same x y e) h)
    step true e (Above h) = Above (and_from (part_eq x y) (is_ancestor_of p q) e h)
    step true e (Below h) = Below (and_from (part_eq y x) (is_ancestor_of q p) (ap (λ z. part_eq z x) (sym (part_same x y e)) ∙ part_self x) h)
    step true e (Parting bus u v ps qs f g n) = Parting (x ∷ bus) u v ps qs (ap (λ (z : Path). x ∷ z) f) (ap₂ ◌∷◌ (sym (part_same x y e)) g) n

pub leads_down : (bus : Path) (x z : Part) (zs : Path) → is_ancestor_of (bus ++ x ∷ []) (bus ++ x ∷ z ∷ zs) ≡ true
leads_down [] x z zs = and_from (part_eq x x) true (part_self x) refl
leads_down (b ∷ bus) x z zs = and_from (part_eq b b) (is_ancestor_of (bus ++ x ∷ []) (bus ++ x ∷ z ∷ zs)) (part_self b) (leads_down bus x z zs)

-- ---- the functions of a board

module _ (b : Board) (lawful : IsBoard b) where
  -- one function stands at a path
  pub one_row : (r s : Row) → IsIn r b → IsIn s b → r.path ≡ s.path → r ≡ s
  one_row r s m k e = search (rules, pair_in, not_before_itself)

  -- the bridge at a path
  abbrev pub BridgeAt : Path → Type 0
  BridgeAt p = (r : Row) × IsIn r b × (is_bridge r.decl ≡ true) × (r.path ≡ p)

  pub bridge_at : (p : Path) → is_bridge_at b p ≡ true → BridgeAt p
  bridge_at p h = grind (arith, from_any, left_true, path_same, right_true)

  -- what leads to a function of the board is a bridge of the board; n bounds the length of its path
  above_within : (n : ℕ) (r : Row) (q : Path) → length r.path ≤ n → IsIn r b → is_ancestor_of q r.path ≡ true → 0 < length q → BridgeAt q
  above_within zero r q few m h some = absurd (omega (arith, leads_longer q r.path h))
  above_within (suc n) r q few m h some =
      grind (arith, each_in, above_within n, snoc r.path (omega (arith, leads_longer q r.path h)), leads_longer q r.path h, leads_up q (parent r.path) (last_part r.path), bridge_at, length_snoc)

  pub bridge_above : (r : Row) (q : Path) → IsIn r b → is_ancestor_of q r.path ≡ true → 0 < length q → BridgeAt q
  bridge_above r q m h some = above_within (length r.path) r q (omega arith) m h some
