-- Lawful places are those of a board: path order takes nothing away and adds nothing.
use Rattle.std.{proofs.{Common.{◌≡◌, Bool, true, false, ◌||◌, cond, List, [], ◌∷◌, map, refl, sym, ap, ◌∙◌, arith, ◌⊎◌, rules}, lemmas.Bool.Decides.nat_tests}, specs.List.list_any}
use Rattle.lists.{specs.Elements.{Each, EachPair}, proofs.{Tests.{left_true, right_true}, EachLemmas.{each_map, each_both}}}
use Rattle.model_board.{specs.{Paths.{Part, Path, part_eq, path_eq, path_before, parent, function_zero, IsPath}, Board.{Row, Board, IsBoard, is_bridge_at, stands_at}, Places.{Standing, standing, has_path, has_bridge, AreLawfulPlaces, row_inserted, board_of, LawfulPlacesAreBoards}}, proofs.PathOrder.{one, exclusive, before_trans}}

-- ---- path order is total

pub part_turn : (a b : Part) → part_eq a b ≡ true → part_eq b a ≡ true
part_turn a b h = grind (arith, nat_tests)

pub path_total : (p q : Path) → path_before p q ≡ false → path_eq p q ≡ false → path_before q p ≡ true
path_total [] b h k = grind arith
path_total (a ∷ p) [] h k = refl
path_total (a ∷ p) (b ∷ q) h k = search (rules, path_total p q, part_turn, nat_tests)

path_turn : (p q : Path) → path_eq p q ≡ true → path_eq q p ≡ true
path_turn [] b h = grind arith
path_turn (a ∷ p) [] h = cc
path_turn (a ∷ p) (b ∷ q) h = grind (arith, part_turn, left_true, path_turn p q, right_true)

pub apart_turn : (p q : Path) → path_eq p q ≡ false → path_eq q p ≡ false
apart_turn p q h = grind (arith, path_turn)

pub before_apart : (p q : Path) → path_before p q ≡ true → path_eq p q ≡ false
before_apart p q h = grind (arith, exclusive p q, one)

-- ---- a row put in its place

any_insert : (t : Row → Bool) (r : Row) (b : Board) → list_any t (row_inserted r b) ≡ (t r || list_any t b)
any_insert t r [] = refl
any_insert t r (s ∷ ss) = grind (arith, any_insert t r ss)

pub any_board : (t : Row → Bool) (rs : List Row) → list_any t (board_of rs) ≡ list_any t rs
any_board t [] = refl
any_board t (r ∷ rs) = any_insert t r (board_of rs) ∙ ap (λ x. t r || x) (any_board t rs)

each_in : (P : Row → Type 0) (r : Row) (b : Board) → P r → Each P b → Each P (row_inserted r b)
each_in P r [] p h = (p, tt)
each_in P r (s ∷ ss) p h = grind (arith, each_in P r ss p)

each_out : (P : Row → Type 0) (r : Row) (b : Board) → Each P (row_inserted r b) → P r × Each P b
each_out P r [] h = h
each_out P r (s ∷ ss) h = grind (arith, each_out P r ss)

pub each_to_board : (P : Row → Type 0) (rs : List Row) → Each P rs → Each P (board_of rs)
each_to_board P [] h = tt
each_to_board P (r ∷ rs) h = each_in P r (board_of rs) h.0 (each_to_board P rs h.1)

pub each_from_board : (P : Row → Type 0) (rs : List Row) → Each P (board_of rs) → Each P rs
each_from_board P [] h = tt
each_from_board P (r ∷ rs) h = let parts = each_out P r (board_of rs) h in (parts.0, each_from_board P rs parts.1)

-- ---- order

abbrev Before : Row → Row → Type 0
Before r s = path_before r.path s.path ≡ true

abbrev Other : Row → Row → Type 0
Other r s = path_eq s.path r.path ≡ false

all_after : (r s : Row) (ss : Board) → Before r s → Each (Before s) ss → Each (Before r) ss
all_after r s [] h k = tt
all_after r s (x ∷ xs) h k = grind (arith, before_trans r.path s.path x.path k.0, all_after r s xs h k.1, one)

order_in : (r : Row) (b : Board) → Each (Other r) b → EachPair Before b → EachPair Before (row_inserted r b)
order_in r [] o h = (tt, tt)
order_in r (s ∷ ss) o h = grind (arith, order_in r ss, each_in, path_total, all_after)

order_out : (r : Row) (b : Board) → EachPair Before (row_inserted r b) → Each (Other r) b × EachPair Before b
order_out r [] h = (tt, tt)
order_out r (s ∷ ss) h = by_case (path_before s.path r.path) refl (order_out r ss) h
  where
    others : (xs : Board) → Each (Before r) xs → Each (Other r) xs
    others [] k = tt
    others (x ∷ xs) k = (apart_turn r.path x.path (before_apart r.path x.path k.0), others xs k.1)

    by_case : (c : Bool) → path_before s.path r.path ≡ c → (EachPair Before (row_inserted r ss) → Each (Other r) ss × EachPair Before ss)
        → EachPair Before (cond c (s ∷ row_inserted r ss) (r ∷ s ∷ ss)) → Each (Other r) (s ∷ ss) × EachPair Before (s ∷ ss)
    by_case true e again k = grind (arith, each_out, before_apart)
    by_case false e again k = (others (s ∷ ss) k.0, k.1)

to_order : (rs : List Row) → EachPair Other rs → EachPair Before (board_of rs)
to_order [] h = tt
to_order (r ∷ rs) h = order_in r (board_of rs) (each_to_board (Other r) rs h.0) (to_order rs h.1)

from_order : (rs : List Row) → EachPair Before (board_of rs) → EachPair Other rs
from_order [] h = tt
from_order (r ∷ rs) h = grind (arith, order_out r (board_of rs) h, each_from_board (Other r) rs, from_order rs)

-- ---- the same facts of standings and of rows

any_standing : (t : Standing → Bool) (rs : List Row) → list_any t (map standing rs) ≡ list_any (λ r. t (standing r)) rs
any_standing t [] = refl
any_standing t (r ∷ rs) = ap (λ x. t (standing r) || x) (any_standing t rs)

each_standing : (P : Standing → Type 0) (rs : List Row) → Each P (map standing rs) → Each (λ r. P (standing r)) rs
each_standing P [] h = tt
each_standing P (r ∷ rs) h = (h.0, each_standing P rs h.1)

standing_each : (P : Standing → Type 0) (rs : List Row) → Each (λ r. P (standing r)) rs → Each P (map standing rs)
standing_each P [] h = tt
standing_each P (r ∷ rs) h = (h.0, standing_each P rs h.1)

pair_standing : (rs : List Row) → EachPair (λ (s t : Standing). path_eq t.path s.path ≡ false) (map standing rs) → EachPair Other rs
pair_standing [] h = tt
pair_standing (r ∷ rs) h = (each_standing (λ t. path_eq t.path r.path ≡ false) rs h.0, pair_standing rs h.1)

standing_pair : (rs : List Row) → EachPair Other rs → EachPair (λ (s t : Standing). path_eq t.path s.path ≡ false) (map standing rs)
standing_pair [] h = tt
standing_pair (r ∷ rs) h = (standing_each (λ t. path_eq t.path r.path ≡ false) rs h.0, standing_pair rs h.1)

paths_same : (rs : List Row) (p : Path) → has_path (map standing rs) p ≡ stands_at (board_of rs) p
paths_same rs p = any_standing (λ s. path_eq s.path p) rs ∙ sym (any_board (λ r. path_eq r.path p) rs)

abbrev BehindA : List Row → Row → Type 0
BehindA rs r = (parent r.path ≡ []) ⊎ (has_bridge (map standing rs) (parent r.path) ≡ true)

abbrev BehindB : List Row → Row → Type 0
BehindB rs r = (parent r.path ≡ []) ⊎ (is_bridge_at (board_of rs) (parent r.path) ≡ true)

behind_to : (rs : List Row) (r : Row) → BehindA rs r → BehindB rs r
behind_to rs r h = grind (arith, any_standing, any_board)

behind_from : (rs : List Row) (r : Row) → BehindB rs r → BehindA rs r
behind_from rs r h = grind (arith, any_standing, any_board)

pub lawful_places_are_boards : LawfulPlacesAreBoards
lawful_places_are_boards rs = (to, from)
  where
    to : AreLawfulPlaces (map standing rs) → IsBoard (board_of rs)
    to h = grind (arith, each_standing, each_to_board, each_map, to_order, pair_standing, behind_to, paths_same)

    zero_from : (r : Row) → stands_at (board_of rs) (function_zero r.path) ≡ true → has_path (map standing rs) (function_zero r.path) ≡ true
    zero_from r z = paths_same rs (function_zero r.path) ∙ z

    from : IsBoard (board_of rs) → AreLawfulPlaces (map standing rs)
    from h =
        let paths = each_from_board (λ r. IsPath r.path) rs h.paths in
        let behind = each_from_board (BehindB rs) rs h.behind_bridges in
        let zeros = each_from_board (λ r. stands_at (board_of rs) (function_zero r.path) ≡ true) rs h.function_zeros in
        let all = each_both (λ r. IsPath r.path) (λ r. BehindB rs r × (stands_at (board_of rs) (function_zero r.path) ≡ true)) rs paths
        (each_both (BehindB rs) (λ r. stands_at (board_of rs) (function_zero r.path) ≡ true) rs behind zeros) in
        grind (arith, standing_each, each_map, behind_from, zero_from, standing_pair, from_order)
