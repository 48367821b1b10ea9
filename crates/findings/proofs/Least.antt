-- The least of addresses that may be there.
use Rattle.lists.proofs.{Tests.and_false, Members.none_pass}
use Rattle.std.{proofs.{lemmas.List.{Elements.filter-append, map-append}, Common.{◌≡◌, ℕ, Bool, false, ◌&&◌, cond, List, [], ◌∷◌, ◌++◌, Option, None, refl, sym, ap, ap₂, ◌∙◌, arith}}, specs.{Prelude.{not, map, filter}, List.list_any, Option.option_to_list}}
use Rattle.model_registers.specs.Decoding.{same_space}
use Rattle.model_board.specs.Routing.{RoutingRow, row_forwards}
use Rattle.model_set_up.specs.PlacedRegions.{PlacedRegion, holds}
use Rattle.model_findings.{specs.{Agents.{Extent, extent_holds, forwarded_extents, Agent}, Problems.{least, first_unforwarded_address, shared}}, proofs.Answering.forwards_extents}
use Rattle.findings.specs.Extents.{least_of, first_missed_address}

filter_same : (t u : ℕ → Bool) (xs : List ℕ) → ((n : ℕ) → t n ≡ u n) → filter t xs ≡ filter u xs
filter_same t u [] h = refl
filter_same t u (x ∷ xs) h = ap₂ (λ (b : Bool) (ys : List ℕ). cond b (x ∷ ys) ys) (h x) (filter_same t u xs h)

-- the least of those that pass, piece by piece
pub least_piece : (t : ℕ → Bool) (o : Option ℕ) (xs ys : List ℕ) → option_to_list o ≡ filter t xs → least (filter t (xs ++ ys)) ≡ least_of o (least (filter t ys))
least_piece t o xs ys e = grind (arith, filter-append)

pub least_last : (t : ℕ → Bool) (o : Option ℕ) (xs : List ℕ) → option_to_list o ≡ filter t xs → least (filter t xs) ≡ o
least_last t o xs e = grind arith

abbrev pub lost_among : PlacedRegion → List Extent → ℕ → Bool
lost_among q es n = holds q.space n q && not (list_any (extent_holds n) es)

pub least_lost : (q : PlacedRegion) (xs ys : List Extent) (a b c : Option ℕ)
    → option_to_list a ≡ filter (lost_among q (xs ++ ys)) (q.first ∷ [])
    → option_to_list b ≡ filter (lost_among q (xs ++ ys)) (map (λ e. e.end) xs)
    → option_to_list c ≡ filter (lost_among q (xs ++ ys)) (map (λ e. e.end) ys)
    → least_of a (least_of b c) ≡ first_missed_address (xs ++ ys) q
least_lost q xs ys a b c f g h =
    ap (least_of a) (ap (least_of b) (sym (least_last t c (map (λ e. e.end) ys) h)) ∙ sym (least_piece t b (map (λ e. e.end) xs) (map (λ e. e.end) ys) g))
    ∙ sym (least_piece t a (q.first ∷ []) (map (λ e. e.end) xs ++ map (λ e. e.end) ys) f)
    ∙ ap (λ zs. least (filter t (q.first ∷ zs))) (sym (map-append (λ (e : Extent). e.end) xs ys))
  where
    t : ℕ → Bool
    t = lost_among q (xs ++ ys)

-- what none of a bridge's extents holds is what it doesn't forward
pub missed_unforwarded : (r : RoutingRow) (q : PlacedRegion) (es : List Extent) → es ≡ forwarded_extents q.space r → first_missed_address es q ≡ first_unforwarded_address r q
missed_unforwarded r q es e =
    ap (λ zs. first_missed_address zs q) e
    ∙ ap least (filter_same (lost_among q (forwarded_extents q.space r)) (λ n. holds q.space n q && not (row_forwards q.space n r)) (q.first ∷ map (λ e. e.end) (forwarded_extents q.space r)) same)
  where
    same : (n : ℕ) → lost_among q (forwarded_extents q.space r) n ≡ (holds q.space n q && not (row_forwards q.space n r))
    same n = ap (λ (u : Bool). holds q.space n q && not u) (forwards_extents q.space n r.path r.command r.ranges)

pub none_shared : (x y : Agent) → same_space x.space y.space ≡ false → None ≡ shared x y
none_shared x y h = grind (arith, none_pass, and_false)
