-- What sets of paths say of bridges and endpoints.
use Rattle.std.{proofs.{Common.{◌≡◌, ℕ, Bool, true, false, not, ◌&&◌, ◌||◌, cond, List, [], ◌∷◌, ◌++◌, Option, Some, None, map, refl, sym, ap, ◌∙◌, arith}, lemmas.List.Elements.filter_agree}, specs.{Prelude.{filter, flat_map, option_map, option_and_then, unwrap_or}, List.{list_any, filter_map, cons_option}, Ordering.eq_by_cmp, BTreeSet.{BTreeSet, IsFromIterResult, contains}}}
use Rattle.model_board.{specs.Paths.{Part, Path, path_eq, parent}, proofs.PathEnds.path_eq-sym}
use Rattle.paths.specs.{PathOrders.path_cmp, PathLaws.paths_tied}
use Rattle.board_file.specs.{Entries.{Bridge, Guest}, Endpoints.Endpoint, EntryRules.are_same_valid_path, PathTexts.{parse_leading_part, parts_after, path_at, is_path_text}}
use Rattle.board_fit.specs.{PathSets.{bridge_path_unless_bus_0, parent_bridge, valid_slot_paths}, Warnings.{bridge_path, has_none_behind, is_given}}

-- ---- bridges

-- a path has a part
abbrev HasParts : Path → Type 0
HasParts [] = ⊥
HasParts (p ∷ ps) = Unit {0}

has_parts : (text : List ℕ) → HasParts (path_at text)
has_parts text = of_front (parse_leading_part text)
  where
    root : Path
    root = record { device = 0; function = 0 } ∷ []

    of_parts : (p : Part) (o : Option Path) → HasParts (unwrap_or (option_map (λ ps. p ∷ ps) o) root)
    of_parts p None = tt
    of_parts p (Some ps) = tt

    of_front : (o : Option (Part × List ℕ))
        → HasParts (unwrap_or (option_and_then (λ (found : Part × List ℕ). option_map (λ ps. found.0 ∷ ps) (parts_after 15 found.1)) o) root)
    of_front None = tt
    of_front (Some found) = of_parts found.0 (parts_after 15 found.1)

none_above : (ps : List Path) (q : Path) → HasParts q
    → not (list_any (eq_by_cmp path_cmp q) (filter_map parent_bridge ps)) ≡ has_none_behind ps q
none_above [] q has = refl
none_above (p ∷ ps) [] has = absurd has
none_above (p ∷ ps) (x ∷ xs) has = by_parent (parent p) (none_above ps (x ∷ xs) has)
  where
    by_parent : (bus : Path)
        → not (list_any (eq_by_cmp path_cmp (x ∷ xs)) (filter_map parent_bridge ps)) ≡ has_none_behind ps (x ∷ xs)
        → not (list_any (eq_by_cmp path_cmp (x ∷ xs)) (cons_option (bridge_path_unless_bus_0 bus) (filter_map parent_bridge ps)))
        ≡ (not (path_eq (x ∷ xs) bus) && has_none_behind ps (x ∷ xs))
    by_parent [] h = h
    by_parent (b ∷ bs) h = grind (arith, paths_tied, h)

pub none_behind : (ps : List Path) (parents : BTreeSet Path) (text : List ℕ) → IsFromIterResult path_cmp (filter_map parent_bridge ps) parents
    → not (contains path_cmp parents (path_at text)) ≡ has_none_behind ps (path_at text)
none_behind ps parents text is = ap not (is.0 (path_at text)) ∙ none_above ps (path_at text) (has_parts text)

-- the bridges outside a set of those behind which something stands
pub empty : (ps : List Path) (parents : BTreeSet Path) → IsFromIterResult path_cmp (filter_map parent_bridge ps) parents → (bs : List (ℕ × Bridge))
    → filter (λ p. not (contains path_cmp parents (bridge_path p.1))) bs ≡ filter (λ p. has_none_behind ps (bridge_path p.1)) bs
empty ps parents is bs = filter_agree _ _ (λ p. none_behind ps parents p.1.at is) bs

-- ---- endpoints

same_is : (q p : Path) → eq_by_cmp path_cmp q p ≡ path_eq p q
same_is q p = sym (paths_tied q p) ∙ path_eq-sym q p

met : (a e x y : Bool) → (a && x) ≡ y → (a && (e || x)) ≡ ((a && e) || y)
met a e x y h = grind arith

either : (e x y z : Bool) → x ≡ (y || z) → (e || x) ≡ ((e || y) || z)
either e x y z h = grind arith

in_slot : (at s : List ℕ) (ps : List (List ℕ)) (t rest : Bool)
    → (is_path_text at && list_any (eq_by_cmp path_cmp (path_at at)) (map path_at ps)) ≡ rest
    → (is_path_text at && list_any (eq_by_cmp path_cmp (path_at at)) (map path_at (cond t (s ∷ ps) ps)))
    ≡ ((t && is_path_text at && path_eq (path_at s) (path_at at)) || rest)
in_slot at s ps true rest h = grind (arith, met, same_is)
in_slot at s ps false rest h = h

in_slots : (at : List ℕ) (ss : List (List ℕ))
    → (is_path_text at && list_any (eq_by_cmp path_cmp (path_at at)) (map path_at (filter is_path_text ss))) ≡ list_any (λ s. are_same_valid_path s at) ss
in_slots at [] = grind arith
in_slots at (s ∷ ss) = in_slot at s (filter is_path_text ss) (is_path_text s) (list_any (λ r. are_same_valid_path r at) ss) (in_slots at ss)

in_one : (P : Path → Bool) (s : List ℕ) (ps qs : List (List ℕ)) (t rest : Bool)
    → list_any P (map path_at qs) ≡ (list_any P (map path_at ps) || rest)
    → list_any P (map path_at (cond t (s ∷ qs) qs)) ≡ (list_any P (map path_at (cond t (s ∷ ps) ps)) || rest)
in_one P s ps qs true rest h = either (P (path_at s)) (list_any P (map path_at qs)) (list_any P (map path_at ps)) rest h
in_one P s ps qs false rest h = h

in_both : (P : Path → Bool) (ss ts : List (List ℕ)) → list_any P (map path_at (filter is_path_text (ss ++ ts)))
    ≡ (list_any P (map path_at (filter is_path_text ss)) || list_any P (map path_at (filter is_path_text ts)))
in_both P [] ts = refl
in_both P (s ∷ ss) ts = grind (arith, in_one, in_both P ss ts)

in_guests : (at : List ℕ) (gs : List Guest)
    → (is_path_text at && list_any (eq_by_cmp path_cmp (path_at at)) (valid_slot_paths gs)) ≡ is_given gs at
in_guests at [] = grind arith
in_guests at (g ∷ gs) =
    ap (λ b. is_path_text at && b) (in_both (eq_by_cmp path_cmp (path_at at)) g.slots (flat_map (λ (h : Guest). h.slots) gs))
    ∙ grind (arith, in_slots at g.slots, in_guests at gs)

pub given : (gs : List Guest) (set : BTreeSet Path) (at : List ℕ) → IsFromIterResult path_cmp (valid_slot_paths gs) set
    → (is_path_text at && contains path_cmp set (path_at at)) ≡ is_given gs at
given gs set at is = ap (λ b. is_path_text at && b) (is.0 (path_at at)) ∙ in_guests at gs

-- the endpoints outside a set of those that guests have
pub of_none : (gs : List Guest) (set : BTreeSet Path) → IsFromIterResult path_cmp (valid_slot_paths gs) set → (es : List (ℕ × Endpoint))
    → filter (λ p. not (is_path_text p.1.at && contains path_cmp set (path_at p.1.at))) es ≡ filter (λ p. not (is_given gs p.1.at)) es
of_none gs set is es = filter_agree _ _ (λ p. ap not (given gs set p.1.at is)) es
