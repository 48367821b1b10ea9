-- The first closed region of given functions, row by row.
use Rattle.std.{proofs.{Common.{◌≡◌, ℕ, suc, ◌+◌, ◌<◌, add-one, Bool, true, false, ◌||◌, cond, not, List, [], ◌∷◌, ◌++◌, length, drop, get_or, None, refl, sym, ap, ◌∙◌, arith}, Math.Seq.drop-cons, lemmas.List.{Elements.filter-append, Folds.list_any-append}}, specs.{Prelude.{map, flat_map, filter, slice_get}, List.list_any}}
use Rattle.lists.{specs.Elements.{Each, first_of_two}, proofs.EachLemmas.{each_of_map, each_filter}}
use Rattle.model_registers.specs.{EndpointTable.BaseAddress, Decoding.opens_space}
use Rattle.model_board.specs.{Paths.{Path, path_eq}, Routing.{Ranges, regions, windows, RoutingRow}}
use Rattle.model_set_up.specs.PlacedRegions.{PlacedRegion}
use Rattle.model_findings.specs.OpenRegions.{region_now, closed_of, closed_regions}
use Rattle.model_guests.specs.World.{Guest}
use Rattle.monitor.specs.Handovers.{closed_if_given, is_among, first_closed_at}

dropped : {A : Type 0} (xs : List A) (i : ℕ) (x : A) → i < length xs → x ≡ get_or xs i x → drop i xs ≡ x ∷ drop (i + 1) xs
dropped xs i x h e = rw (add-one, drop-cons xs i x) (ap (λ y. y ∷ drop (suc i) xs) (sym e))

-- ---- a path among guests' paths

pub among_guests : (p : Path) (gs : List Guest) → list_any (λ (g : Guest). list_any (λ q. path_eq q p) g.slots) gs ≡ list_any (λ q. path_eq q p) (flat_map (λ (g : Guest). g.slots) gs)
among_guests p [] = refl
among_guests p (g ∷ gs) = ap (λ t. list_any (λ q. path_eq q p) g.slots || t) (among_guests p gs) ∙ sym (list_any-append (λ q. path_eq q p) g.slots (flat_map (λ (h : Guest). h.slots) gs))

-- ---- a row

module _ (ps : List Path) where
  abbrev given : Path → Bool
  given p = list_any (λ q. path_eq q p) ps

  abbrev IsAt : Path → PlacedRegion → Type 0
  IsAt p q = q.path ≡ p

  all_at : (p : Path) (command : ℕ) (bs : List BaseAddress) → Each (IsAt p) (filter (λ (q : PlacedRegion). not (opens_space command q.space)) (map (region_now p) bs))
  all_at p command bs = each_filter (IsAt p) (λ (q : PlacedRegion). not (opens_space command q.space)) (map (region_now p) bs) (each_of_map (IsAt p) (region_now p) bs (every bs))
    where
      every : (bs : List BaseAddress) → Each (λ (b : BaseAddress). p ≡ p) bs
      every [] = tt
      every (b ∷ bs) = (refl, every bs)

  of_row : (r : RoutingRow) → Each (IsAt r.path) (closed_of r)
  of_row r = by r.path r.command r.ranges
    where
      by : (p : Path) (command : ℕ) (rs : Ranges) → Each (IsAt p) (closed_of (record { path = p; command = command; ranges = rs }))
      by p command (regions bs) = all_at p command bs
      by p command (windows wio wmem wpref) = tt

  kept : (p : Path) (t : Bool) → given p ≡ t → (qs : List PlacedRegion) → Each (IsAt p) qs → filter (is_among ps) qs ≡ cond t qs []
  kept p o e [] at = grind arith
  kept p true e (q ∷ qs) at = grind (arith, kept p true e qs)
  kept p false e (q ∷ qs) at = grind (arith, kept p false e qs)

  front : (xs ys : List PlacedRegion) → slice_get (xs ++ ys) 0 ≡ first_of_two (slice_get xs 0) (slice_get ys 0)
  front [] ys = refl
  front (x ∷ xs) ys = refl

  one_row : (r : RoutingRow) (rows : List RoutingRow) → first_closed_at ps (r ∷ rows) ≡ first_of_two (closed_if_given ps r) (first_closed_at ps rows)
  one_row r rows =
      ap (λ (xs : List PlacedRegion). slice_get xs 0) (filter-append (is_among ps) (closed_of r) (closed_regions rows))
      ∙ front (filter (is_among ps) (closed_of r)) (filter (is_among ps) (closed_regions rows))
      ∙ ap (λ (xs : List PlacedRegion). first_of_two (slice_get xs 0) (first_closed_at ps rows)) (kept r.path (given r.path) refl (closed_of r) (of_row r))
      ∙ by (given r.path)
    where
      by : (t : Bool) → first_of_two (slice_get (cond t (closed_of r) []) 0) (first_closed_at ps rows) ≡ first_of_two (cond t (slice_get (closed_of r) 0) None) (first_closed_at ps rows)
      by true = refl
      by false = refl

  -- the rows from an index on
  pub row_step : (rows : List RoutingRow) (i : ℕ) (r : RoutingRow) → i < length rows → r ≡ get_or rows i r → first_closed_at ps (drop i rows) ≡ first_of_two (closed_if_given ps r) (first_closed_at ps (drop (i + 1) rows))
  row_step rows i r h e = ap (first_closed_at ps) (dropped rows i r h e) ∙ one_row r (drop (i + 1) rows)
