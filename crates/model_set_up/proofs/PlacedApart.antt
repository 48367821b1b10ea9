-- Two regions of a board share no address: where their paths part, two rows of one bus would both hold it.
use Rattle.std.{proofs.Common.{◌≡◌, ℕ, ◌+◌, ◌⊎◌, inr, Bool, true, false, ◌&&◌, Option, List, [], ◌∷◌, ◌++◌, refl, sym, ap, ◌∙◌, subst, arith, rules}, specs.{Prelude.{IsTrue, MatchOption}, List.list_any}}
use Rattle.model_registers.specs.{Declarations.{Kind, Bridge}, Decoding.{memory, space_of, same_space}, Apertures.{IsLawfulApertures, IsPrefOption, Aperture, Apertures}}
use Rattle.lists.{proofs.{Tests.{left_true, right_true}, Members.{each_in, from_any, pair_in}}, specs.Elements.IsIn}
use Rattle.model_board.{specs.{Board.{Board, Row, is_bridge, IsBoard}, Paths.{Part, Path, path_eq, is_ancestor_of, parent}}, proofs.{PathOrder.{path_same, part_self}, PathEnds.{path_self, parent_snoc, last_snoc, length_snoc}}}
use Rattle.model_set_up.{specs.{Pools.{Pool, io_pool, mem_pool, pref_pool, same_pool, pool_for_prefetchable, pool_of, aperture_of}, Layout.{LayoutRow, is_window_over, IsUnderWindows, IsLawful}, Extents.{IsInside, AreApart}, Placement.{Placed, a_window}, PlacedRegions.pool_space}, proofs.Partings.{Meeting, Same, Above, Below, Parting, meet, leads_down, one_row, bridge_above}}

-- ---- pools

pub pool_is : (p q : Pool) → same_pool p q ≡ true → p ≡ q
pool_is p q h = grind arith

same_pools : (p q : Pool) → p ≡ q → same_pool p q ≡ true
same_pools p q h = grind arith

pub or_space : (o : Option Aperture) (above : List Bridge) (wide : Bool) → pool_space (pool_for_prefetchable o above wide) ≡ memory
or_space o above wide = grind arith

-- a region's pool has addresses of its space
pub pool_of_space : (a : Apertures) (above : List Bridge) (k : Kind) → pool_space (pool_of a above k) ≡ space_of k
pool_of_space a above k = grind (arith, or_space)

-- ---- rows of a layout

-- a window over a row is in the row's pool, above the row
over_parts : (r : LayoutRow) (p : Path) (what : Placed) (pool : Pool) (first size : ℕ) → is_window_over r (record { path = p; what = what; pool = pool; first = first; size = size }) ≡ true
    → (what ≡ a_window) × (same_pool pool r.pool ≡ true) × (is_ancestor_of p r.path ≡ true)
over_parts r p what pool first size h = grind (arith, left_true, right_true)

pub record WindowOver (rows : List LayoutRow) (r : LayoutRow) (q : Path) : Type 0 where
  pub row : LayoutRow
  pub there : IsIn row rows
  pub what_is : row.what ≡ a_window
  pub pool_is : row.pool ≡ r.pool
  pub path_is : row.path ≡ q
  pub inside : IsInside row.first (row.first + row.size) r.first r.size

-- a row inside another is apart from what the other is apart from
apart_inside : (w v r s : LayoutRow) → IsInside w.first (w.first + w.size) r.first r.size → IsInside v.first (v.first + v.size) s.first s.size → AreApart w.first w.size v.first v.size → AreApart r.first r.size s.first s.size
apart_inside w v r s h k e = grind (arith, w, v)

apart_sym : (r s : LayoutRow) → AreApart s.first s.size r.first r.size → AreApart r.first r.size s.first s.size
apart_sym r s e = grind arith

module _ (b : Board) (a : Apertures) (board : IsBoard b) (rows : List LayoutRow) (lawful : IsLawful b a rows) where
  -- each bridge above a row has a window over it
  pub window_over : (r : LayoutRow) (d : Row) → IsIn r rows → IsIn d b → is_ancestor_of d.path r.path ≡ true → WindowOver rows r d.path
  window_over r d m k h =
      let under : IsUnderWindows b rows r = each_in (IsUnderWindows b rows) r rows lawful.under_windows m in
      let f = from_any (λ (w : LayoutRow). is_window_over r w && path_eq w.path d.path) rows (each_in (λ (e : Row). IsTrue (is_ancestor_of e.path r.path) → IsTrue (list_any (λ w. is_window_over r w && path_eq w.path e.path) rows)) d b under.there k h) in
      grind (arith, left_true, over_parts, pool_is, path_same, right_true, each_in)

  -- on each bus of its path a row of its pool holds its addresses
  record Holder (r : LayoutRow) (q : Path) : Type 0 where
    row : LayoutRow
    there : IsIn row rows
    pool_is : row.pool ≡ r.pool
    path_is : row.path ≡ q
    inside : IsInside row.first (row.first + row.size) r.first r.size

  holder : (r : LayoutRow) (s : Row) → IsIn r rows → IsIn s b → s.path ≡ r.path → (bus : Path) (x : Part) (ps : Path) → r.path ≡ bus ++ x ∷ ps → Holder r (bus ++ x ∷ [])
  holder r s m k e bus x [] p = record { row = r; there = m; pool_is = refl; path_is = p; inside = (omega arith, omega arith) }
  holder r s m k e bus x (z ∷ zs) p =
      grind (arith, leads_down bus x z zs, bridge_above b board s (bus ++ x ∷ []) k, length_snoc bus x, window_over r, pool_is)

  -- two rows of one bus and one pool are one, or apart
  one_bus : (r s : LayoutRow) → IsIn r rows → IsIn s rows → r.pool ≡ s.pool → parent r.path ≡ parent s.path → (r ≡ s) ⊎ AreApart r.first r.size s.first s.size
  one_bus r s m k same bus = search (rules, pair_in, same_pools, path_self, apart_sym)

  -- a row of an endpoint of the board
  pub record OfEndpoint (r : LayoutRow) : Type 0 where
    pub there : IsIn r rows
    pub function : Row
    pub on_board : IsIn function b
    pub is_endpoint : is_bridge function.decl ≡ false
    pub path_is : function.path ≡ r.path

  not_above : (r s : LayoutRow) → OfEndpoint r → OfEndpoint s → is_ancestor_of r.path s.path ≡ true → ⊥
  not_above r s f g h = search (rules, each_in, bridge_above, one_row)

  -- two regions of one pool are one row, or apart
  pub regions_apart : (r s : LayoutRow) → OfEndpoint r → OfEndpoint s → r.pool ≡ s.pool → (r ≡ s) ⊎ AreApart r.first r.size s.first s.size
  regions_apart r s f g same = by_paths (meet r.path s.path)
    where
      by_paths : Meeting r.path s.path → (r ≡ s) ⊎ AreApart r.first r.size s.first s.size
      by_paths (Same e) = one_bus r s f.there g.there same (ap parent e)
      by_paths (Above h) = absurd (not_above r s f g h)
      by_paths (Below h) = absurd (not_above s r g f h)
      by_paths (Parting bus x y ps qs p q n) =
          grind (arith, one_bus, parent_snoc bus x, parent_snoc bus y, holder r f.function f.there f.on_board f.path_is bus x ps p, holder s g.function g.there g.on_board g.path_is bus y qs q, last_snoc bus x, last_snoc bus y, part_self x, apart_inside)

  -- two rows of one space are apart where their pools differ: memory and prefetchable apertures are
  pools_apart : (o : Option Aperture) (r s : LayoutRow) → IsPrefOption a.mem o → IsInside a.mem.first (a.mem.last + 1) r.first r.size → MatchOption o ⊥ (λ ap. IsInside ap.first (ap.last + 1) s.first s.size) → AreApart r.first r.size s.first s.size
  pools_apart o r s h k l = grind arith

  in_aperture : (r : LayoutRow) → IsIn r rows → (pool : Pool) → r.pool ≡ pool → MatchOption (aperture_of a pool) ⊥ (λ ap. IsInside ap.first (ap.last + 1) r.first r.size)
  in_aperture r m pool e = subst (λ x. MatchOption (aperture_of a x) ⊥ (λ ap. IsInside ap.first (ap.last + 1) r.first r.size)) e (each_in (λ (t : LayoutRow). MatchOption (aperture_of a t.pool) ⊥ (λ ap. IsInside ap.first (ap.last + 1) t.first t.size)) r rows lawful.in_apertures m)

  -- two regions of one space are one row, or apart
  pub spaces_apart : IsLawfulApertures a → (p q : Pool) (r s : LayoutRow) → OfEndpoint r → OfEndpoint s → r.pool ≡ p → s.pool ≡ q → same_space (pool_space p) (pool_space q) ≡ true → (r ≡ s) ⊎ AreApart r.first r.size s.first s.size
  spaces_apart apertures io_pool io_pool r s f g e h same = regions_apart r s f g (e ∙ sym h)
  spaces_apart apertures io_pool o r s f g e h same = cc
  spaces_apart apertures mem_pool io_pool r s f g e h same = cc
  spaces_apart apertures mem_pool mem_pool r s f g e h same = regions_apart r s f g (e ∙ sym h)
  spaces_apart apertures mem_pool pref_pool r s f g e h same = inr (pools_apart a.pref r s apertures.pref (in_aperture r f.there mem_pool e) (in_aperture s g.there pref_pool h))
  spaces_apart apertures pref_pool io_pool r s f g e h same = cc
  spaces_apart apertures pref_pool mem_pool r s f g e h same = inr (apart_sym r s (pools_apart a.pref s r apertures.pref (in_aperture s g.there mem_pool h) (in_aperture r f.there pref_pool e)))
  spaces_apart apertures pref_pool pref_pool r s f g e h same = regions_apart r s f g (e ∙ sym h)
