-- The placed regions of a board: each has its row in the layout, and no two of one space share an address.
use Rattle.std.{proofs.Common.{◌≡◌, ℕ, ◌+◌, ◌≤◌, ◌⊎◌, true, [], ◌∷◌, refl, sym, ap, subst, arith, ◌%◌, ◌^◌, Option}, specs.Prelude.IsTrue}
use Rattle.lists.{specs.Elements.{EachPair, IsIn}, proofs.Members.{each_in, in_map, in_flat_map, from_flat_map, from_map, from_filter, pairs_weaker, pairs_flat_map, pairs_of_map}}
use Rattle.model_registers.specs.{Declarations.{Kind, Region, registers_of, HasLawfulRegions, Endpoint, least_size, IsLawfulRegion}, Decoding.{Space, space_of, same_space, io, memory}, Apertures.{IsLawfulApertures, Apertures, Aperture}, DeclarationRules.IsLawfulEndpoint}
use Rattle.model_board.{specs.{Board.{Board, Row, Decl, endpoint, bridge, is_bridge, IsBoard}, Paths.{Path, path_before}, Lawful.{IsLawfulDecl, HasLawfulDecls}}, proofs.PathEnds.not_before_itself}
use Rattle.model_set_up.{specs.{Pools.{Pool, io_pool, mem_pool, pref_pool, bridges_above}, Placement.{Placed, a_region, a_window}, SetUp.first_of, Layout.{LayoutRow, IsLawful, pool_rows, layout, IsAligned}, Extents.AreApart, PlacementLaws.{pool_at, region_row, IsRowFor, HasRows}, PlacedRegions.{PlacedRegion, placed, placed_at, placed_regions, pool_space, placed_row, placed_rows}, UniqueClaimant.{ShareNone, CanBePlaced, IsPlacedWithin, PlacedWithin}}, proofs.{PlacedApart.{pool_of_space, OfEndpoint, spaces_apart}, LawfulPlacement.layout_is_lawful, DeclaredRows.one_row_per_region_or_window, PlacedReads.{InAperture, fits_register}}}

-- where a placed region comes from
pub record Source (b : Board) (a : Apertures) (q : PlacedRegion) : Type 0 where
  pub row : Row
  pub there : IsIn row b
  pub decl : Endpoint
  pub decl_is : row.decl ≡ endpoint decl
  pub region : Region
  pub declared : IsIn region decl.regions
  pub is : q ≡ placed b a row.path region

of_decl : (b : Board) (a : Apertures) (p : Path) (d : Decl) (q : PlacedRegion) → IsIn q (placed_at b a (record { path = p; decl = d })) → (e : Endpoint) × (d ≡ endpoint e) × (g : Region) × IsIn g e.regions × (q ≡ placed b a p g)
of_decl b a p d q m = grind (arith, from_map)

pub source : (b : Board) (a : Apertures) (q : PlacedRegion) → IsIn q (placed_regions b a) → Source b a q
source b a q m =
    let f = from_flat_map (placed_at b a) q b m in
    let g = of_decl b a f.0.path f.0.decl q f.2 in
    record { row = f.0; there = f.1; decl = g.0; decl_is = g.1; region = g.2; declared = g.3; is = g.4 }

pub each_pool : (pool : Pool) → IsIn pool (io_pool ∷ mem_pool ∷ pref_pool ∷ [])
each_pool pool = grind arith

pub lawful_decl : (b : Board) → HasLawfulDecls b → (r : Row) (d : Endpoint) → IsIn r b → r.decl ≡ endpoint d → IsLawfulEndpoint d
lawful_decl b lawful r d m e = subst IsLawfulDecl e (each_in (λ (s : Row). IsLawfulDecl s.decl) r b lawful m)

pub lawful_regions : (b : Board) → HasLawfulDecls b → (r : Row) (d : Endpoint) → IsIn r b → r.decl ≡ endpoint d → HasLawfulRegions d.regions
lawful_regions b lawful r d m e = (lawful_decl b lawful r d m e).regions

spaces_same : (x y z w : Space) → x ≡ y → z ≡ w → same_space y w ≡ true → same_space x z ≡ true
spaces_same x y z w e f h = subst (λ v. same_space x v ≡ true) (sym f) (subst (λ v. same_space v w ≡ true) (sym e) h)

-- a region's row stands in the layout
pub region_there : (b : Board) (a : Apertures) → HasRows b a → (r : Row) (d : Endpoint) (g : Region) → IsIn r b → r.decl ≡ endpoint d → IsIn g d.regions → IsIn (region_row b a r.path g) (layout b a)
region_there b a has r d g m e k =
    grind (arith, each_in, in_flat_map (pool_rows b a) (pool_at b a r.path g) (region_row b a r.path g) (io_pool ∷ mem_pool ∷ pref_pool ∷ []) (each_pool (pool_at b a r.path g)), each_pool (pool_at b a r.path g), from_filter)

module _ (b : Board) (a : Apertures) (board : IsBoard b) (decls : HasLawfulDecls b) (apertures : IsLawfulApertures a) (lawful : IsLawful b a (layout b a)) (has : HasRows b a) where
  row_of : (q : PlacedRegion) (s : Source b a q) → OfEndpoint b a board (layout b a) lawful (region_row b a s.row.path s.region)
  row_of q s = record {
    there = region_there b a has s.row s.decl s.region s.there s.decl_is s.declared;
    function = s.row;
    on_board = s.there;
    is_endpoint = ap is_bridge s.decl_is;
    path_is = refl;
  }

  -- two placed regions of one space that are not one share no address
  share_none : (q t : PlacedRegion) (s : Source b a q) (u : Source b a t) → (s.row.path ≡ u.row.path → s.region.index ≡ u.region.index → ⊥) → ShareNone q t
  share_none q t s u differ =
      subst (λ (x : PlacedRegion). ShareNone x t) (sym s.is) (subst (λ (x : PlacedRegion). ShareNone (placed b a s.row.path s.region) x) (sym u.is)
      (λ same. by_rows (spaces_apart b a board (layout b a) lawful apertures (pool_at b a s.row.path s.region) (pool_at b a u.row.path u.region) (region_row b a s.row.path s.region) (region_row b a u.row.path u.region)
      (row_of q s) (row_of t u) refl refl
      (spaces_same (pool_space (pool_at b a s.row.path s.region)) (space_of s.region.kind) (pool_space (pool_at b a u.row.path u.region)) (space_of u.region.kind)
      (pool_of_space a (bridges_above b s.row.path) s.region.kind) (pool_of_space a (bridges_above b u.row.path) u.region.kind) same))))
    where
      register : Placed → ℕ
      register (a_region n) = n
      register a_window = 0

      by_rows : (region_row b a s.row.path s.region ≡ region_row b a u.row.path u.region) ⊎ AreApart (region_row b a s.row.path s.region).first (region_row b a s.row.path s.region).size (region_row b a u.row.path u.region).first (region_row b a u.row.path u.region).size
          → AreApart (region_row b a s.row.path s.region).first (region_row b a s.row.path s.region).size (region_row b a u.row.path u.region).first (region_row b a u.row.path u.region).size
      by_rows h = grind (arith, register)

  -- the regions of one function have registers of their own
  one_function : (p : Path) (d : Decl) → IsIn (record { path = p; decl = d }) b → EachPair ShareNone (placed_at b a (record { path = p; decl = d }))
  one_function p (bridge d) m = tt
  one_function p (endpoint d) m =
      pairs_of_map ShareNone (placed b a p) d.regions
      (pairs_weaker (λ g h. g.index + registers_of g.kind ≤ h.index) (λ g h. ShareNone (placed b a p g) (placed b a p h)) d.regions (lawful_regions b decls (record { path = p; decl = endpoint d }) d m refl).in_order
      (λ g h k l order. share_none (placed b a p g) (placed b a p h) (from g k) (from h l) (λ e f. absurd (some_registers g.kind g.index h.index order f))))
    where
      from : (g : Region) → IsIn g d.regions → Source b a (placed b a p g)
      from g k = record { row = record { path = p; decl = endpoint d }; there = m; decl = d; decl_is = refl; region = g; declared = k; is = refl }

      some_registers : (k : Kind) (i j : ℕ) → i + registers_of k ≤ j → i ≡ j → ⊥
      some_registers k i j h e = grind arith

  -- no two placed regions of one space share an address
  pub placed_apart : EachPair ShareNone (placed_regions b a)
  placed_apart =
      pairs_flat_map (λ (r s : Row). IsTrue (path_before r.path s.path)) ShareNone (placed_at b a) b board.in_order
      (λ r m. one_function r.path r.decl m)
      (λ r s m k before q t l n. two_functions r s m k before q t (of_decl b a r.path r.decl q l) (of_decl b a s.path s.decl t n))
    where
      two_functions : (r s : Row) → IsIn r b → IsIn s b → IsTrue (path_before r.path s.path) → (q t : PlacedRegion)
          → ((d : Endpoint) × (r.decl ≡ endpoint d) × (g : Region) × IsIn g d.regions × (q ≡ placed b a r.path g))
          → ((d : Endpoint) × (s.decl ≡ endpoint d) × (g : Region) × IsIn g d.regions × (t ≡ placed b a s.path g)) → ShareNone q t
      two_functions r s m k before q t x y =
          share_none q t
          (record { row = r; there = m; decl = x.0; decl_is = x.1; region = x.2; declared = x.3; is = x.4 })
          (record { row = s; there = k; decl = y.0; decl_is = y.1; region = y.2; declared = y.3; is = y.4 })
          (λ e f. absurd (not_before_itself s.path (subst (λ (p : Path). path_before p s.path ≡ true) e before)))

-- ---- rows of the layout

-- the region of a row stands where the row says
row_is_placed : (b : Board) (a : Apertures) (p : Path) (g : Region) → placed_row (region_row b a p g) ≡ placed b a p g ∷ []
row_is_placed b a p g = ap (λ (x : Space). record { path = p; index = g.index; space = x; first = first_of b a p g; size = g.size } ∷ []) (pool_of_space a (bridges_above b p) g.kind)

module _ (b : Board) (a : Apertures) (has : HasRows b a) where
  of_rows : (q : PlacedRegion) (l : LayoutRow) (pool : Pool) (p : Path) (d : Decl) → IsIn q (placed_row l) → IsRowFor b a pool l p d → IsIn q (placed_at b a (record { path = p; decl = d }))
  of_rows q l pool p d m h = grind (arith, row_is_placed, in_map)

  pub rows_to_placed : (q : PlacedRegion) → IsIn q (placed_rows (layout b a)) → IsIn q (placed_regions b a)
  rows_to_placed q m =
      let l = from_flat_map placed_row q (layout b a) m in
      let f = from_flat_map (pool_rows b a) l.0 (io_pool ∷ mem_pool ∷ pref_pool ∷ []) l.1 in
      let g = each_in (λ (x : LayoutRow). (r : Row) × IsIn r b × IsRowFor b a f.0 x r.path r.decl) l.0 (pool_rows b a f.0) (has.no_others f.0) f.2 in
      in_flat_map (placed_at b a) g.0 q b g.1 (of_rows q l.0 f.0 g.0.path g.0.decl l.2 g.2)

  pub placed_to_rows : (q : PlacedRegion) → IsIn q (placed_regions b a) → IsIn q (placed_rows (layout b a))
  placed_to_rows q m =
      let s : Source b a q = source b a q m in
      let row : LayoutRow = region_row b a s.row.path s.region in
      grind (arith, in_flat_map placed_row row q (layout b a), region_there b a has s.row s.decl s.region s.there s.decl_is s.declared, row_is_placed b a s.row.path s.region)

-- ---- where the regions of a board are placed: inside the apertures, at multiples of 4

-- ---- what the apertures hold

record Ends (space : Space) (l : LayoutRow) : Type 0 where
  io_begins : space ≡ io → 0x1000 ≤ l.first
  io_ends : space ≡ io → l.first + l.size ≤ 2 ^ 16
  memory_ends : space ≡ memory → l.first + l.size ≤ 2 ^ 63

of_memory : (l : LayoutRow) → l.first + l.size ≤ 2 ^ 63 → Ends memory l
of_memory l high = record { io_begins = λ e. cc; io_ends = λ e. cc; memory_ends = λ e. high }

ends_by : (i m : Aperture) (o : Option Aperture) → IsLawfulApertures (record { io = i; mem = m; pref = o }) → (pool : Pool) (l : LayoutRow)
    → InAperture (record { io = i; mem = m; pref = o }) pool l → Ends (pool_space pool) l
ends_by i m o lawful io_pool l h = grind arith
ends_by i m o lawful mem_pool l h = of_memory l (omega (arith, h.1, lawful.mem.ends))
ends_by i m p lawful pref_pool l h = grind (arith, of_memory)

-- ---- multiples of 4

whole_base : (k : Kind) (n : ℕ) → n % least_size k ≡ 0 → n % 4 ≡ 0
whole_base k n h = grind arith

module _ (b : Board) (a : Apertures) (can : CanBePlaced b a) (p : Path) (d : Endpoint) (on_board : IsIn (record { path = p; decl = endpoint d }) b) (r : Region) (declared : IsIn r d.regions) where
  abbrev row : LayoutRow
  row = region_row b a p r

  lawful : IsLawful b a (layout b a)
  lawful = layout_is_lawful b a can.places can.declarations can.room

  there : IsIn row (layout b a)
  there = region_there b a (one_row_per_region_or_window b a can.places can.declarations) (record { path = p; decl = endpoint d }) d r on_board refl declared

  inside : InAperture a (pool_at b a p r) row
  inside = each_in (λ (l : LayoutRow). InAperture a l.pool l) row (layout b a) lawful.in_apertures there

  region : IsLawfulRegion r
  region = each_in IsLawfulRegion r d.regions (lawful_regions b can.declarations (record { path = p; decl = endpoint d }) d on_board refl).each declared

  multiple : row.first % least_size r.kind ≡ 0
  multiple = (fits_register a (bridges_above b p) r row can.apertures region refl (each_in (λ (l : LayoutRow). IsAligned l l.what) row (layout b a) lawful.aligned there) inside).aligned

  ends : Ends (space_of r.kind) row
  ends = subst (λ (x : Space). Ends x row) (pool_of_space a (bridges_above b p) r.kind) (ends_by a.io a.mem a.pref can.apertures (pool_at b a p r) row inside)

  within : IsPlacedWithin (placed b a p r)
  within = record { aligned = whole_base r.kind row.first multiple; io_begins = ends.io_begins; io_ends = ends.io_ends; memory_ends = ends.memory_ends }

pub placed_addresses_are_in_range : PlacedWithin
placed_addresses_are_in_range b a can p d on_board r declared = within b a can p d on_board r declared
