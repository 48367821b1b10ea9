-- Functions of which nothing but what their cells hold is other than it is declared.
use Rattle.std.{proofs.{Common.{◌≡◌, ℕ, zero, suc, ◌/◌, Bool, List, [], ◌∷◌, ◌++◌, false, Some, Option, refl, sym, subst, arith}, lemmas.List.map-append}, specs.Prelude.{map, flat_map}}
use Rattle.lists.specs.Elements.{Each, EachPair}
use Rattle.model_registers.specs.{Cell.Cell, Registers.{Place, after, PlacedCell, File, cell_at, field}, Declarations.{IoDecode, PrefDecode, Region, Endpoint, Bridge}, EndpointTable.{region_cells, endpoint_file, endpoint_reset}, BridgeTable.{Window, BridgeValues, io_cells, pref_cells, bridge_file, bridge_reset}, CopiedFiles.{shape_of, agreed_file}}
use Rattle.model_board.specs.{Paths.Path, Board.{Decl, endpoint, bridge, Board}, State.BoardFunction}
use Rattle.model_guests.{specs.AgreedBoard.agreed_function, proofs.{AgreedChanges.agreed_by, DistinctPlaces.{Apart, HasDistinctPlaces}, FoundFiles.shape_places, SlotPlaces.IsFileOf, TablePlaces.found_entries}}
use Rattle.model_handoff.{specs.Handoffs.HasDeclaredShape, proofs.{Agreement.distinct_left, Functions.Facts}}

-- ---- tables with other values

field_shape : (p : Place) (k v w m c : ℕ) → shape_of (field p k v m c) ≡ shape_of (field p k w m c)
field_shape p zero v w m c = refl
field_shape p (suc k) v w m c = grind (arith, field_shape (after p) k (v / 256) (w / 256) (m / 256) (c / 256))

shape_append : (f g : File) → shape_of (f ++ g) ≡ shape_of f ++ shape_of g
shape_append f g = map-append (λ (e : PlacedCell). record e { cell = record e.cell { value = 0 } }) f g

regions_shape : (bases : Region → ℕ) (rs : List Region) → shape_of (flat_map (region_cells bases) rs) ≡ shape_of (flat_map (region_cells (λ r. 0)) rs)
regions_shape bases [] = refl
regions_shape bases (r ∷ rs) = grind (arith, shape_append, field_shape, regions_shape bases rs)

pub endpoint_shape : (d : Endpoint) (m : Bool) (command : ℕ) (bases : Region → ℕ) → shape_of (endpoint_file d m command bases) ≡ shape_of (endpoint_reset d false)
endpoint_shape d m command bases = grind (arith, shape_append, regions_shape)

io_shape : (x : IoDecode) (s t : Window) → shape_of (io_cells x s) ≡ shape_of (io_cells x t)
io_shape x s t = grind arith

pref_shape : (x : PrefDecode) (s t : Window) → shape_of (pref_cells x s) ≡ shape_of (pref_cells x t)
pref_shape x s t = grind arith

pub bridge_shape : (d : Bridge) (m : Bool) (r : BridgeValues) → shape_of (bridge_file d m r) ≡ shape_of (bridge_reset d false)
bridge_shape d m r = grind (arith, shape_append, io_shape, pref_shape)

-- ---- files that are put in, beneath guests' copies

abbrev bare : Cell → Cell
bare c = record c { value = 0 }

bare_at : (p : Place) (file : File) → cell_at (shape_of file) p ≡ bare (cell_at file p)
bare_at p [] = refl
bare_at p (e ∷ es) = grind (arith, bare_at p es)

agreed_entries : (left own : File) (shape : File) → shape_of left ≡ shape → Each (λ (e : PlacedCell). cell_at (shape_of own) e.place ≡ e.cell) shape → shape_of (agreed_file left own) ≡ shape
agreed_entries [] own shape same found = grind arith
agreed_entries (e ∷ es) own shape same found = grind (arith, agreed_entries es own, bare_at)

agreed_shape : (left own : File) → shape_of own ≡ shape_of left → HasDistinctPlaces left → shape_of (agreed_file left own) ≡ shape_of left
agreed_shape left own same distinct =
    let apart : HasDistinctPlaces (shape_of left) = subst (λ (ps : List Place). EachPair Apart ps) (sym (shape_places left)) distinct in
    agreed_entries left own (shape_of left) refl
    (subst (λ (f : File). Each (λ (e : PlacedCell). cell_at f e.place ≡ e.cell) (shape_of left)) (sym same) (found_entries (shape_of left) apart))

module _ (b : Board) (f : BoardFunction) (is : Facts b f) (h : HasDeclaredShape f) where
  with_shape : (own : File) → IsFileOf shape_of b f.path own → (d : Decl) → f.decl ≡ d → HasDeclaredShape (agreed_by (Some own) f)
  with_shape own file (bridge d) e = grind arith
  with_shape own file (endpoint d) e = grind (arith, agreed_shape f.file own, distinct_left d)

  pub shape_with : (o : Option File) → ((own : File) → o ≡ Some own → IsFileOf shape_of b f.path own) → HasDeclaredShape (agreed_by o f)
  shape_with o told = grind (arith, with_shape)

-- where all files have the shapes that are declared at their paths
pub shapes_with : (b : Board) (files : Path → Option File) → ((p : Path) (own : File) → files p ≡ Some own → IsFileOf shape_of b p own)
    → (fs : List BoardFunction) → Each (Facts b) fs → Each HasDeclaredShape fs → Each HasDeclaredShape (map (agreed_function files) fs)
shapes_with b files told [] is h = tt
shapes_with b files told (f ∷ fs) is h = (shape_with b f is.0 h.0 (files f.path) (told f.path), shapes_with b files told fs is.1 h.1)
