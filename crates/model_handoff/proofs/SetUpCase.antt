-- What set-up leaves is one handoff.
use Rattle.std.{proofs.Common.{◌≡◌, true, false, not, List, [], ◌∷◌, Option, ap, arith}, specs.{Prelude.map, Option.option_map_or}}
use Rattle.lists.{specs.Elements.IsIn, proofs.{EachLemmas.{each_of_map, each_map}, Members.{any_in, in_map, from_map, from_filter, from_flat_map, no_elements}}}
use Rattle.model_registers.specs.{Registers.File, EndpointTable.{BaseAddress, endpoint_reset}, Declarations.{Region, Endpoint}, CopiedFiles.shape_of, Decoding.{space_of, base_address, opens_space, command_word, is_open}, Apertures.Apertures}
use Rattle.model_board.{specs.{Paths.Path, Board.{Decl, endpoint, bridge, Board, IsBoard, has_multifunction_bit}, Lawful.{IsLawfulDecl, HasLawfulDecls}, Ports.file_at, Routing.{row_of, routing}, State.BoardFunction}, proofs.StateRows.state_rows}
use Rattle.model_set_up.{specs.{PlacedRegions.{PlacedRegion, placed}, SetUp.{command_of, first_of, bridge_values, set_up_file, set_up_state}}, proofs.{DeclaredRows.one_row_per_region_or_window, Holders.self_space, LawfulPlacement.layout_is_lawful, SetUpNumbers.set_up_has_numbers, SetUpRegisters.endpoint_opens, UniqueClaimant.left}}
use Rattle.model_findings.{specs.{OpenRegions.{region_now, closed_of, closed_regions}, Orderly.IsStateOfBoard}, proofs.{Found.numbers_of_board, Witnesses.problems_are_real_and_complete, Placing.regions_placed, SetUpPasses.set_up_passes_the_audit}}
use Rattle.model_guests.proofs.TablePlaces.{Alike, alike_tables}
use Rattle.model_handoff.{specs.{Handoffs.{declared_cells, is_given}, Regions.closed_given, SetUpCase.{SetUpIsHandoff, SetUpIsInOrder, SetUpCanBeGiven, SetUpPlaces, SetUpAddresses}}, proofs.{Shapes.{endpoint_shape, bridge_shape}, Standing.found}}

state_is : (b : Board) (a : Apertures) → IsBoard b → HasLawfulDecls b → IsStateOfBoard (set_up_state b a).functions
state_is b a board decls = grind (arith, state_rows)

-- with the cells that it has at reset, but for its routing registers
pub alike : (b : Board) (a : Apertures) (p : Path) (d : Endpoint) → IsLawfulDecl (endpoint d) → Alike (endpoint_reset d false) (set_up_file b a p (endpoint d))
alike b a p d lawful = alike_tables d (has_multifunction_bit b p) (command_of d) (first_of b a p) lawful.regions.each

shape_is : (b : Board) (a : Apertures) (p : Path) (d : Decl) → shape_of (set_up_file b a p d) ≡ shape_of (declared_cells d)
shape_is b a p (endpoint d) = endpoint_shape d (has_multifunction_bit b p) (command_of d) (first_of b a p)
shape_is b a p (bridge d) = bridge_shape d (has_multifunction_bit b p) (bridge_values b a p)

pub set_up_is_handoff : SetUpIsHandoff
set_up_is_handoff b a board decls = grind (arith, state_is, each_of_map, each_map, shape_is, state_rows)

pub set_up_is_in_order : SetUpIsInOrder
set_up_is_in_order b a few can = (problems_are_real_and_complete (set_up_state b a).functions).0 (set_up_passes_the_audit b a few can)

pub set_up_addresses : SetUpAddresses
set_up_addresses b a board few = (numbers_of_board b board (set_up_state b a).functions (set_up_has_numbers b a few)).1

-- ---- regions

maps_at : {A B C : Type 0} (f : B → C) (h : A → B) (g : A → C) (xs : List A) → map f (map h xs) ≡ map g xs → (x : A) → IsIn x xs → f (h x) ≡ g x
maps_at f h g [] e x m = absurd m
maps_at f h g (y ∷ ys) e x m = grind (arith, maps_at f h g ys)

opens_own : (b : Board) (a : Apertures) (p : Path) (d : Endpoint) (r : Region) → IsIn r d.regions → is_open (set_up_file b a p (endpoint d)) (space_of r.kind) ≡ true
opens_own b a p d r m = grind (arith, endpoint_opens, any_in, self_space)

pub set_up_places : SetUpPlaces
set_up_places b a can p d row r m =
    let fs : List BoardFunction = (set_up_state b a).functions in
    let file : File = set_up_file b a p (endpoint d) in
    let f : BoardFunction = left b a (record { path = p; decl = endpoint d }) in
    let is : file_at fs p ≡ file = ap (λ (o : Option BoardFunction). option_map_or (λ (g : BoardFunction). g.file) o []) (found fs (state_is b a can.places can.declarations) f (in_map (left b a) (record { path = p; decl = endpoint d }) b row)) in
    let placed_there : region_now p (base_address file r) ≡ placed b a p r =
    maps_at (region_now p) (base_address file) (placed b a p) d.regions
    (regions_placed b a can (layout_is_lawful b a can.places can.declarations can.room) (one_row_per_region_or_window b a can.places can.declarations) p (endpoint d) row) r m in grind (arith, opens_own b a p d r m)

module _ (b : Board) (a : Apertures) where
  none_closed : (p : Path) (d : Decl) (q : PlacedRegion) → IsIn q (closed_of (row_of (left b a (record { path = p; decl = d })))) → ⊥
  none_closed p (bridge d) q m = m
  none_closed p (endpoint d) q m = of_base (from_map (region_now p) q (map (base_address file) d.regions) passed.0)
    where
      file : File
      file = set_up_file b a p (endpoint d)

      passed : IsIn q (map (region_now p) (map (base_address (set_up_file b a p (endpoint d))) d.regions)) × (not (opens_space (command_word (set_up_file b a p (endpoint d))) q.space) ≡ true)
      passed = from_filter (λ (x : PlacedRegion). not (opens_space (command_word (set_up_file b a p (endpoint d))) x.space)) q (map (region_now p) (map (base_address (set_up_file b a p (endpoint d))) d.regions)) m

      of_region : (c : BaseAddress) → q ≡ region_now p c → (r : Region) × IsIn r d.regions × (c ≡ base_address (set_up_file b a p (endpoint d)) r) → ⊥
      of_region c e (r, k, i) = grind (arith, opens_own b a p d r k, passed)

      of_base : (c : BaseAddress) × IsIn c (map (base_address (set_up_file b a p (endpoint d))) d.regions) × (q ≡ region_now p c) → ⊥
      of_base (c, k, e) = of_region c e (from_map (base_address (set_up_file b a p (endpoint d))) c d.regions k)

  nothing_closed : (q : PlacedRegion) → IsIn q (closed_regions (routing (set_up_state b a).functions)) → ⊥
  nothing_closed q m = grind (arith, from_flat_map, none_closed, from_map)

pub set_up_can_be_given : SetUpCanBeGiven
set_up_can_be_given w few can = record {
  order = set_up_is_in_order w.board w.apertures few can;
  none_closed = no_elements (closed_given w (set_up_state w.board w.apertures))
      (λ q m. nothing_closed w.board w.apertures q (from_filter (λ (x : PlacedRegion). is_given w x.path) q (closed_regions (routing (set_up_state w.board w.apertures).functions)) m).0);
}
