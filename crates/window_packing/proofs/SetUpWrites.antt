-- All settings of a numbered board, written in path order, leave the state of set-up.
use Rattle.std.{proofs.{Common.{◌≡◌, ◌+◌, ◌<◌, ◌≤◌, inl, inr, true, false, ◌&&◌, List, [], ◌∷◌, ◌++◌, refl, sym, ap, ap₂, ◌∙◌, subst, arith, append_assoc, append-nil}, lemmas.{List.map-append, Bool.ne_eqb}}, specs.Prelude.{map, count_by}}
use Rattle.lists.{specs.Elements.{Each, EachPair, IsIn}, proofs.{Members.{each_in, each_from, any_in, in_front, in_back}, EachLemmas.{each_of_map, pairs_after}, Tests.and_true}}
use Rattle.model_registers.{specs.{Cell.{Cell, written}, Registers.{Place, place_eq, File, cell_at, changed}, Declarations.{Bridge, Endpoint}, DeclarationRules.IsConfigBlock, BridgeTable.{BridgeValues, bridge_file}, Apertures.Apertures}, proofs.RegisterFiles.place_same}
use Rattle.model_board.{specs.{Paths.{Path, path_eq, path_before, is_ancestor_of}, Board.{Board, Row, Decl, endpoint, bridge, is_bridge, is_bridge_at, has_multifunction_bit}, BusNumbers.{secondary, subordinate, Enumerates}, State.{BoardFunction, State, row_at}, AtReset.board_at}, proofs.{StateRows.rows_of, PlacesLaw.before_apart, PathOrder.exclusive, PathEnds.{path_self, path_eq-sym}, BusNumbers.{bridges, at, count_three, counted}}}
use Rattle.model_set_up.{specs.{Reach.address_of, SetUp.{first_of, set_up_file, set_up_state}, SetUpWrites.{FunctionProgram, windows_of, writes_of, Plan, planned}, Scanning.{board_numbers, numbered_file, numbered_state, IsNumbered}, UniqueClaimant.CanBePlaced}, proofs.PlacedRegions.lawful_decl}
use Rattle.host_bridge.specs.HostState.{HostState, with_functions}
use Rattle.window_packing.{specs.WordWrites.{WordWrite, after_words, after_settings, words_of}, proofs.{FileWrites.file_after, BridgeWrites.bridge_written, EndpointWrites.endpoint_written, PlacedBases.bases_fit, BoardWrites.{HoldsNumbers, KeepsNumbers, words_at}}}

-- ---- cells that a write leaves

change_elsewhere : (f : Cell → Cell) (p q : Place) (file : File) → place_eq p q ≡ false → cell_at (changed f p file) q ≡ cell_at file q
change_elsewhere f p q [] h = refl
change_elsewhere f p q (e ∷ es) h = grind (arith, place_same, change_elsewhere f p q es h)

-- ---- bus numbers stay

all_keep : (e : Endpoint) (ws : List WordWrite) → Each (KeepsNumbers (endpoint e)) ws
all_keep e [] = tt
all_keep e (w ∷ ws) = ((λ k. cc), all_keep e ws)

words_keep : (b : Board) (a : Apertures) (p : Path) (d : Decl) → Each (KeepsNumbers d) (words_of (writes_of b a p d))
words_keep b a p (endpoint e) = all_keep e (words_of (writes_of b a p (endpoint e)))
words_keep b a p (bridge e) = grind (arith, change_elsewhere, ne_eqb)

-- ---- bus numbers fit their registers

record Small (b : Board) (p : Path) : Type 0 where
  first : secondary b p < 256
  last : subordinate b p < 256

numbers_small : (b : Board) → Enumerates b → (p : Path) → is_bridge_at b p ≡ true → Small b p
numbers_small b few p h =
    let parts : bridges (λ x. path_before x p) b + bridges (at p) b + bridges (λ x. is_ancestor_of p x) b ≤ bridges (λ x. true) b =
    count_three (λ x. path_before x p) (at p) (λ x. is_ancestor_of p x) (λ x. true) (λ x. exclusive x p) b in
    let whole : bridges (λ x. true) b ≡ count_by (λ r. is_bridge r.decl) b = λ i. count_by (λ r. and_true (is_bridge r.decl) i) b in
    let one : 1 ≤ bridges (at p) b = counted b p h in
    record { first = omega (arith, few); last = omega (arith, few) }

-- ---- lists in two parts

before_one : {A : Type 0} (R : A → A → Type 0) (xs : List A) (y : A) (ys : List A) → EachPair R (xs ++ y ∷ ys) → (x : A) → IsIn x xs → R x y
before_one R [] y ys h x m = absurd m
before_one {A} R (z ∷ xs) y ys h x (inl e) = subst (λ (w : A). R w y) (sym e) (each_in (R z) y (xs ++ y ∷ ys) h.0 (in_back y xs (y ∷ ys) (inl refl)))
before_one R (z ∷ xs) y ys h x (inr m) = before_one R xs y ys h.1 x m

-- ---- one function after the other

module _ (b : Board) (a : Apertures) (can : CanBePlaced b a) (few : Enumerates b) where
  abbrev set_up : Row → BoardFunction
  set_up r = record { path = r.path; decl = r.decl; file = set_up_file b a r.path r.decl }

  abbrev numbered : Row → BoardFunction
  numbered r = record { path = r.path; decl = r.decl; file = numbered_file b (board_numbers b) r.path r.decl }

  abbrev setting : Row → FunctionProgram
  setting r = record { at = address_of b r.path; writes = writes_of b a r.path r.decl }

  bridge_there : (r : Row) → IsIn r b → is_bridge r.decl ≡ true → is_bridge_at b r.path ≡ true
  bridge_there r m h = any_in (λ (s : Row). is_bridge s.decl && path_eq s.path r.path) r b m (rw h (path_self r.path))

  holds_routed : (d : Bridge) (p : Path) (r : BridgeValues) → r.secondary ≡ secondary b p → r.subordinate ≡ subordinate b p → Small b p → HoldsNumbers b (record { path = p; decl = bridge d; file = bridge_file d (has_multifunction_bit b p) r })
  holds_routed d p r e f small k = grind arith

  set_up_holds : (p : Path) (d : Decl) → (is_bridge d ≡ true → Small b p) → HoldsNumbers b (record { path = p; decl = d; file = set_up_file b a p d })
  set_up_holds p d h = grind (arith, holds_routed)

  numbered_holds : (p : Path) (d : Decl) → (is_bridge d ≡ true → Small b p) → HoldsNumbers b (record { path = p; decl = d; file = numbered_file b (board_numbers b) p d })
  numbered_holds p d h = grind (arith, holds_routed)

  small_at : (r : Row) → IsIn r b → is_bridge r.decl ≡ true → Small b r.path
  small_at r m h = numbers_small b few r.path (bridge_there r m h)

  -- the words of a function, written over its numbered cells
  own_file : (r : Row) → IsIn r b → (d : Decl) → r.decl ≡ d → file_after (words_of (writes_of b a r.path d)) (numbered_file b (board_numbers b) r.path d) ≡ set_up_file b a r.path d
  own_file r m (endpoint d) e =
      let lawful = lawful_decl b can.declarations r d m e in
      endpoint_written d (each_from (λ k. 0x34 ≤ k.offset) d.blocks (λ k i. (each_in IsConfigBlock k d.blocks lawful.config_blocks i).begins)) lawful.regions (has_multifunction_bit b r.path) (first_of b a r.path) (bases_fit b a can r d m e)
  own_file r m (bridge d) e = bridge_written d (has_multifunction_bit b r.path) (board_numbers b r.path) (windows_of b a r.path)

  one_setting : (done : Board) (r : Row) (todo : Board) → b ≡ done ++ r ∷ todo
      → after_words (address_of b r.path) (words_of (writes_of b a r.path r.decl)) (map set_up done ++ numbered r ∷ map numbered todo) ≡ map set_up done ++ set_up r ∷ map numbered todo
  one_setting done r todo split =
      words_at b can.places (map set_up done) (map numbered todo) r.path r.decl
      (any_in (λ (s : Row). path_eq s.path r.path) r b there (path_self r.path))
      (map-append row_at (map set_up done) (record { path = r.path; decl = r.decl; file = [] } ∷ map numbered todo)
      ∙ ap₂ (λ (xs ys : List Row). xs ++ r ∷ ys) (rows_of (set_up_file b a) done) (rows_of (numbered_file b (board_numbers b)) todo) ∙ sym split)
      (each_of_map (λ (g : BoardFunction). path_eq g.path r.path ≡ false) set_up done (each_from (λ (x : Row). path_eq x.path r.path ≡ false) done
      (λ x m. before_apart x.path r.path (before_one (λ (x y : Row). path_before x.path y.path ≡ true) done r todo order x m))))
      (each_of_map (λ (g : BoardFunction). path_eq g.path r.path ≡ false) numbered todo (each_from (λ (x : Row). path_eq x.path r.path ≡ false) todo
      (λ x m. path_eq-sym x.path r.path ∙ before_apart r.path x.path (each_in (λ (y : Row). path_before r.path y.path ≡ true) x todo (pairs_after (λ (x y : Row). path_before x.path y.path ≡ true) done r todo order) m))))
      (each_of_map (HoldsNumbers b) set_up done (each_from (λ (x : Row). HoldsNumbers b (set_up x)) done (λ x m. set_up_holds x.path x.decl (small_at x (whole x (in_front x done (r ∷ todo) m))))))
      (each_of_map (HoldsNumbers b) numbered todo (each_from (λ (x : Row). HoldsNumbers b (numbered x)) todo (λ x m. numbered_holds x.path x.decl (small_at x (whole x (in_back x done (r ∷ todo) (inr m)))))))
      (words_of (writes_of b a r.path r.decl)) (words_keep b a r.path r.decl) (numbered_file b (board_numbers b) r.path r.decl) (numbered_holds r.path r.decl (small_at r there))
      ∙ ap (λ (file : File). map set_up done ++ record { path = r.path; decl = r.decl; file = file } ∷ map numbered todo) (own_file r there r.decl refl)
    where
      whole : (x : Row) → IsIn x (done ++ r ∷ todo) → IsIn x b
      whole x m = subst (IsIn x) (sym split) m

      there : IsIn r b
      there = whole r (in_back r done (r ∷ todo) (inl refl))

      order : EachPair (λ (x y : Row). path_before x.path y.path ≡ true) (done ++ r ∷ todo)
      order = subst (EachPair (λ (x y : Row). path_before x.path y.path ≡ true)) split can.places.in_order

  pub settings_written : (done todo : Board) → b ≡ done ++ todo → after_settings (map setting todo) (map set_up done ++ map numbered todo) ≡ map set_up b
  settings_written done [] split = append-nil (map set_up done) ∙ ap (map set_up) (sym (split ∙ append-nil done))
  settings_written done (r ∷ rs) split = grind (arith, one_setting, append_assoc, map-append, settings_written (done ++ r ∷ []) rs)

-- ---- the whole host

pub plan_written : (h after : HostState) (plan : Plan) → IsNumbered h.state → CanBePlaced (board_at h.state.functions) h.apertures → plan ≡ planned (board_at h.state.functions) h.apertures
    → after ≡ with_functions (after_settings plan.settings h.state.functions) h → after ≡ record h { state = set_up_state (board_at h.state.functions) h.apertures }
plan_written h after plan numbered can is written =
    let b = board_at h.state.functions in
    let a = h.apertures in
    let state : h.state ≡ numbered_state b = numbered.registers in
    let functions : after_settings plan.settings h.state.functions ≡ (set_up_state b a).functions =
    ap₂ after_settings (ap (λ (p : Plan). p.settings) is) (ap (λ (s : State). s.functions) state) ∙ settings_written b a can numbered.few [] b refl in
    written ∙ (λ i. record { state = record { functions = functions i; latch = (state i).latch }; apertures = a })
