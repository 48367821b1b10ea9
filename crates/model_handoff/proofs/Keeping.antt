-- What guests can't change of a handoff: its board, its routing registers, what configuration cycles reach, and what an
-- audit tells.
use Rattle.std.{proofs.{Common.{◌≡◌, ℕ, Bool, true, false, ◌&&◌, List, [], ◌∷◌, ◌++◌, Option, refl, sym, ap, ap₂, ◌∙◌, subst, arith, arith}, lemmas.Bool.Decides.nat_tests}, specs.{Prelude.{map, find}, Option.option_map}}
use Rattle.lists.{specs.Elements.Each, proofs.{EachLemmas.{each_both, each_map, each_of_map}, Tests.and_false, Members.flat_map_map}}
use Rattle.model_registers.specs.{Registers.{config, File, cell_at}, Declarations.Endpoint, CopiedFiles.agreed_file}
use Rattle.model_board.{specs.{Paths.{Part, Path}, Board.{Decl, endpoint, bridge, Row, Board, is_bridge}, AtReset.board_at, BusNumbers.{secondary, subordinate}, Cycles.{secondary_register, subordinate_register, takes, is_route, BusAddress, reached}, Routing.routing, RoutingLaws.{is_routing_register, HasSameRouting}, State.{BoardFunction, State, row_at}}, proofs.Routing.routing_of_change}
use Rattle.model_findings.{specs.{Found.{current_bdf, path_reached}, Problems.numbering_problems}, proofs.Witnesses.problems_are_real_and_complete}
use Rattle.model_guests.{specs.{Guests.{GuestsNow, file_of}, AgreedBoard.{agreed_function, state_over}, Seated.IsSeatedGuest}, proofs.{AgreedChanges.agreed_by, AgreedFiles.agreed_kept}}
use Rattle.model_handoff.{specs.AgreementLaws.{KeepsBoard, KeepsBridges, KeepsNumbers, KeepsRouting, KeepsReach, KeepsAddresses, KeepsProblems, StaysInOrder}, proofs.Functions.{Facts, facts, bridge_stays, path_stays, decl_stays, row_stays}}

-- ---- the same rows

pub rows_stay : (files : Path → Option File) (fs : List BoardFunction) → map row_at (map (agreed_function files) fs) ≡ map row_at fs
rows_stay files [] = refl
rows_stay files (f ∷ fs) = ap₂ (λ (x : Row) (xs : Board). x ∷ xs) (row_stays (files f.path) f) (rows_stay files fs)

pub keeps_board : KeepsBoard
keeps_board s gs = rows_stay (file_of gs) s.functions

-- ---- routing registers

-- an endpoint's are among those of which a guest has copies
endpoint_routes : (d : Endpoint) (left own : File) (n : ℕ) → is_routing_register (endpoint d) n ≡ true → (cell_at left (config n)).value ≡ (cell_at (agreed_file left own) (config n)).value
endpoint_routes d left own n routes = grind (arith, agreed_kept, nat_tests)

module _ (b : Board) (gs : GuestsNow) (all : Each (IsSeatedGuest b) gs) where
  abbrev pub now_of : BoardFunction → BoardFunction
  now_of = agreed_function (file_of gs)

  function_routes : (f : BoardFunction) → Facts b f → HasSameRouting f (now_of f)
  function_routes f facts = grind (arith, path_stays (file_of gs f.path) f, decl_stays (file_of gs f.path) f, by_decl f.decl refl)
    where
      of_endpoint : (d : Endpoint) (own : Option File) (n : ℕ) → is_routing_register (endpoint d) n ≡ true → (cell_at f.file (config n)).value ≡ (cell_at (agreed_by own f).file (config n)).value
      of_endpoint d own n h = grind (arith, endpoint_routes d)

      by_decl : (d : Decl) → f.decl ≡ d → (n : ℕ) → is_routing_register f.decl n ≡ true → (cell_at f.file (config n)).value ≡ (cell_at (now_of f).file (config n)).value
      by_decl (endpoint d) e n h = of_endpoint d (file_of gs f.path) n (subst (λ (x : Decl). is_routing_register x n ≡ true) e h)
      by_decl (bridge d) e n h = ap (λ (g : BoardFunction). (cell_at g.file (config n)).value) (sym (bridge_stays b gs all f facts (ap is_bridge e)))

  same_routing : (fs : List BoardFunction) → Each (Facts b) fs → routing (map now_of fs) ≡ routing fs
  same_routing fs facts = grind (arith, routing_of_change, each_map, function_routes)

pub keeps_routing : KeepsRouting
keeps_routing s board gs seated = same_routing (board_at s.functions) gs seated.guests s.functions (facts s.functions board)

-- ---- configuration cycles

module _ (g : BoardFunction → BoardFunction) (paths : (f : BoardFunction) → (g f).path ≡ f.path) (decls : (f : BoardFunction) → (g f).decl ≡ f.decl) where
  abbrev Stays : BoardFunction → Type 0
  Stays f = is_bridge f.decl ≡ true → g f ≡ f

  -- a search for a bridge
  find_bridge : (t : BoardFunction → Bool) → ((f : BoardFunction) → is_bridge f.decl ≡ false → t f ≡ false) → (fs : List BoardFunction) → Each Stays fs → find t (map g fs) ≡ find t fs
  find_bridge t only [] stays = refl
  find_bridge t only (f ∷ fs) stays = grind (arith, find_bridge t only fs)

  -- a search that looks at paths
  pub find_path : (t u : BoardFunction → Bool) → ((f : BoardFunction) → t (g f) ≡ u f) → (fs : List BoardFunction) → find t (map g fs) ≡ option_map g (find u fs)
  find_path t u same [] = refl
  find_path t u same (f ∷ fs) = grind (arith, find_path t u same fs)

  module _ (fs : List BoardFunction) (stays : Each Stays fs) where
    abbrev now : List BoardFunction
    now = map g fs

    takes_stays : (bus : Path) (n : ℕ) (p : Part) (ends : Bool) → takes now bus n p ends ≡ takes fs bus n p ends
    takes_stays bus n p ends = grind (arith, find_bridge, and_false)

    route_stays : (n : ℕ) (above p : Path) → is_route now n above p ≡ is_route fs n above p
    route_stays n above [] = refl
    route_stays n above (p ∷ []) = refl
    route_stays n above (p ∷ q ∷ []) = takes_stays above n p true
    route_stays n above (p ∷ q ∷ r ∷ ps) = ap₂ (λ (x y : Bool). x && y) (takes_stays above n p false) (route_stays n (above ++ p ∷ []) (q ∷ r ∷ ps))

    pub reach_stays : (at : BusAddress) → reached now at ≡ option_map g (reached fs at)
    reach_stays at = grind (arith, find_path, route_stays at.bus)

    pub address_stays : (p : Path) → current_bdf now p ≡ current_bdf fs p
    address_stays p = grind (arith, find_bridge)

    found_path_stays : (p : Path) → path_reached now p ≡ path_reached fs p
    found_path_stays p = grind (arith, address_stays p, reach_stays (current_bdf fs p))

    pub numbering_stays : numbering_problems now ≡ numbering_problems fs
    numbering_stays = grind (arith, flat_map_map, address_stays, found_path_stays)

module _ (s : State) (gs : GuestsNow) where
  now_path : (f : BoardFunction) → (agreed_function (file_of gs) f).path ≡ f.path
  now_path f = path_stays (file_of gs f.path) f

  now_decl : (f : BoardFunction) → (agreed_function (file_of gs) f).decl ≡ f.decl
  now_decl f = decl_stays (file_of gs f.path) f

pub keeps_bridges : KeepsBridges
keeps_bridges s board gs seated =
    each_map (Facts (board_at s.functions)) (λ f. is_bridge f.decl ≡ true → agreed_function (file_of gs) f ≡ f) s.functions (bridge_stays (board_at s.functions) gs seated.guests) (facts s.functions board)

module _ (b : Board) (s : State) (gs : GuestsNow) (all : Each (IsSeatedGuest b) gs) where
  abbrev Holds : BoardFunction → Type 0
  Holds f = (secondary_register f.file ≡ secondary b f.path) × (subordinate_register f.file ≡ subordinate b f.path)

  abbrev Numbered : BoardFunction → Type 0
  Numbered f = is_bridge f.decl ≡ true → Holds f

  numbered : (f : BoardFunction) → Facts b f × Numbered f → Numbered (agreed_function (file_of gs) f)
  numbered f h k =
      let e : is_bridge f.decl ≡ true = ap is_bridge (sym (now_decl s gs f)) ∙ k in
      subst Holds (sym (bridge_stays b gs all f h.0 e)) (h.1 e)

  numbers_stay : (fs : List BoardFunction) → Each (Facts b) fs → Each Numbered fs → Each Numbered (map (agreed_function (file_of gs)) fs)
  numbers_stay fs facts numbers =
      each_of_map Numbered (agreed_function (file_of gs)) fs
      (each_map (λ f. Facts b f × Numbered f) (λ f. Numbered (agreed_function (file_of gs) f)) fs numbered (each_both (Facts b) Numbered fs facts numbers))

pub keeps_numbers : KeepsNumbers
keeps_numbers s board gs seated has = grind (arith, keeps_board, numbers_stay, facts)

pub keeps_reach : KeepsReach
keeps_reach s board gs seated = grind (arith, reach_stays, now_path, now_decl, keeps_bridges)

pub keeps_addresses : KeepsAddresses
keeps_addresses s board gs seated = grind (arith, address_stays, now_path, now_decl, keeps_bridges)

pub keeps_problems : KeepsProblems
keeps_problems s board gs seated = grind (arith, keeps_routing, numbering_stays, now_path, now_decl, keeps_bridges)

pub stays_in_order : StaysInOrder
stays_in_order s board gs seated order =
    (problems_are_real_and_complete (state_over s gs).functions).0 (keeps_problems s board gs seated ∙ (problems_are_real_and_complete s.functions).1 order)
