-- A function of the board that no guest of a world that is kept has: the checks in their order, and how it is kept in a slot.
use Rattle.std.{proofs.{Common.{◌≡◌, ◌≤◌, ◌+◌, ℕ, Bool, true, false, not, ◌||◌, cond, List, [], ◌∷◌, Some, None, Option, refl, sym, ap, ◌∙◌, subst, arith, rules}, lemmas.Bool.lt-leb}, specs.{Prelude.{find, map, is_some, nat_le, option_map, slice_get, Ok, Err, MatchOption, ⊤}, List.list_any, Option.option_map_or}}
use Rattle.lists.proofs.{FirstFound.found_passes, Indices.map_at}
use Rattle.model_registers.specs.{Registers.{File, config, number}, Declarations.{Region as Declared, Endpoint, HasLawfulRegions}, DeclarationRules.IsLawfulEndpoint, EndpointTable.{BaseAddress, opened}, Decoding.{Function, base_address, command_word, opens_space, space_of}}
use Rattle.model_board.{specs.{Paths.Path, Board.{Row, Board, IsBoard, Decl, endpoint, bridge}, AtReset.board_at, Ports.file_at, Routing.{regions, windows, ranges_of}, Windows.Window, State.{BoardFunction, State}}, proofs.PathOrder.path_same}
use Rattle.model_findings.specs.Orderly.{IsStateOfBoard}
use Rattle.model_guests.{specs.{Slots.reset_function, Text.Text, World.declared, Guests.{GuestsNow, file_of, function_in}, WorldNow.{WorldNow, board_state}}, proofs.CopiesNeverRise.declared_lawful}
use Rattle.model_handoff.{specs.{ViewLaws.sits, Giving.{has_closed_region, give_fault, endpoint_fault}}, proofs.{Keeping.{keeps_board, keeps_routing}, Regions.state_stays, Standing.at_path, Alike.command_at}}
use Rattle.bars.specs.{declared.region.BarWithBase.BarWithBase, Resets.with_no_base, Slots.bases_from}
use Rattle.bridge_forward.specs.{BasesNow.{bases_of, bases_nth}, ByIndex.ranges_told, Lending.as_endpoint, RoutingRows.window_of, declared.by_index.ProgrammedRanges.{ProgrammedRanges, TheVariants.{Regions, Windows}}}
use Rattle.host_bridge.specs.HostState.{HostState}
use Rattle.monitor.{specs.{declared.{guest.{AssignedFunction.AssignedFunction, Guest.Guest}, slots.assign_error.AssignError.TheVariants.{PastSlots, NoEndpoint, HasGuest, SlotTaken, ClosedRegion}}, Beginnings.IsStanding, ByIndex.name_nth, Keeping.{AreGuests, IsHeld, IsKept, IsSlot}, Moves.is_taken, Seatings.{IsEndpointAt, MakesGift, gift_nth, has_index, is_closed_base, is_closed_slot}}, proofs.{Carried.held_carried, Indexed.in_slots, FirstFunctions.{function_of, lawful_there}, MoveSteps.taken_lent, Steps.{GuestAt, kept_nth}, TakenOver.declared_there}}

-- ---- the endpoint at a path

abbrev there_at : State → Path → Option BoardFunction
there_at s p = find (at_path p) s.functions

declared_by : (s : State) (p : Path) (o : Option BoardFunction) → there_at s p ≡ o
    → declared (board_at s.functions) p ≡ option_map (λ (e : Function). e.decl) (option_map_or as_endpoint o None)
declared_by s p o e = declared_there s.functions p ∙ ap (λ (x : Option BoardFunction). option_map (λ (f : Function). f.decl) (option_map_or as_endpoint x None)) e

pub not_there : (s : State) (p : Path) → None ≡ there_at s p → declared (board_at s.functions) p ≡ None
not_there s p e = declared_by s p None (sym e)

pub endpoint_there : (s : State) (p : Path) (i : ℕ) → slice_get s.functions i ≡ there_at s p → (bs : List BaseAddress) → Some (regions bs) ≡ option_map (λ (f : BoardFunction). ranges_of f.file f.decl) (slice_get s.functions i) → IsEndpointAt s p i
endpoint_there s p i at bs ranges = by (slice_get s.functions i) refl ranges
  where
    file_is : (f : BoardFunction) → there_at s p ≡ Some f → file_at s.functions p ≡ f.file
    file_is f e = ap (λ (o : Option BoardFunction). option_map_or (λ (g : BoardFunction). g.file) o []) e

    clash : (x y z : Option Window) → regions bs ≡ windows x y z → ⊥
    clash x y z h = cc

    of : (f : BoardFunction) → slice_get s.functions i ≡ Some f → regions bs ≡ ranges_of f.file f.decl → (d : Decl) → f.decl ≡ d → IsEndpointAt s p i
    of f e k (bridge d) j = absurd (clash _ _ _ (k ∙ ap (ranges_of f.file) j))
    of f e k (endpoint d) j =
        let there : there_at s p ≡ Some f = sym at ∙ e in
        let path : f.path ≡ p = path_same f.path p (found_passes (at_path p) s.functions f there) in
        let file : file_at s.functions p ≡ f.file = file_is f there in
        let same : f ≡ record { path = p; decl = endpoint d; file = file_at s.functions p } = λ n. record { path = path n; decl = j n; file = sym file n } in
        grind (arith, declared_by)

    by : (o : Option BoardFunction) → slice_get s.functions i ≡ o → Some (regions bs) ≡ option_map (λ (f : BoardFunction). ranges_of f.file f.decl) o → IsEndpointAt s p i
    by None e k = cc
    by (Some f) e k = of f e (cc k) f.decl refl

pub lawful_bases : (s : State) → IsStateOfBoard s.functions → (p : Path) (i : ℕ) → IsEndpointAt s p i → HasLawfulRegions (map opened (map with_no_base (bases_nth s.functions i)))
lawful_bases s state p i is =
    lawful_there s i p (function_of is.d) (record {
      lawful = subst (λ (o : Option Endpoint). MatchOption o ⊤ IsLawfulEndpoint) is.declares (declared_lawful (board_at s.functions) state.declarations p);
      there = is.there;
      at_reset = refl;
    })

-- what else stands there is no endpoint
pub bridge_at : (s : State) (p : Path) (i : ℕ) → slice_get s.functions i ≡ there_at s p → (wio wmem wpref : Option Window) → Some (windows wio wmem wpref) ≡ option_map (λ (f : BoardFunction). ranges_of f.file f.decl) (slice_get s.functions i)
    → declared (board_at s.functions) p ≡ None
bridge_at s p i at wio wmem wpref told = grind (arith, declared_by)

abbrev pub AreWindows : ProgrammedRanges → Type 0
AreWindows (Regions slots) = ⊥
AreWindows (Windows wio wmem wpref) = ⊤

pub windows_at : (s : State) (p : Path) (i : ℕ) → slice_get s.functions i ≡ there_at s p → (r : ProgrammedRanges) → AreWindows r → Some (ranges_told r) ≡ option_map (λ (f : BoardFunction). ranges_of f.file f.decl) (slice_get s.functions i)
    → declared (board_at s.functions) p ≡ None
windows_at s p i at (Regions slots) are told = absurd are
windows_at s p i at (Windows wio wmem wpref) are told = bridge_at s p i at (option_map window_of wio) (option_map window_of wmem) (option_map window_of wpref) told

pub none_at : (s : State) (p : Path) (i : ℕ) → slice_get s.functions i ≡ there_at s p → None ≡ option_map (λ (f : BoardFunction). ranges_of f.file f.decl) (slice_get s.functions i) → declared (board_at s.functions) p ≡ None
none_at s p i at told = grind (arith, not_there)

-- ---- who has it

pub in_guests : (s : State) → IsBoard (board_at s.functions) → (i : ℕ) (r : Row) → slice_get (board_at s.functions) i ≡ Some r
    → (ts : List Text) (ws : GuestsNow) (gs : List Guest) → AreGuests s ts ws gs → has_index i gs ≡ sits ws r.path
in_guests s board i r at [] [] [] are = refl
in_guests s board i r at (t ∷ ts) (w ∷ ws) (g ∷ gs) are = grind (arith, in_slots, in_guests s board i r at ts ws gs are.1)
in_guests s board i r at ts ws gs are = absurd are

-- ---- closed regions

pub closed_slots : (command n : ℕ) (slots : List (Option BarWithBase)) → list_any (is_closed_slot command) slots ≡ list_any (is_closed_base command) (bases_from n slots)
closed_slots command n [] = refl
closed_slots command n (None ∷ slots) = closed_slots command (n + 1) slots
closed_slots command n (Some r ∷ slots) = ap (λ t. not (opens_space command (space_of r.decl.kind)) || t) (closed_slots command (n + 1) slots)

closed_bases : (command : ℕ) (file : File) (rs : List Declared) → list_any (is_closed_base command) (map (base_address file) rs) ≡ list_any (λ (r : Declared). not (opens_space command (space_of r.kind))) rs
closed_bases command file [] = refl
closed_bases command file (r ∷ rs) = ap (λ t. not (opens_space command (space_of r.kind)) || t) (closed_bases command file rs)

pub closed_told : (fs : List BoardFunction) (i : ℕ) (f : BoardFunction) → slice_get fs i ≡ Some f → (command : ℕ) → Some command ≡ option_map (λ (g : BoardFunction). number g.file (config 4) 2) (slice_get fs i) → (placed : List (Option BarWithBase)) → bases_from 0 placed ≡ bases_nth fs i
    → list_any (is_closed_slot command) placed ≡ list_any (is_closed_base (command_word f.file)) (bases_of f.decl f.file)
closed_told fs i f at command told placed bases = search (rules, closed_slots)

-- ---- a world that is kept

module _ (w : WorldNow) (h : HostState) (names : List Text) (gs : List Guest) (kept : IsKept w h names gs) (p : Path) where
  pub board_is : board_at h.state.functions ≡ board_at w.handoff.functions
  board_is = ap (λ (s : State). board_at s.functions) kept.agrees ∙ keeps_board w.handoff w.guests

  pub declared_is : declared (board_at h.state.functions) p ≡ declared (board_at w.handoff.functions) p
  declared_is = ap (λ (b : Board). declared b p) board_is

  command_is : command_word (file_at h.state.functions p) ≡ command_word (file_at w.handoff.functions p)
  command_is = ap (λ (s : State). command_word (file_at s.functions p)) kept.agrees ∙ command_at (file_of w.guests) w.handoff.functions p

  module _ (i : ℕ) (is : IsEndpointAt h.state p i) where
    pub closed_is : list_any (is_closed_base (command_word (file_at h.state.functions p))) (map (base_address (file_at h.state.functions p)) is.d.regions) ≡ has_closed_region w.handoff p is.d
    closed_is = search (rules, closed_bases, command_is)

    lawful : IsLawfulEndpoint is.d
    lawful =
        subst (λ (o : Option Endpoint). MatchOption o ⊤ IsLawfulEndpoint) (sym declared_is ∙ is.declares)
        (declared_lawful (board_at w.handoff.functions) kept.lawful.handoff.board.declarations p)

    pub standing_is : IsStanding h.state i p (function_of is.d)
    standing_is = record { lawful = lawful; there = is.there; at_reset = refl }

    -- where the board has the function, the handoff has it
    pub held_is : (held : AssignedFunction) → ((f : Function) → IsStanding h.state i p f → IsHeld h.state p f held) → IsSlot w.handoff (Some p) (reset_function (declared (board_at w.handoff.functions) p)) (Some held)
    held_is held holds =
        subst (λ (o : Option Endpoint). IsSlot w.handoff (Some p) (reset_function o) (Some held)) (sym (sym declared_is ∙ is.declares))
        (held_carried (board_state w) w.handoff (state_stays w.handoff kept.lawful.handoff.board w.guests) kept.lawful.handoff.board
        (sym (keeps_board w.handoff w.guests)) (sym (keeps_routing w.handoff kept.lawful.handoff.board w.guests kept.lawful.seated))
        p (function_of is.d) held (subst (λ (s : State). IsHeld s p (function_of is.d) held) kept.agrees (holds (function_of is.d) standing_is)))

  module _ (j n : ℕ) where
    abbrev fault_by : Bool → Option Endpoint → Option ℕ
    fault_by past o = cond past (Some 303) (endpoint_fault w (gift_nth w p j n) o)

    pub past_assign_error : nat_le 32 n ≡ true → MakesGift w p j n (Err PastSlots)
    past_assign_error e = record { fault = sym (ap (λ t. fault_by t (declared (board_at w.handoff.functions) p)) e); comes = tt }

    within : n ≤ 31 → give_fault w (gift_nth w p j n) ≡ endpoint_fault w (gift_nth w p j n) (declared (board_at w.handoff.functions) p)
    within low = let few : nat_le 32 n ≡ false = lt-leb 32 n (omega arith) in ap (λ t. fault_by t (declared (board_at w.handoff.functions) p)) few

    pub absent_assign_error : n ≤ 31 → declared (board_at h.state.functions) p ≡ None → MakesGift w p j n (Err NoEndpoint)
    absent_assign_error low none = record { fault = sym (within low ∙ ap (endpoint_fault w (gift_nth w p j n)) (sym declared_is ∙ none)); comes = tt }

    module _ (low : n ≤ 31) (i : ℕ) (is : IsEndpointAt h.state p i) where
      abbrev after_path : Bool → Bool → Bool → Option ℕ
      after_path had full closed = cond had (Some 602) (cond full (Some 602) (cond closed (Some 206) None))

      fault_is : (had full closed : Bool) → sits w.guests p ≡ had → is_some (function_in w.guests (name_nth w j) n) ≡ full → has_closed_region w.handoff p is.d ≡ closed
          → give_fault w (gift_nth w p j n) ≡ after_path had full closed
      fault_is had full closed a b c = search (rules, declared_is, within)

      row_is : slice_get (board_at w.handoff.functions) i ≡ Some (record { path = p; decl = endpoint is.d })
      row_is = grind (arith, board_is, map_at)

      had_is : (had : Bool) → has_index i gs ≡ had → sits w.guests p ≡ had
      had_is had e = sym (in_guests w.handoff kept.lawful.handoff.board.places i (record { path = p; decl = endpoint is.d }) row_is names w.guests gs kept.guests) ∙ e

      pub had_assign_error : has_index i gs ≡ true → MakesGift w p j n (Err HasGuest)
      had_assign_error e = record { fault = sym (fault_is true (is_some (function_in w.guests (name_nth w j) n)) (has_closed_region w.handoff p is.d) (had_is true e) refl refl); comes = tt }

      module _ (free : has_index i gs ≡ false) (g : Guest) (there : slice_get gs j ≡ Some g) where
        at : GuestAt w h names gs j g
        at = kept_nth kept there

        pub full_assign_error : is_taken g.slots.items n ≡ true → MakesGift w p j n (Err SlotTaken)
        full_assign_error e =
            record { fault = sym (fault_is false true (has_closed_region w.handoff p is.d) (had_is false free) (sym (taken_lent at refl n) ∙ e) refl); comes = tt }

        module _ (empty : is_taken g.slots.items n ≡ false) where
          empty_is : is_some (function_in w.guests (name_nth w j) n) ≡ false
          empty_is = sym (taken_lent at refl n) ∙ empty

          pub closed_assign_error : list_any (is_closed_base (command_word (file_at h.state.functions p))) (map (base_address (file_at h.state.functions p)) is.d.regions) ≡ true → MakesGift w p j n (Err ClosedRegion)
          closed_assign_error e = record { fault = sym (fault_is false false true (had_is false free) empty_is (sym (closed_is i is) ∙ e)); comes = tt }

          pub made : list_any (is_closed_base (command_word (file_at h.state.functions p))) (map (base_address (file_at h.state.functions p)) is.d.regions) ≡ false → (held : AssignedFunction) → ((f : Function) → IsStanding h.state i p f → IsHeld h.state p f held) → MakesGift w p j n (Ok held)
          made e held holds = record { fault = sym (fault_is false false false (had_is false free) empty_is (sym (closed_is i is) ∙ e)); comes = held_is i is held holds }
