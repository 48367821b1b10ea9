-- A guest's address on the board: where it lands, the claim there, and what is read and written.
use Rattle.std.{proofs.{Common.{◌≡◌, ℕ, ◌+◌, ◌%◌, ◌<◌, Bool, true, List, [], ◌∷◌, Some, Option, slice_get, refl, sym, ap, ap₂, ◌∙◌, subst, arith, None, rules}, lemmas.Option.slice_get_within}, specs.{Prelude.{find, map, IsTrue, option_map, IsSome}, Option.option_map_or}}
use Rattle.lists.{specs.Elements.{EachPair, IsIn}, proofs.{Tests.and_true, Members.each_in, Indices.each_at, EachLemmas.pairs_from_map}}
use Rattle.model_findings.specs.Found.{current_bdf}
use Rattle.model_registers.specs.{Registers.{Place, block, File, read, all_bytes, number}, ByteEnables.IsWidth, OwnCopies.forwarded_byte_enables, Declarations.Region, Decoding.{Space, space_of}, CopiedFiles.{after_reset, agreed_file, places_of}, DeclarationRules.IsLawfulEndpoint}
use Rattle.model_board.specs.{Paths.{Path, path_eq, path_before}, Board.{endpoint, Row, Board, IsBoard}, State.{BoardFunction, row_at, State}, Claims.claim_at, AtReset.board_at, Ports.{claim_reply, file_at}}
use Rattle.model_guests.{specs.{Slots.slot_at, WorldNow.{WorldNow, board_state}, AgreedBoard.with_change_at, Seated.{IsSeat, IsSeatedAt, IsSeatedGuest}, Text.Text}, proofs.{GuestsByName.path_at, DeclaredRows.declared_row, Seats.seats_at, AgreedFiles.shows_file}}
use Rattle.model_handoff.{specs.{Regions.{base_in, opens_region}, RegionLaws.{HasSlot, ReachesOver}}, proofs.{Accesses.reached_is, Keeping.keeps_board, Regions.{hit_reaches_over, region_is_claimed}}}
use Rattle.bars.specs.Hits.{hit_in}
use Rattle.bridge_forward.specs.{declared.bus.BarOffset.BarOffset, Locating.located_claim, Lending.{as_endpoint, endpoint_nth}}
use Rattle.host_bridge.{specs.{ByIndex.{file_nth, with_file_nth, with_reset_nth}, HostState.{HostState, with_functions}, Landings.{IsLanding, IsReached}}, proofs.{Lent.{HasDistinctPaths, distinct_paths}, ByIndex.found_at}}
use Rattle.monitor.{specs.{declared.guest.{AssignedFunction.AssignedFunction, Guest.Guest}, Reaches.LandsIn, ByIndex.{guest_nth, lone_nth, name_nth}}, proofs.{Shown.{board_there, file_named, same_as_left, lawful_at}, Steps.{named, GuestAt, SlotAt, function_there, path_there, slot_nth}}}

-- ---- paths of the board

pub board_distinct : (b : Board) (fs : List BoardFunction) → IsBoard b → map row_at fs ≡ b → HasDistinctPaths fs
board_distinct b fs board rows = distinct_paths fs (pairs_from_map (λ (r s : Row). IsTrue (path_before r.path s.path)) row_at fs (subst (EachPair (λ (r s : Row). IsTrue (path_before r.path s.path))) (sym rows) board.in_order))

-- ---- in a region there are no copies

pub all_handed : (n a : ℕ) (ons : List Bool) → forwarded_byte_enables (block n a) ons ≡ ons
all_handed n a [] = refl
all_handed n a (on ∷ ons) = ap₂ (λ (x : Bool) (xs : List Bool). x ∷ xs) (and_true on) (all_handed n (a + 1) ons)

-- ---- alignment

same_lanes : (a c w : ℕ) → IsWidth w → c % 4 ≡ a % 4 → a % w ≡ 0 → c % w ≡ 0
same_lanes a c w e h k = grind arith

-- ---- a guest's slot of a world that is kept

module _ {w : WorldNow} {h : HostState} {names : List Text} {gs : List Guest} {i : ℕ} {g : Guest} (at : GuestAt w h names gs i g) where
  abbrev pub functions : List BoardFunction
  functions = (board_state w).functions

  abbrev board : Board
  board = board_at w.handoff.functions

  pub seated : IsSeatedGuest (board_at w.handoff.functions) (guest_nth w i)
  seated = each_at (IsSeatedGuest board) w.guests i (guest_nth w i) at.kept.lawful.seated.guests at.there

  pub seat : {n : ℕ} {held : AssignedFunction} → (slot : SlotAt at n held) → IsSeatedAt (board_at w.handoff.functions) slot.p slot.f
  seat {n} slot =
      let one : IsSeat board (path_at (guest_nth w i).paths n) (slot_at (lone_nth w i).slots n) = seats_at board (guest_nth w i).paths (lone_nth w i).slots n seated.seats in
      subst (λ (q : Option Path). IsSeat board q (Some slot.f)) slot.path (subst (IsSeat board (path_at (guest_nth w i).paths n)) slot.function one)

  pub distinct : HasDistinctPaths functions
  distinct = board_distinct board functions at.kept.lawful.handoff.board.places (keeps_board w.handoff w.guests)

  module _ {n : ℕ} {held : AssignedFunction} (slot : SlotAt at n held) where
    -- by the guest's name
    pub named_slot : HasSlot w.guests (name_nth w i) n slot.p slot.f
    named_slot = record { path = path_there at slot; function = function_there at slot }

    abbrev pub left : File
    left = file_at w.handoff.functions slot.p

    abbrev pub on_board : BoardFunction
    on_board = record { path = slot.p; decl = endpoint slot.f.decl; file = agreed_file left slot.f.file }

    pub board_row : slice_get functions held.index ≡ Some on_board
    board_row = search (rules, board_there, file_named, named, seat)

    pub found_on_board : find (λ (f : BoardFunction). path_eq f.path slot.p) functions ≡ Some on_board
    found_on_board = found_at on_board functions held.index distinct board_row

    -- the host has the endpoint, and its cells
    pub held_row : slice_get h.state.functions held.index ≡ Some on_board
    held_row = ap (λ (s : State). slice_get s.functions held.index) at.kept.agrees ∙ board_row

    pub endpoint_held : IsSome (endpoint_nth h.state.functions held.index)
    endpoint_held = subst (λ (o : Option BoardFunction). IsSome (option_map_or as_endpoint o None)) (sym held_row) refl

    -- cycles for its number reach it
    pub reached_held : IsReached h.state.functions held.index
    reached_held = record {
      at = current_bdf w.handoff.functions slot.p;
      reaches = grind (arith, reached_is, named_slot, held_row);
    }

    pub file_held : file_nth h.state.functions held.index ≡ on_board.file
    file_held = ap (λ (o : Option BoardFunction). option_map_or (λ (f : BoardFunction). f.file) o []) held_row

    -- a change of the cells there, and a reset
    pub changed_held : (g : File → File) {new : HostState} → new ≡ with_functions (with_file_nth g held.index h.state.functions) h → new.state ≡ with_change_at g slot.p h.state
    changed_held g is_new = search (rules, held_row)

    pub reset_of_held : {new : HostState} → new ≡ with_functions (with_reset_nth held.index h.state.functions) h → new.state ≡ with_change_at (after_reset slot.f.decl) slot.p h.state
    reset_of_held is_new = search (rules, held_row)

    pub places_same : places_of slot.f.file ≡ places_of left
    places_same = same_as_left w.handoff at.kept.lawful.handoff w.guests slot.p slot.f (seat slot)

    -- what the board shows of the bytes of which the guest has no copy
    pub board_shows : (p : Place) (ons : List Bool) → read on_board.file p (forwarded_byte_enables p ons) ≡ read slot.f.file p (forwarded_byte_enables p ons)
    board_shows p ons = shows_file left slot.f.file places_same p ons

    pub block_shown : (k a width : ℕ) → claim_reply functions width (Some (record { path = slot.p; index = k; offset = a })) ≡ number slot.f.file (block k a) width
    block_shown k a width =
        let ons : List Bool = all_bytes width in
        ap (λ (o : Option BoardFunction). number (option_map_or (λ (f : BoardFunction). f.file) o []) (block k a) width) found_on_board
        ∙ ap (read on_board.file (block k a)) (sym (all_handed k a ons)) ∙ board_shows (block k a) ons ∙ ap (read slot.f.file (block k a)) (all_handed k a ons)

    -- an offset in a region of the function, by its index
    pub claim_by_index : (k off : ℕ) → located_claim functions (Some (record { index = held.index; region = k; offset = off })) ≡ Some (record { path = slot.p; index = k; offset = off })
    claim_by_index k off = ap (option_map (λ (f : BoardFunction). claim_at f.path (hit_in k off))) board_row

    -- a byte of a region, which is open on the board
    pub byte_landing_there : (r : Region) → IsIn r slot.f.decl.regions → (off : ℕ) → off < r.size → IsLanding functions (record { index = held.index; region = r.index; offset = off }) 1
    byte_landing_there r declared off small =
        let opened : opens_region w.handoff slot.p r ≡ true =
        each_in (λ (q : Region). IsTrue (opens_region w.handoff slot.p q)) r slot.f.decl.regions (at.kept.lawful.served (name_nth w i) n slot.p (path_there at slot) slot.f.decl (seat slot).decl) declared in
        let claimed =
        region_is_claimed w.handoff at.kept.lawful.handoff.board at.kept.lawful.order.routes w.guests at.kept.lawful.seated slot.p slot.f.decl
        (declared_row board slot.p slot.f.decl (seat slot).decl) r declared opened off small in
        record {
          space = space_of r.kind;
          address = base_in w.handoff slot.p r + off;
          aligned = omega arith;
          claim = claim_by_index r.index off ∙ sym claimed.first;
          within = slice_get_within functions held.index on_board board_row;
        }

    -- the function is lawful in the handoff
    pub lawful : IsLawfulEndpoint slot.f.decl
    lawful = lawful_at (board_at w.handoff.functions) slot.p slot.f at.kept.lawful.handoff.board.declarations (seat slot)

  -- where an address lands
  module _ {space : Space} {addr : ℕ} {l : ℕ × ℕ × ℕ} (lands : LandsIn g.slots.items space addr l) where
    pub lands_at : SlotAt at l.0 lands.held
    lands_at = slot_nth at lands.there

    reach : ReachesOver w.handoff w.guests lands_at.p lands_at.f space addr (hit_in l.1 l.2)
    reach =
        hit_reaches_over w.handoff at.kept.lawful.handoff.board at.kept.lawful.order.routes w.guests at.kept.lawful.seated at.kept.lawful.served (name_nth w i) l.0 lands_at.p lands_at.f
        (named_slot lands_at) space addr (hit_in l.1 l.2) (sym (lands.decodes lands_at.f lands_at.held.own lands_at.held.regions))

    -- the function by its index
    abbrev pub landed : BarOffset
    landed = record { index = lands.held.index; region = l.1; offset = l.2 }

    pub is_landing : (width : ℕ) → IsWidth width → addr % width ≡ 0 → IsLanding functions landed width
    is_landing width wide whole = record {
      space = space;
      address = base_in w.handoff lands_at.p reach.region + l.2;
      aligned = same_lanes addr (base_in w.handoff lands_at.p reach.region + l.2) width wide reach.lanes whole;
      claim = claim_by_index lands_at l.1 l.2 ∙ sym reach.claimed.first;
      within = slice_get_within functions lands.held.index (on_board lands_at) (board_row lands_at);
    }
