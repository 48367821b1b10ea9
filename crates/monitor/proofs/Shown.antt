-- Of a world that is kept, what the host and the guests show is that world.
use Rattle.std.{proofs.Common.{◌≡◌, ℕ, zero, suc, false, List, [], ◌∷◌, Some, None, Option, slice_get, refl, sym, ap, ap₂, ◌∙◌, subst, rules, arith}, specs.{Prelude.{map, option_map, IsTrue, MatchOption, ⊤}, Option.option_map_or}}
use Rattle.lists.{specs.Elements.Each, proofs.{Indices.{at_map, each_at, index_in, map_at}, Members.each_in}}
use Rattle.model_registers.specs.{Registers.File, Declarations.Endpoint, DeclarationRules.IsLawfulEndpoint, EndpointTable.endpoint_reset, Decoding.Function, CopiedFiles.{agreed_file, places_of}}
use Rattle.model_board.specs.{Paths.Path, Board.{endpoint, Board}, AtReset.board_at, Lawful.HasLawfulDecls, Ports.file_at, State.{BoardFunction, State}}
use Rattle.model_guests.{specs.{Accesses.answered, Grammar.HostRead, HostReads.{host_fault, shown}, Text.Text, World.is_name, Slots.{Slots, slot_at}, Guests.{GuestNow, GuestsNow, guest_named, file_of}, WorldNow.{names_of, WorldNow, board_state, host_reply}, AgreedBoard.{agreed_function, state_over}, Seated.{IsSeatedAt, AreSeats, AreSeated}}, proofs.{DistinctPlaces.distinct_places, FoundFiles.same_places, CopiesNeverRise.declared_lawful, ViewedFiles.overlay_gives_guest_registers, GuestsByName.{path_at, path_of, function_of, function_named}, KeptCopies.file_of_seat, DeclaredRows.declared_row, Along.by_index}}
use Rattle.model_handoff.{specs.{Handoffs.{IsHandoff, HasDeclaredShape}, ViewLaws.with_seated_reset}, proofs.{Standing.{endpoint_at, found, StandsAt, stands}, Views.reset_shown}}
use Rattle.model_images.specs.SavedLaws.{CanBeSaved}
use Rattle.host_bridge.specs.HostState.{HostState}
use Rattle.monitor.specs.{declared.guest.{AssignedFunction.AssignedFunction, Guest.Guest}, Views.{function_shown, slot_shown, path_shown, guest_shown, guests_shown, handoff_shown, world_shown}, Keeping.{IsHeld, AreSlots, AreGuests, IsKept, IsSound}}

-- ---- one function

pub lawful_at : (b : Board) (p : Path) (f : Function) → HasLawfulDecls b → IsSeatedAt b p f → IsLawfulEndpoint f.decl
lawful_at b p f decls seat = subst (λ (o : Option Endpoint). MatchOption o ⊤ IsLawfulEndpoint) seat.decl (declared_lawful b decls p)

module _ (s : State) (handoff : IsHandoff s) (gs : GuestsNow) (p : Path) (f : Function) (seat : IsSeatedAt (board_at s.functions) p f) where
  lawful : IsLawfulEndpoint f.decl
  lawful = lawful_at (board_at s.functions) p f handoff.board.declarations seat

  places : places_of f.file ≡ places_of (endpoint_reset f.decl false)
  places = same_places f.file (endpoint_reset f.decl false) seat.shape

  abbrev left_file : File
  left_file = file_at s.functions p

  abbrev left : BoardFunction
  left = endpoint_at p f.decl left_file

  there : StandsAt s.functions p f.decl
  there = stands s.functions handoff.board p f.decl (declared_row (board_at s.functions) p f.decl seat.decl)

  -- the function on the board, while its guest has the file
  abbrev pub on_board : BoardFunction
  on_board = endpoint_at p f.decl (agreed_file left_file f.file)

  left_there : (i : ℕ) → slice_get (board_at s.functions) i ≡ Some (record { path = p; decl = endpoint f.decl }) → slice_get s.functions i ≡ Some left
  left_there i row = grind (arith, at_map, slice_get, found, index_in)

  pub board_there : (i : ℕ) → slice_get (board_at s.functions) i ≡ Some (record { path = p; decl = endpoint f.decl }) → file_of gs p ≡ Some f.file → slice_get (state_over s gs).functions i ≡ Some on_board
  board_there i row file =
      map_at (agreed_function (file_of gs)) s.functions i left (left_there i row)
      ∙ ap (λ (o : Option File). Some (option_map_or (λ (own : File). record left { file = agreed_file left.file own }) o left)) file

  pub same_as_left : places_of f.file ≡ places_of left_file
  same_as_left = same_places f.file left_file (seat.shape ∙ sym (each_in HasDeclaredShape left s.functions handoff.shapes there.among))

  pub shown_there : (h : AssignedFunction) → IsHeld s p f h → file_of gs p ≡ Some f.file → function_shown (state_over s gs).functions h ≡ Some f
  shown_there h held file = search (rules, board_there, distinct_places, lawful, places, same_as_left, overlay_gives_guest_registers)

-- the guest's file at the path of a slot
pub file_named : (b : Board) (gs : GuestsNow) (w : GuestNow) (n : ℕ) (p : Path) (f : Function) → AreSeated b gs → guest_named gs w.name ≡ Some w → path_at w.paths n ≡ Some p → slot_at w.lone.slots n ≡ Some f → file_of gs p ≡ Some f.file
file_named b gs w n p f seated found at is =
    file_of_seat b gs seated w.name n p f (ap (λ (o : Option GuestNow). path_of o n) found ∙ at)
    (function_named gs w.name n ∙ ap (λ (o : Option GuestNow). function_of o n) found ∙ is)

-- ---- all of them

module _ (s : State) (handoff : IsHandoff s) (gs : GuestsNow) where
  abbrev b : Board
  b = board_at s.functions

  slots_shown : (qs : List (Option Path)) (fs : Slots) (os : List (Option AssignedFunction)) → AreSeats b qs fs → AreSlots s qs fs os
      → ((n : ℕ) (p : Path) (f : Function) → path_at qs n ≡ Some p → slot_at fs n ≡ Some f → file_of gs p ≡ Some f.file)
      → (map (path_shown (state_over s gs).functions) os ≡ qs) × (map (slot_shown (state_over s gs).functions) os ≡ fs)
  slots_shown [] [] [] seats are files = (refl, refl)
  slots_shown (None ∷ qs) (None ∷ fs) (None ∷ os) seats are files =
      let more = slots_shown qs fs os seats.1 are.1 (λ n. files (suc n)) in
      (ap (λ (x : List (Option Path)). None ∷ x) more.0, ap (λ (x : Slots). None ∷ x) more.1)
  slots_shown (Some p ∷ qs) (Some f ∷ fs) (Some h ∷ os) seats are files =
      let more = slots_shown qs fs os seats.1 are.1 (λ n. files (suc n)) in
      let there = board_there s handoff gs p f seats.0 h.index are.0.row (files zero p f refl refl) in (
        ap₂ (λ (x : Option BoardFunction) (xs : List (Option Path)). option_map (λ (g : BoardFunction). g.path) x ∷ xs) there more.0,
        ap₂ (λ (x : Option Function) (xs : Slots). x ∷ xs) (shown_there s handoff gs p f seats.0 h are.0 (files zero p f refl refl)) more.1,
      )
  slots_shown (q ∷ qs) (f ∷ fs) (o ∷ os) seats are files = absurd are.0
  slots_shown qs fs os seats are files = absurd are

  all_shown : AreSeated b gs → (ts : List Text) (ws : GuestsNow) (hs : List Guest) → AreGuests s ts ws hs
      → ((i : ℕ) (w : GuestNow) → slice_get ws i ≡ Some w → (guest_named gs w.name ≡ Some w) × AreSeats b w.paths w.lone.slots)
      → guests_shown (state_over s gs).functions ts hs ≡ ws
  all_shown seated [] [] [] are named = refl
  all_shown seated (t ∷ ts) (w ∷ ws) (g ∷ hs) are named = ap₂ (λ (x : GuestNow) (xs : GuestsNow). x ∷ xs) here (all_shown seated ts ws hs are.1 (λ i. named (suc i)))
    where
      files : (n : ℕ) (p : Path) (f : Function) → path_at w.paths n ≡ Some p → slot_at w.lone.slots n ≡ Some f → file_of gs p ≡ Some f.file
      files n p f at is = file_named b gs w n p f seated (named zero w refl).0 at is

      slots : (map (path_shown (state_over s gs).functions) g.slots.items ≡ w.paths) × (map (slot_shown (state_over s gs).functions) g.slots.items ≡ w.lone.slots)
      slots = slots_shown w.paths w.lone.slots g.slots.items (named zero w refl).1 are.0.slots files

      here : guest_shown (state_over s gs).functions t g ≡ w
      here = λ i. record { name = sym are.0.name_is i; paths = slots.0 i; lone = record { slots = slots.1 i; latch = sym are.0.latch i } }
  all_shown seated ts ws hs are named = absurd are

shown_as_handed : (s : State) (gs : GuestsNow) → handoff_shown (state_over s gs) gs ≡ with_seated_reset (state_over s gs) gs
unfolding handoff_shown
shown_as_handed s gs = refl

module _ (w : WorldNow) (h : HostState) (names : List Text) (gs : List Guest) (kept : IsKept w h names gs) where
  pub is_shown : world_shown h names gs ≡ w
  is_shown = search (rules, all_shown, by_index, each_at, reset_shown, shown_as_handed)

  pub is_sound : CanBeSaved w → Each (λ n. IsTrue (is_name n)) names → IsSound h names gs
  is_sound can lawful = record { kept = subst (λ (v : WorldNow). IsKept v h names gs) (sym is_shown) kept; savable = subst CanBeSaved (sym is_shown) can; lawful_names = lawful }

-- ---- what is asked of it

pub names_kept : (s : State) (ts : List Text) (ws : GuestsNow) (gs : List Guest) → AreGuests s ts ws gs → names_of ws ≡ ts
names_kept s [] [] gs are = refl
names_kept s (t ∷ ts) (w ∷ ws) (g ∷ gs) are = ap₂ (λ (x : Text) (xs : List Text). x ∷ xs) are.0.name_is (names_kept s ts ws gs are.1)
names_kept s ts ws gs are = absurd are

pub host_replied : (s : State) (w : WorldNow) (r : HostRead) (o : Option ℕ) (value : ℕ) → s ≡ board_state w → o ≡ host_fault r → o ≡ None → value ≡ shown s r.width r.target
    → answered value r.width ≡ host_reply w r
host_replied s w r o value same fault passed is = search rules
