-- Along a script, each file of a guest and of the board has the capability lists of its declaration.
use Rattle.std.{proofs.Common.{◌≡◌, Bool, true, false, cond, List, [], ◌∷◌, map, Some, None, Option, refl, subst, arith}, specs.{Prelude.{is_some, ⊤, MatchOption}, Option.option_map_or, Str.bytes_eq}}
use Rattle.lists.{specs.Elements.Each, proofs.{EachLemmas.each_of_map, Members.each_from}}
use Rattle.model_registers.{specs.{Registers.File, Declarations.Endpoint, DeclarationRules.IsLawfulEndpoint, Decoding.Function, CopiedFiles.agreed_file}, proofs.Capabilities.{HoldsLists, lists_agreed}}
use Rattle.model_board.{specs.{Paths.{Path, path_eq}, Board.{Decl, endpoint, bridge, Board}, Lawful.HasLawfulDecls, State.{BoardFunction, row_at}}, proofs.PathOrder.path_same}
use Rattle.model_guests.{specs.{Text.Text, World.{Guest, World, declared, endpoint_of}, Slots.Slots, Lone.{reset_guest}, Guests.{GuestNow, GuestsNow, guest_at_first, guests_at_first, guest_named, lone_of, with_guest, guest_after, function_in, path_in, Move, move_fault, with_slot_emptied, with_slot_filled, handed_over, file_in, file_of}, AgreedBoard.agreed_function, Lines.{Meaning, nothing, guest_event, host_read, host_move, bad}, WorldNow.guests_after, Seated.{AreSeats, IsSeatedGuest}}, proofs.{AgreedChanges.agreed_by, CapabilityLists.{MayBeReached, AllReached, at_reset, set_reached, at_reached, event_reached, slots_reached}, CopiesNeverRise.declared_lawful}}

-- ---- guests

abbrev pub GuestsReached : GuestsNow → Type 0
GuestsReached gs = Each (λ (g : GuestNow). AllReached g.lone.slots) gs

guest_reached : (f : GuestNow → GuestNow) → ((g : GuestNow) → AllReached g.lone.slots → AllReached (f g).lone.slots) → (name : Text) (gs : GuestsNow) → GuestsReached gs → GuestsReached (with_guest f name gs)
guest_reached f keeps name [] h = tt
guest_reached f keeps name (g ∷ gs) h = (one (bytes_eq name g.name), guest_reached f keeps name gs h.1)
  where
    one : (t : Bool) → AllReached (cond t (f g) g).lone.slots
    one true = keeps g h.0
    one false = h.0

named_reached : (name : Text) (gs : GuestsNow) → GuestsReached gs → AllReached (lone_of gs name).slots
named_reached name [] h = slots_reached [] tt
named_reached name (g ∷ gs) h = one (bytes_eq g.name name) (named_reached name gs h.1)
  where
    one : (t : Bool) → AllReached (lone_of gs name).slots → AllReached (option_map_or (λ (x : GuestNow). x.lone) (cond t (Some g) (guest_named gs name)) (reset_guest [])).slots
    one true more = h.0
    one false more = more

move_reached : (gs : GuestsNow) (m : Move) (p : Option Path) (o : Option Function) → GuestsReached gs → MayBeReached o → GuestsReached (handed_over m p o gs)
move_reached gs m p None h k = h
move_reached gs m p (Some f) h k =
    guest_reached (with_slot_filled m.target p f.decl) (λ g r. set_reached g.lone.slots m.target _ r (at_reset f.decl k.lawful)) m.to (with_guest (with_slot_emptied m.slot) m.from gs)
    (guest_reached (with_slot_emptied m.slot) (λ g r. set_reached g.lone.slots m.slot None r tt) m.from gs h)

pub meaning_reached : (gs : GuestsNow) (m : Meaning) → GuestsReached gs → GuestsReached (guests_after gs m)
meaning_reached gs nothing h = h
meaning_reached gs (guest_event name e) h = guest_reached (guest_after e) (λ g r. event_reached g.lone e r) name gs h
meaning_reached gs (host_read r) h = h
meaning_reached gs (host_move m) h = one (is_some (move_fault gs m))
  where
    one : (t : Bool) → GuestsReached (cond t gs (handed_over m (path_in gs m.from m.slot) (function_in gs m.from m.slot) gs))
    one true = h
    one false = move_reached gs m (path_in gs m.from m.slot) (function_in gs m.from m.slot) h (at_reached (lone_of gs m.from).slots m.slot (named_reached m.from gs h))
meaning_reached gs (bad who n) h = h

each_reached : (w : World) → HasLawfulDecls w.board → (gs : List Guest) → GuestsReached (map (guest_at_first w) gs)
each_reached w lawful [] = tt
each_reached w lawful (g ∷ gs) =
    let here = each_of_map (λ (o : Option Endpoint). MatchOption o ⊤ IsLawfulEndpoint) (declared w.board) g.slots (each_from _ g.slots (λ p m. declared_lawful w.board lawful p)) in
    (slots_reached (map (declared w.board) g.slots) here, each_reached w lawful gs)

pub guests_reached_at_first : (w : World) → HasLawfulDecls w.board → GuestsReached (guests_at_first w)
guests_reached_at_first w lawful = each_reached w lawful w.guests

-- ---- the guests' files

-- a file with the lists that are declared at a path
pub record HoldsDeclared (b : Board) (p : Path) (file : File) : Type 0 where
  pub decl : Endpoint
  pub declares : declared b p ≡ Some decl
  pub lists : HoldsLists decl file

seat_holds : (b : Board) (qs : List (Option Path)) (fs : Slots) (p : Path) (file : File) → AreSeats b qs fs → AllReached fs → file_in qs fs p ≡ Some file → HoldsDeclared b p file
seat_holds b [] fs p file h r e = cc
seat_holds b (o ∷ os) [] p file h r e = absurd h
seat_holds b (None ∷ os) (g ∷ gs) p file h r e = seat_holds b os gs p file h.1 r.1 e
seat_holds b (Some q ∷ os) (None ∷ gs) p file h r e = absurd h.0
seat_holds b (Some q ∷ os) (Some f ∷ gs) p file h r e = cases (path_eq q p) refl e (seat_holds b os gs p file h.1 r.1)
  where
    cases : (t : Bool) → path_eq q p ≡ t → cond t (Some f.file) (file_in os gs p) ≡ Some file → (file_in os gs p ≡ Some file → HoldsDeclared b p file) → HoldsDeclared b p file
    cases false i e more = more e
    cases true i e more =
        let same : f.file ≡ file = cc in record {
          decl = f.decl;
          declares = subst (λ (x : Path). declared b x ≡ Some f.decl) (path_same q p i) h.0.decl;
          lists = subst (HoldsLists f.decl) same r.0.lists;
        }

pub guests_hold : (b : Board) (gs : GuestsNow) (p : Path) (file : File) → Each (IsSeatedGuest b) gs → GuestsReached gs → file_of gs p ≡ Some file → HoldsDeclared b p file
guests_hold b [] p file seated reached e = cc
guests_hold b (g ∷ gs) p file seated reached e = grind (arith, guests_hold b gs p file, seat_holds)

-- ---- the board's files

abbrev pub HoldsAt : Decl → File → Type 0
HoldsAt (endpoint d) file = HoldsLists d file
HoldsAt (bridge d) file = ⊤

abbrev pub Holds : BoardFunction → Type 0
Holds f = HoldsAt f.decl f.file

agreed_holds : (b : Board) (p : Path) (d : Decl) (left own : File) → declared b p ≡ endpoint_of (record { path = p; decl = d }) → HoldsDeclared b p own → HoldsAt d left → HoldsAt d (agreed_file left own)
agreed_holds b p (bridge d) left own found is h = tt
agreed_holds b p (endpoint d) left own found is h =
    let same : is.decl ≡ d = grind (arith, is.declares) in
    lists_agreed d left own h (subst (λ (x : Endpoint). HoldsLists x own) same is.lists)

pub all_agreed : (b : Board) (files : Path → Option File) → ((p : Path) (own : File) → files p ≡ Some own → HoldsDeclared b p own) → (fs : List BoardFunction)
    → Each (λ (f : BoardFunction). declared b f.path ≡ endpoint_of (row_at f)) fs → Each Holds fs → Each Holds (map (agreed_function files) fs)
all_agreed b files told [] found h = tt
all_agreed b files told (f ∷ fs) found h = (one (files f.path) (told f.path), all_agreed b files told fs found.1 h.1)
  where
    one : (o : Option File) → ((own : File) → o ≡ Some own → HoldsDeclared b f.path own) → Holds (agreed_by o f)
    one None is = h.0
    one (Some own) is = agreed_holds b f.path f.decl f.file own found.0 (is own refl) h.0
