-- A change of one guest's function changes the board there, and nowhere else.
use Rattle.std.{proofs.Common.{◌≡◌, ℕ, false, List, [], ◌∷◌, Some, Option, refl, sym, ap, ap₂, ◌∙◌, arith}, specs.Prelude.{map, IsFalse}}
use Rattle.model_board.{proofs.{PlacesLaw.apart_turn, PathOrder.path_same}, specs.{Paths.{Path, path_eq}, Board.Board, AtReset.board_at, State.{BoardFunction, State}}}
use Rattle.model_registers.specs.{Registers.File, Decoding.Function, EndpointTable.endpoint_reset, CopiedFiles.agreed_file}
use Rattle.model_guests.{specs.{Text.Text, Guests.{GuestsNow, file_of, function_in, guest_named, path_in, with_guest}, AgreedBoard.{agreed_function, state_over, with_change_at, with_files}, Seated.AreSeated, ChangeLaws.{ChangesAlike, ChangesOneFunction, LatchKeepsBoard, OneFile, ResetsAlike, with_slot_changed, with_latch}}, proofs.{AgreedChanges.{changed_function, agreed_by, changed_here, unchanged}, GuestFiles.{slot_set, with_file_there}, Names.same_text, GuestsByName.{named_with, found, function_of, function_named}, Seats.paths_stay, SeatedMoves.seat_in, FoundFiles.{file_beside, file_found, file_stays, NamesApart, PathsApart}}}

-- ---- whatever tells the files

module _ (own_change board_change : File → File) (own : File) (alike : (left : File) → agreed_file left (own_change own) ≡ board_change (agreed_file left own)) (old new : Path → Option File) (p : Path)
    (before : old p ≡ Some own) (after : new p ≡ Some (own_change own)) (others : (q : Path) → IsFalse (path_eq p q) → new q ≡ old q) where
  functions_change : (fs : List BoardFunction) → map (agreed_function new) fs ≡ map (changed_function board_change p) (map (agreed_function old) fs)
  functions_change [] = refl
  functions_change (f ∷ fs) = grind (arith, functions_change fs, path_same, changed_here, apart_turn, unchanged)

-- where the changes are alike for this file of the guest
pub one_file_of : (own_change board_change : File → File) (own : File) → ((left : File) → agreed_file left (own_change own) ≡ board_change (agreed_file left own)) → (old new : Path → Option File) (p : Path)
    → old p ≡ Some own → new p ≡ Some (own_change own) → ((q : Path) → IsFalse (path_eq p q) → new q ≡ old q) → (s : State) → with_files new s ≡ with_change_at board_change p (with_files old s)
one_file_of own_change board_change own alike old new p before after others s =
    ap (λ (fs : List BoardFunction). record s { functions = fs }) (functions_change own_change board_change own alike old new p before after others s.functions)

pub one_file : OneFile
one_file own_change board_change alike old new p own before after others s = one_file_of own_change board_change own (λ left. alike left own) old new p before after others s

pub files_same : (old new : Path → Option File) → ((q : Path) → new q ≡ old q) → (fs : List BoardFunction) → map (agreed_function new) fs ≡ map (agreed_function old) fs
files_same old new same [] = refl
files_same old new same (f ∷ fs) = ap₂ (λ (x : BoardFunction) (xs : List BoardFunction). x ∷ xs) (ap (λ (o : Option File). agreed_by o f) (same f.path)) (files_same old new same fs)

-- ---- a change of a slot's file

module _ (b : Board) (s : GuestsNow) (seated : AreSeated b s) (name : Text) (n : ℕ) (p : Path) (at : path_in s name n ≡ Some p) (change : File → File) (f : Function) (there : function_in s name n ≡ Some f) where
  abbrev new_guests : GuestsNow
  new_guests = with_guest (with_slot_changed change n) name s

  pub file_before : file_of s p ≡ Some f.file
  file_before = grind (arith, file_found, function_named)

  abbrev changed_file : Function
  changed_file = record f { file = change f.file }

  found_changed : function_of (guest_named new_guests name) n ≡ Some changed_file
  found_changed = grind (arith, named_with, function_named, found, same_text, with_file_there, slot_set)

  pub file_after : file_of new_guests p ≡ Some (change f.file)
  file_after = file_found new_guests names apart name n p changed_file (paths_stay (with_slot_changed change n) (λ t. refl) (λ t. refl) name name n s ∙ at) found_changed
    where
      names : NamesApart new_guests
      names = Rattle.model_guests.proofs.Seats.names_stay (with_slot_changed change n) (λ t. refl) name s seated.names_apart

      apart : PathsApart new_guests
      apart a c k m q h i =
          seated.paths_apart a c k m q (sym (paths_stay (with_slot_changed change n) (λ t. refl) (λ t. refl) name a k s) ∙ h) (sym (paths_stay (with_slot_changed change n) (λ t. refl) (λ t. refl) name c m s) ∙ i)

  pub file_others : (q : Path) → IsFalse (path_eq p q) → file_of new_guests q ≡ file_of s q
  file_others q other = grind (arith, file_stays, function_named, with_file_there, file_beside)

-- whatever board the guests are seated on
pub changes_slot : (b : Board) (s : State) (gs : GuestsNow) → AreSeated b gs → (name : Text) (n : ℕ) (p : Path) (f : Function) → path_in gs name n ≡ Some p → function_in gs name n ≡ Some f
    → (own_change board_change : File → File) → ChangesAlike own_change board_change
    → state_over s (with_guest (with_slot_changed own_change n) name gs) ≡ with_change_at board_change p (state_over s gs)
changes_slot b s gs seated name n p f at is own_change board_change alike =
    one_file own_change board_change alike (file_of gs) (file_of (with_guest (with_slot_changed own_change n) name gs)) p f.file
    (file_before b gs seated name n p at own_change f is) (file_after b gs seated name n p at own_change f is) (file_others b gs seated name n p at own_change f is) s

-- a path's seat has a function
there_in : (b : Board) (gs : GuestsNow) → AreSeated b gs → (name : Text) (n : ℕ) (p : Path) → path_in gs name n ≡ Some p → (f : Function) × (function_in gs name n ≡ Some f)
there_in b gs seated name n p at = grind (arith, seat_in b gs seated.guests name n)

pub changes_one_function : ChangesOneFunction
changes_one_function s gs seated name n p at own_change board_change alike =
    let there = there_in (board_at s.functions) gs seated name n p at in
    changes_slot (board_at s.functions) s gs seated name n p there.0 at there.1 own_change board_change alike

pub same_files_over : (s : State) (old new : GuestsNow) → ((q : Path) → file_of new q ≡ file_of old q) → state_over s new ≡ state_over s old
same_files_over s old new same = ap (λ (fs : List BoardFunction). record s { functions = fs }) (files_same (file_of old) (file_of new) same s.functions)

latch_files : (name : Text) (latch : ℕ) (q : Path) (gs : GuestsNow) → file_of (with_guest (with_latch latch) name gs) q ≡ file_of gs q
latch_files name latch q [] = refl
latch_files name latch q (t ∷ ts) = grind (arith, latch_files name latch q ts)

pub latch_keeps_board : LatchKeepsBoard
latch_keeps_board s gs name latch = same_files_over s gs (with_guest (with_latch latch) name gs) (λ q. latch_files name latch q gs)

-- ---- a file put in twice

pub agreed_twice : (left own file : File) → agreed_file left file ≡ agreed_file (agreed_file left own) file
agreed_twice [] own file = refl
agreed_twice (e ∷ es) own file = grind (arith, agreed_twice es own file)

pub resets_alike : ResetsAlike
resets_alike d left own = agreed_twice left own (endpoint_reset d false)
