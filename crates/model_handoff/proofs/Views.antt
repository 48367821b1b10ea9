-- The handoff as the board shows it later.
use Rattle.std.{proofs.{Common.{◌≡◌, ℕ, zero, suc, ◌-◌, Bool, true, false, ◌||◌, cond, List, [], ◌∷◌, ◌++◌, length, Some, None, Option, refl, sym, ap, ◌∙◌, arith}, lemmas.List.Folds.list_any-append}, specs.{Prelude.{map, flat_map, replicate, is_some, option_map, IsSome}, List.list_any}}
use Rattle.lists.specs.Elements.{Each}
use Rattle.model_registers.specs.{Registers.File, Decoding.Function}
use Rattle.model_board.{specs.{Paths.{Path, path_eq}, Board.Board, AtReset.board_at, State.{BoardFunction, State}}, proofs.PathOrder.path_same}
use Rattle.model_guests.{specs.{Slots.Slots, World.{Guest, World, declared}, Guests.{GuestNow, GuestsNow, Move, file_in, file_of, function_in, guest_after, guest_at_first, guest_named, guests_at_first, handed_over, move_fault, path_in, with_guest, after_move}, AgreedBoard.{agreed_function, with_files}, Seated.{AreSeated, AreSeats, IsSeatedGuest}}, proofs.{AgreedChanges.agreed_by, Changes.{files_same, agreed_twice}, MovedFunctions.{NoFault, no_fault, moved, moved_seated, moved_before, moved_after, moved_others}, SeatedMoves.seat_in, FoundFiles.seated_file}}
use Rattle.model_handoff.{specs.{Handoffs.{file_at_reset, reset_files}, ViewLaws.{is_at, sits, seated_files, with_seated_reset, OverReset, ResetShown, ResetAtFirst, ResetAfterEvents, ResetAfterMoves}}, proofs.{Functions.path_stays, Keeping.keeps_board}}

-- ---- a file put in twice

-- what the first tells, the second tells too
twice : (one other : Option File) (f : BoardFunction) → (is_some one ≡ true → is_some other ≡ true) → agreed_by other (agreed_by one f) ≡ agreed_by other f
twice one other f h = grind (arith, agreed_twice)

functions_twice : (one other : Path → Option File) → ((p : Path) → is_some (one p) ≡ true → is_some (other p) ≡ true) → (fs : List BoardFunction)
    → map (agreed_function other) (map (agreed_function one) fs) ≡ map (agreed_function other) fs
functions_twice one other more [] = refl
functions_twice one other more (f ∷ fs) =
    grind (arith, path_stays (one f.path) f, twice (one f.path) (other f.path) f (more f.path), functions_twice one other more fs)

-- ---- who sits where

-- a path in a slot finds a file, and no other path does
sits_in : (b : Board) (qs : List (Option Path)) (fs : Slots) (p : Path) → AreSeats b qs fs → is_some (file_in qs fs p) ≡ list_any (is_at p) qs
sits_in b [] f p h = grind arith
sits_in b (q ∷ qs) [] p h = absurd h
sits_in b (None ∷ qs) (f ∷ fs) p h = sits_in b qs fs p h.1
sits_in b (Some r ∷ qs) fs p h = grind (arith, sits_in b qs)

pub sits_is : (b : Board) (gs : GuestsNow) → Each (IsSeatedGuest b) gs → (p : Path) → is_some (file_of gs p) ≡ sits gs p
sits_is b [] all p = refl
sits_is b (g ∷ gs) all p = grind (arith, sits_in, sits_is b gs)

module _ (s : State) (gs : GuestsNow) (seated : AreSeated (board_at s.functions) gs) where
  abbrev b : Board
  b = board_at s.functions

  seated_has : (p : Path) (t : Bool) → sits gs p ≡ t → is_some (cond t (option_map file_at_reset (declared b p)) None) ≡ true → is_some (file_of gs p) ≡ true
  seated_has p t e h = grind (arith, sits_is)

  declares : (p : Path) (o : Option File) → file_of gs p ≡ o → is_some o ≡ true → is_some (option_map file_at_reset (declared b p)) ≡ true
  declares p None e h = cc
  declares p (Some file) e h = grind (arith, seated_file b gs p file seated.guests e)

  has_seated : (p : Path) → is_some (file_of gs p) ≡ true → is_some (seated_files s gs p) ≡ true
  has_seated p h = grind (arith, sits_is, declares)

pub over_reset : OverReset
over_reset s gs seated = grind (arith, functions_twice, seated_has)

pub reset_shown : ResetShown
reset_shown s gs seated = grind (arith, keeps_board s gs, functions_twice (file_of gs) (seated_files s gs) (has_seated s gs seated) s.functions, has_seated s gs seated)

-- ---- at first

some_paths : (qs : List Path) (k : ℕ) (p : Path) → list_any (is_at p) (map Some qs ++ replicate k None) ≡ list_any (λ q. path_eq q p) qs
some_paths [] zero p = refl
some_paths [] (suc k) p = some_paths [] k p
some_paths (q ∷ qs) k p = ap (λ t. path_eq q p || t) (some_paths qs k p)

sits_first : (w : World) (gs : List Guest) (p : Path) → sits (map (guest_at_first w) gs) p ≡ list_any (λ q. path_eq q p) (flat_map (λ (g : Guest). g.slots) gs)
sits_first w [] p = refl
sits_first w (g ∷ gs) p = grind (arith, some_paths g.slots (32 - length g.slots) p, sits_first w gs p, list_any-append)

same_reset : (s : State) (one other : Path → Option File) → ((p : Path) → other p ≡ one p)
    → with_files other s ≡ with_files one s
same_reset s one other same = ap (λ (fs : List BoardFunction). record s { functions = fs }) (files_same one other same s.functions)

pub reset_at_first : ResetAtFirst
reset_at_first w s same = grind (arith, same_reset s (reset_files w) (seated_files s (guests_at_first w)), sits_first w w.guests)

-- ---- afterwards

sits_with : (change : GuestNow → GuestNow) → ((g : GuestNow) → (change g).paths ≡ g.paths) → (name : List ℕ) (gs : GuestsNow) (p : Path) → sits (with_guest change name gs) p ≡ sits gs p
sits_with change same name [] p = refl
sits_with change same name (g ∷ gs) p = grind (arith, sits_with change same name gs p)

abbrev seated_in : State → Path → Bool → Option File
seated_in s p t = cond t (option_map file_at_reset (declared (board_at s.functions) p)) None

-- a change of a guest that keeps its paths
pub reset_with : (change : GuestNow → GuestNow) → ((g : GuestNow) → (change g).paths ≡ g.paths)
    → (s : State) (gs : GuestsNow) (name : List ℕ) → with_seated_reset s (with_guest change name gs) ≡ with_seated_reset s gs
reset_with change paths s gs name =
    same_reset s (seated_files s gs) (seated_files s (with_guest change name gs)) (λ p. ap (seated_in s p) (sits_with change paths name gs p))

pub reset_after_events : ResetAfterEvents
reset_after_events s gs name e = reset_with (guest_after e) (λ g. refl) s gs name

module _ (s : State) (gs : GuestsNow) (seated : AreSeated (board_at s.functions) gs) (m : Move) (to_there : IsSome (guest_named gs m.to)) where
  sits_moved : (f : Function) (is : function_in gs m.from m.slot ≡ Some f) (p : Path) (at : path_in gs m.from m.slot ≡ Some p) (can : NoFault gs m) (q : Path)
      → sits (moved (board_at s.functions) gs seated m f is p at to_there can) q ≡ sits gs q
  sits_moved f is p at can q =
      sym (sits_is (board_at s.functions) (moved (board_at s.functions) gs seated m f is p at to_there can) (moved_seated (board_at s.functions) gs seated m f is p at to_there can).guests q)
      ∙ by (path_eq p q) refl ∙ sits_is (board_at s.functions) gs seated.guests q
    where
      by : (t : Bool) → path_eq p q ≡ t → is_some (file_of (moved (board_at s.functions) gs seated m f is p at to_there can) q) ≡ is_some (file_of gs q)
      by true e =
          grind (arith, path_same p q e, moved_after (board_at s.functions) gs seated m f is p, moved_before (board_at s.functions) gs seated m f is p)
      by false e = ap is_some (moved_others (board_at s.functions) gs seated m f is p at to_there can q e)

  handed : (o : Option Function) → function_in gs m.from m.slot ≡ o → (x : Option Path) → path_in gs m.from m.slot ≡ x → NoFault gs m → (q : Path) → sits (handed_over m (path_in gs m.from m.slot) o gs) q ≡ sits gs q
  handed None e x i can q = refl
  handed (Some f) e None i can q = grind (arith, seat_in (board_at s.functions) gs seated.guests m.from m.slot)
  handed (Some f) e (Some p) i can q = sits_moved f e p i can q

  by_fault : (x : Option ℕ) → move_fault gs m ≡ x → (q : Path) → sits (cond (is_some x) gs (handed_over m (path_in gs m.from m.slot) (function_in gs m.from m.slot) gs)) q ≡ sits gs q
  by_fault x e q = grind (arith, handed, no_fault)

pub reset_after_moves : ResetAfterMoves
reset_after_moves s gs seated m to_there =
    grind (arith, same_reset s (seated_files s gs) (seated_files s (after_move gs m)), by_fault s gs seated m to_there (move_fault gs m) refl)
