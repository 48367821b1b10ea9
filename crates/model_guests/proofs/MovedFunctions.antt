-- A move resets one function of the board, but for what guests have copies of.
use Rattle.std.{proofs.{Common.{◌≡◌, ℕ, ◌<◌, true, false, cond, List, length, Some, None, Option, sym, ap, ◌∙◌, arith}, lemmas.{Bool.Decides.nat_tests, List.get_or-set_same, Option.unwrap_or-slice_get}}, specs.Prelude.{slice_get, slice_set, unwrap_or, is_some, option_map, IsFalse, IsSome}}
use Rattle.model_registers.specs.{Decoding.Function, EndpointTable.endpoint_reset, CopiedFiles.after_reset}
use Rattle.model_board.specs.{Paths.{Path, path_eq}, Board.Board, AtReset.board_at}
use Rattle.model_guests.{specs.{Guests.{GuestNow, GuestsNow, Move, file_of, function_in, guest_named, handed_over, move_fault, path_in, with_guest, with_slot_emptied, with_slot_filled}, AgreedBoard.state_over, Seated.AreSeated, ChangeLaws.MoveResetsOneFunction}, proofs.{Names.same_text, Seats.as_many, GuestsByName.{one, named_with, found, path_of, function_of, function_named}, SeatedMoves.{seat_in, Placed, place_left, left_names, left_guests, seated_handed}, FoundFiles.{file_past, file_found, file_stays}, Changes.{one_file, resets_alike}}}

pub record NoFault (s : GuestsNow) (m : Move) : Type 0 where
  pub in_range : m.target < 32
  pub is_empty : is_some (function_in s m.to m.target) ≡ false

pub no_fault : (s : GuestsNow) (m : Move) → move_fault s m ≡ None → NoFault s m
no_fault s m h = grind (arith, nat_tests)

pub put_at : {A : Type 0} (xs : List (Option A)) (n : ℕ) (x : Option A) → n < length xs → unwrap_or (slice_get (slice_set xs n x) n) None ≡ x
put_at xs n x h = unwrap_or-slice_get (slice_set xs n x) n None ∙ get_or-set_same xs n x None h

module _ (b : Board) (s : GuestsNow) (seated : AreSeated b s) (m : Move) (f : Function) (is : function_in s m.from m.slot ≡ Some f) (p : Path) (at : path_in s m.from m.slot ≡ Some p)
    (to_there : IsSome (guest_named s m.to)) (can : NoFault s m) where
  abbrev left : GuestsNow
  left = with_guest (with_slot_emptied m.slot) m.from s

  abbrev the_path : Option Path
  the_path = path_in s m.from m.slot

  abbrev filled : GuestNow → GuestNow
  filled = with_slot_filled m.target the_path f.decl

  abbrev fresh : Function
  fresh = record { decl = f.decl; file = endpoint_reset f.decl false }

  abbrev pub moved : GuestsNow
  moved = with_guest filled m.to left

  -- the guest that takes it
  pub record Takes (o : Option GuestNow) : Type 0 where
    pub path_is : path_of o m.target ≡ the_path
    pub function_is : function_of o m.target ≡ Some fresh

  pub takes : Takes (guest_named moved m.to)
  takes = grind (arith, named_with, cases, some)
    where
      some : (o : Option GuestNow) → IsSome o → is_some (option_map (one (with_slot_emptied m.slot) m.from) o) ≡ true
      some o h = grind arith

      cases : (o : Option GuestNow) → guest_named left m.to ≡ o → is_some o ≡ true → Takes (option_map (one filled m.to) o)
      cases None e h = cc
      cases (Some t) e h = grind (arith, found, left_guests, same_text, put_at, as_many)

  pub moved_seated : AreSeated b moved
  moved_seated = seated_handed b s seated m f is

  pub moved_before : file_of s p ≡ Some f.file
  moved_before = file_found s seated.names_apart seated.paths_apart m.from m.slot p f at (sym (function_named s m.from m.slot) ∙ is)

  pub moved_after : file_of moved p ≡ Some (endpoint_reset f.decl false)
  moved_after = file_found moved moved_seated.names_apart moved_seated.paths_apart m.to m.target p fresh (takes.path_is ∙ at) takes.function_is

  only_path : (q : Path) → path_eq p q ≡ false → (o : Option Path) → o ≡ Some p → (r : Path) → o ≡ Some r → path_eq r q ≡ false
  only_path q other o e r i = let same : r ≡ p = cc in ap (λ (x : Path). path_eq x q) same ∙ other

  was_empty : (r : Path) → Placed s m.from m.to m.slot m.target None r → ⊥
  was_empty r h = grind (arith, seat_in b s seated.guests m.to m.target)

  pub moved_others : (q : Path) → IsFalse (path_eq p q) → file_of moved q ≡ file_of s q
  moved_others q other =
      file_stays filled m.to q left (left_names b s seated m f is)
      (λ t e. file_past t.paths t.lone.slots m.target the_path (Some fresh) q
      (λ r i. absurd (was_empty r (place_left b s seated m f is m.to m.target r (ap (λ (o : Option GuestNow). path_of o m.target) e ∙ i)))) (only_path q other the_path at))
      ∙ file_stays (with_slot_emptied m.slot) m.from q s seated.names_apart
      (grind (arith, file_past, only_path, path_of, none))
    where
      none : (o : Option Path) → o ≡ None → (r : Path) → o ≡ Some r → path_eq r q ≡ false
      none o e r i = cc

pub move_resets_one_function : MoveResetsOneFunction
move_resets_one_function s gs seated m to_there fault p f at is =
    let b : Board = board_at s.functions in
    let can : NoFault gs m = no_fault gs m fault in
    ap (λ (x : Option ℕ). state_over s (cond (is_some x) gs (handed_over m (path_in gs m.from m.slot) (function_in gs m.from m.slot) gs))) fault
    ∙ ap (λ (o : Option Function). state_over s (handed_over m (path_in gs m.from m.slot) o gs)) is
    ∙ one_file (λ own. endpoint_reset f.decl false) (after_reset f.decl) (resets_alike f.decl) (file_of gs) (file_of (moved b gs seated m f is p at to_there can)) p f.file
    (moved_before b gs seated m f is p at to_there can) (moved_after b gs seated m f is p at to_there can) (moved_others b gs seated m f is p at to_there can) s
