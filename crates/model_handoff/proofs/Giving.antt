-- What is given and taken: the world after it.
use Rattle.std.{proofs.Common.{◌≡◌, ℕ, Bool, true, false, not, cond, List, [], ◌∷◌, inl, inr, ◌⊎◌, Some, None, Option, refl, sym, ap, ap₂, ◌∙◌, subst, arith}, specs.{Prelude.{map, option_map, is_some, nat_le, IsTrue, IsSome}, List.list_any, Option.option_map_or}}
use Rattle.lists.{specs.Elements.Each, proofs.Tests.some_there}
use Rattle.model_registers.specs.{Registers.File, Declarations.{Region, Endpoint}, EndpointTable.endpoint_reset, CopiedFiles.{agreed_file, after_reset}, Decoding.Function}
use Rattle.model_board.{specs.{Paths.{Path, path_eq}, Board.Board, AtReset.board_at, State.{BoardFunction, State, with_file}}, proofs.{PathEnds.path_eq-sym, PathOrder.path_same}}
use Rattle.model_guests.{specs.{Slots.slot_at, Text.Text, World.declared, Guests.{GuestNow, GuestsNow, file_of, function_in, guest_named, path_in, with_guest, with_slot_emptied, with_slot_filled}, AgreedBoard.{agreed_function, with_files, state_over, with_change_at}, Seated.AreSeated, WorldNow.{WorldNow, board_state}}, proofs.{AgreedChanges.{agreed_by, changed_function}, Changes.{one_file, resets_alike}, GuestsByName.{function_named, path_at}, SeatedMoves.{placed, put_there, was_there, seat_in}, OneGuest.{lone_other, with_none, with_twice}, Resets.set_back, Seats.{no_path, some_path}}}
use Rattle.model_handoff.{specs.{Handoffs.{IsHandoff, file_at_reset}, Kept.IsLawfulOver, Regions.{AreServed, HasOpenRegions, opens_region}, ViewLaws.{seated_files, sits, with_seated_reset}, Giving.{Gift, with_reset_at, has_closed_region, give_fault, take_fault, given, taken, after_give, after_take}, GivingLaws.{BoardAfterGift, BoardAfterTaking, LawfulAfterGift, LawfulAfterTaking, ShownAfterGift, ShownAfterTaking, GivenFunction, GivenBack, OthersAfterGift, OthersAfterTaking}}, proofs.{Functions.path_stays, Keeping.{keeps_board, rows_stay}, Views.sits_is, OneReset.{alike, reset_is}, Alike.IsAlike, GivenSeats.{fresh, declared_there, sits_nowhere, came_seated, came_path, came_function, came_file, came_others, left, left_was, left_seated, left_file, left_others}}}

-- ---- files of which one is reset beneath

abbrev put_in : Option File → File → File
put_in o file = option_map_or (λ (own : File). agreed_file file own) o file

-- a file that is not told, or that of an endpoint at reset
abbrev IsFresh : Endpoint → Option File → Type 0
IsFresh d o = (o ≡ None) ⊎ (o ≡ Some (endpoint_reset d false))

module _ (d : Endpoint) where
  over_reset : (left : File) (old new : Option File) → IsFresh d new → put_in new (after_reset d left) ≡ after_reset d (put_in old left)
  over_reset left old new h = grind (arith, left, resets_alike d left (endpoint_reset d false), resets_alike d left)

  module _ (p : Path) (old new : Path → Option File) (here : IsFresh d (new p)) (others : (q : Path) → path_eq p q ≡ false → new q ≡ old q) where
    put_by : (o : Option File) (f : BoardFunction) → agreed_by o f ≡ record f { file = put_in o f.file }
    put_by o f = grind arith

    one_over : (f : BoardFunction) → agreed_function new (changed_function (after_reset d) p f) ≡ changed_function (after_reset d) p (agreed_function old f)
    one_over f =
        grind (arith, path_same f.path p, put_by (old f.path) f, put_by (new f.path), over_reset f.file (old f.path) (new f.path), path_eq-sym, path_stays)

    all_over : (fs : List BoardFunction) → map (agreed_function new) (with_file (after_reset d) p fs) ≡ with_file (after_reset d) p (map (agreed_function old) fs)
    all_over [] = refl
    all_over (f ∷ fs) = ap₂ (λ (x : BoardFunction) (xs : List BoardFunction). x ∷ xs) (one_over f) (all_over fs)

    pub files_over : (s : State) → with_files new (with_change_at (after_reset d) p s) ≡ with_change_at (after_reset d) p (with_files old s)
    files_over s = ap (λ (fs : List BoardFunction). record s { functions = fs }) (all_over s.functions)

-- ---- a world in which one function is reset, and guests of whom no other path finds anything else

module _ (s : State) (handoff : IsHandoff s) (p : Path) (d : Endpoint) (declares : declared (board_at s.functions) p ≡ Some d) (gs now : GuestsNow)
    (seated : AreSeated (board_at s.functions) gs) (seated_now : AreSeated (board_at s.functions) now)
    (here : IsFresh d (file_of now p)) (others : (q : Path) → path_eq p q ≡ false → file_of now q ≡ file_of gs q) where
  abbrev b : Board
  b = board_at s.functions

  abbrev t : State
  t = with_reset_at p s

  same_board : board_at t.functions ≡ b
  same_board = (alike s handoff p d declares).board

  reset_as : (x : State) → board_at x.functions ≡ b → with_change_at (after_reset d) p x ≡ with_reset_at p x
  reset_as x same = sym (ap (λ (o : Option Endpoint). option_map_or (λ (e : Endpoint). with_change_at (after_reset e) p x) o x) (ap (λ (c : Board). declared c p) same ∙ declares))

  pub board_over : state_over t now ≡ with_reset_at p (state_over s gs)
  board_over = grind (arith, reset_is, files_over, reset_as, keeps_board)

  sits_others : (q : Path) → path_eq p q ≡ false → sits now q ≡ sits gs q
  sits_others q other = sym (sits_is b now seated_now.guests q) ∙ ap is_some (others q other) ∙ sits_is b gs seated.guests q

  rows_seated : board_at (with_seated_reset s gs).functions ≡ b
  rows_seated = rows_stay (seated_files s gs) s.functions

  pub shown_over : with_seated_reset t now ≡ with_reset_at p (with_seated_reset s gs)
  shown_over = grind (arith, reset_is, files_over, same_board, sits_others, reset_as, rows_seated)

-- a function in a slot is at reset there already
pub shown_reset : (s : State) (gs : GuestsNow) (p : Path) (d : Endpoint) → declared (board_at s.functions) p ≡ Some d → sits gs p ≡ true
    → with_change_at (after_reset d) p (with_seated_reset s gs) ≡ with_seated_reset s gs
shown_reset s gs p d declares there =
    let told : seated_files s gs p ≡ Some (endpoint_reset d false) = ap₂ (λ (v : Bool) (o : Option Endpoint). cond v (option_map file_at_reset o) None) there declares in
    sym (one_file (λ own. endpoint_reset d false) (after_reset d) (resets_alike d) (seated_files s gs) (seated_files s gs) p (endpoint_reset d false) told told (λ q other. refl) s)

-- ---- a gift that is not refused

pub record CanGive (w : WorldNow) (g : Gift) (d : Endpoint) : Type 0 where
  pub low : nat_le 32 g.slot ≡ false
  pub declares : declared (board_at w.handoff.functions) g.path ≡ Some d
  pub free : sits w.guests g.path ≡ false
  pub empty : function_in w.guests g.to g.slot ≡ None
  pub none_closed : has_closed_region w.handoff g.path d ≡ false

pub can_give : (w : WorldNow) (g : Gift) → give_fault w g ≡ None → (d : Endpoint) × CanGive w g d
can_give w g h = grind arith

pub given_is : (w : WorldNow) (g : Gift) (d : Endpoint) → give_fault w g ≡ None → declared (board_at w.handoff.functions) g.path ≡ Some d
    → after_give w g ≡ record { handoff = with_reset_at g.path w.handoff; guests = with_guest (with_slot_filled g.slot (Some g.path) d) g.to w.guests }
given_is w g d fault declares = grind arith

pub taken_is : (w : WorldNow) (name : Text) (n : ℕ) → take_fault w name n ≡ None → (p : Path) → path_in w.guests name n ≡ Some p
    → after_take w name n ≡ record { handoff = with_reset_at p w.handoff; guests = with_guest (with_slot_emptied n) name w.guests }
taken_is w name n fault p at = grind arith

-- ---- regions that are open

each_open : (s : State) (p : Path) (rs : List Region) → list_any (λ (r : Region). not (opens_region s p r)) rs ≡ false → Each (λ (r : Region). IsTrue (opens_region s p r)) rs
each_open s p [] h = tt
each_open s p (r ∷ rs) h = grind (arith, each_open s p rs)

each_alike : (s t : State) → ((q : Path) (r : Region) → opens_region t q r ≡ opens_region s q r) → (p : Path) (rs : List Region)
    → Each (λ (r : Region). IsTrue (opens_region s p r)) rs → Each (λ (r : Region). IsTrue (opens_region t p r)) rs
each_alike s t same p [] h = tt
each_alike s t same p (r ∷ rs) h = (same p r ∙ h.0, each_alike s t same p rs h.1)

open_alike : (s t : State) → IsAlike s t → (p : Path) → HasOpenRegions s p → HasOpenRegions t p
open_alike s t is p h d e = each_alike s t is.opens p d.regions (h d (ap (λ (c : Board). declared c p) (sym is.board) ∙ e))

-- ---- laws of gifts

module _ (w : WorldNow) (h : IsLawfulOver w) (g : Gift) (d : Endpoint) (can : CanGive w g d) where
  abbrev c : Board
  c = board_at w.handoff.functions

  nobody_has : (a : Text) (m : ℕ) → path_in w.guests a m ≡ Some g.path → ⊥
  nobody_has = sits_nowhere c w.guests h.seated g.path can.free

  pub is_alike : IsAlike w.handoff (with_reset_at g.path w.handoff)
  is_alike = alike w.handoff h.handoff g.path d can.declares

  abbrev now : GuestsNow
  now = with_guest (with_slot_filled g.slot (Some g.path) d) g.to w.guests

  pub now_seated : AreSeated c now
  now_seated = came_seated c w.guests h.seated g.to g.slot g.path d can.declares nobody_has

  now_others : (q : Path) → path_eq g.path q ≡ false → file_of now q ≡ file_of w.guests q
  now_others = came_others c w.guests h.seated g.to g.slot g.path d can.declares nobody_has can.empty

  here_open : HasOpenRegions w.handoff g.path
  here_open e i = let same : d ≡ e = cc (can.declares, i) in subst (λ (x : Endpoint). Each (λ (r : Region). IsTrue (opens_region w.handoff g.path r)) x.regions) same (each_open w.handoff g.path d.regions can.none_closed)

  now_served : AreServed w.handoff now
  now_served a k q at = grind (arith, placed (with_slot_filled g.slot (Some g.path) d) g.slot (Some g.path), put_there, here_open, was_there)

  lawful_now : IsLawfulOver (record { handoff = with_reset_at g.path w.handoff; guests = now })
  lawful_now = grind (arith, now_seated, open_alike, is_alike, now_served)

  module _ (there : IsSome (guest_named w.guests g.to)) where
    now_here : IsFresh d (file_of now g.path)
    now_here = inr (came_file c w.guests h.seated g.to g.slot g.path d can.declares nobody_has there can.low)

    board_now : state_over (with_reset_at g.path w.handoff) now ≡ with_reset_at g.path (board_state w)
    board_now = board_over w.handoff h.handoff g.path d can.declares w.guests now h.seated now_seated now_here now_others

    shown_now : with_seated_reset (with_reset_at g.path w.handoff) now ≡ with_reset_at g.path (with_seated_reset w.handoff w.guests)
    shown_now = shown_over w.handoff h.handoff g.path d can.declares w.guests now h.seated now_seated now_here now_others

    path_now : path_in now g.to g.slot ≡ Some g.path
    path_now = came_path c w.guests h.seated g.to g.slot g.path d can.declares nobody_has there can.low

    function_now : function_in now g.to g.slot ≡ Some (fresh d)
    function_now = came_function c w.guests h.seated g.to g.slot g.path d can.declares nobody_has there can.low

pub board_after_gift : BoardAfterGift
board_after_gift w h g there fault = grind (arith, can_give, given_is, board_now)

pub shown_after_gift : ShownAfterGift
shown_after_gift w h g there fault = grind (arith, can_give, given_is, shown_now)

pub lawful_after_gift : LawfulAfterGift
lawful_after_gift w h g = by (give_fault w g) refl
  where
    by : (o : Option ℕ) → give_fault w g ≡ o → IsLawfulOver (after_give w g)
    by (Some k) e = subst IsLawfulOver (sym (ap (λ (o : Option ℕ). cond (is_some o) w (given g (declared (board_at w.handoff.functions) g.path) w)) e)) h
    by None e = let can = can_give w g e in subst IsLawfulOver (sym (given_is w g can.0 e can.1.declares)) (lawful_now w h g can.0 can.1)

pub given_function : GivenFunction
given_function w h g there fault = grind (arith, can_give, given_is, path_now, function_now)

-- ---- laws of takings

pub record CanTake (w : WorldNow) (name : Text) (n : ℕ) : Type 0 where
  pub low : nat_le 32 n ≡ false
  pub f : Function
  pub there : function_in w.guests name n ≡ Some f

pub can_take : (w : WorldNow) (name : Text) (n : ℕ) → take_fault w name n ≡ None → CanTake w name n
can_take w name n h = grind arith

module _ (w : WorldNow) (h : IsLawfulOver w) (name : Text) (n : ℕ) (can : CanTake w name n) (p : Path) (at : path_in w.guests name n ≡ Some p) where
  abbrev lower : GuestsNow
  lower = with_guest (with_slot_emptied n) name w.guests

  abbrev e : Endpoint
  e = can.f.decl

  p_declares : declared (board_at w.handoff.functions) p ≡ Some e
  p_declares = declared_there (board_at w.handoff.functions) (path_in w.guests name n) (function_in w.guests name n) p can.f (seat_in (board_at w.handoff.functions) w.guests h.seated.guests name n) at can.there

  lower_seated : AreSeated (board_at w.handoff.functions) lower
  lower_seated = left_seated (board_at w.handoff.functions) w.guests h.seated name n

  lower_here : IsFresh e (file_of lower p)
  lower_here = inl (left_file (board_at w.handoff.functions) w.guests h.seated name n p at)

  lower_others : (q : Path) → path_eq p q ≡ false → file_of lower q ≡ file_of w.guests q
  lower_others = left_others (board_at w.handoff.functions) w.guests h.seated name n p at

  board_lower : state_over (with_reset_at p w.handoff) lower ≡ with_reset_at p (board_state w)
  board_lower = board_over w.handoff h.handoff p e p_declares w.guests lower h.seated lower_seated lower_here lower_others

  p_sits : sits w.guests p ≡ true
  p_sits =
      sym (sits_is (board_at w.handoff.functions) w.guests h.seated.guests p)
      ∙ ap is_some (Rattle.model_guests.proofs.FoundFiles.file_found w.guests h.seated.names_apart h.seated.paths_apart name n p can.f at (sym (function_named w.guests name n) ∙ can.there))

  pub seated_is : with_reset_at p (with_seated_reset w.handoff w.guests) ≡ with_seated_reset w.handoff w.guests
  seated_is =
      ap (λ (o : Option Endpoint). option_map_or (λ (x : Endpoint). with_change_at (after_reset x) p (with_seated_reset w.handoff w.guests)) o (with_seated_reset w.handoff w.guests))
      (ap (λ (c : Board). declared c p) (rows_seated w.handoff h.handoff p e p_declares w.guests lower h.seated lower_seated lower_here lower_others) ∙ p_declares)
      ∙ shown_reset w.handoff w.guests p e p_declares p_sits

  shown_lower : with_seated_reset (with_reset_at p w.handoff) lower ≡ with_seated_reset w.handoff w.guests
  shown_lower = shown_over w.handoff h.handoff p e p_declares w.guests lower h.seated lower_seated lower_here lower_others ∙ seated_is

  lawful_lower : IsLawfulOver (record { handoff = with_reset_at p w.handoff; guests = lower })
  lawful_lower = grind (arith, lower_seated, open_alike, left_was, alike, p_declares)

pub board_after_taking : BoardAfterTaking
board_after_taking w h name n fault p at = ap board_state (taken_is w name n fault p at) ∙ board_lower w h name n (can_take w name n fault) p at

pub shown_after_taking : ShownAfterTaking
shown_after_taking w h name n fault p at =
    ap (λ (v : WorldNow). with_seated_reset v.handoff v.guests) (taken_is w name n fault p at) ∙ shown_lower w h name n (can_take w name n fault) p at

pub lawful_after_taking : LawfulAfterTaking
lawful_after_taking w h name n = by (take_fault w name n) refl
  where
    by : (o : Option ℕ) → take_fault w name n ≡ o → IsLawfulOver (after_take w name n)
    by (Some k) i = subst IsLawfulOver (sym (ap (λ (o : Option ℕ). cond (is_some o) w (taken name n w)) i)) h
    by None i = grind (arith, can_take w name n i, some_path (board_at w.handoff.functions) (path_in w.guests name n), seat_in (board_at w.handoff.functions) w.guests h.seated.guests name n, taken_is w name n i, lawful_lower w h name n)

-- ---- other guests

pub others_after_gift : OthersAfterGift
others_after_gift w g other apart = grind (arith, lone_other)

pub others_after_taking : OthersAfterTaking
others_after_taking w name n other apart = grind (arith, lone_other)

-- ---- given and taken again

out_again : (y : GuestNow) (m : ℕ) (p : Option Path) (d : Endpoint) → path_at y.paths m ≡ None → slot_at y.lone.slots m ≡ None → with_slot_emptied m (with_slot_filled m p d y) ≡ y
out_again y m p d path at = grind (arith, set_back)

pub given_back : GivenBack
given_back w h g there fault =
    let can = can_give w g fault in
    let d = can.0 in
    let v : WorldNow = record { handoff = with_reset_at g.path w.handoff; guests = with_guest (with_slot_filled g.slot (Some g.path) d) g.to w.guests } in
    let is : after_give w g ≡ v = given_is w g d fault can.1.declares in
    let x = some_there (guest_named w.guests g.to) there in
    let was : path_in w.guests g.to g.slot ≡ None = no_path (board_at w.handoff.functions) (path_in w.guests g.to g.slot) (function_in w.guests g.to g.slot) (seat_in (board_at w.handoff.functions) w.guests h.seated.guests g.to g.slot) can.1.empty in
    grind (arith, taken_is, with_twice, with_none, out_again, function_named, function_now, path_now)
