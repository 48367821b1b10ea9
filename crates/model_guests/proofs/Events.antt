-- What an event of a guest does to the board.
use Rattle.std.{proofs.Common.{◌≡◌, [], Some, None, Option, refl, ap, ◌∙◌, arith}, specs.Option.option_map_or}
use Rattle.model_registers.specs.{Registers.Place, Decoding.Function}
use Rattle.model_board.specs.{Paths.Path, Board.Board, AtReset.board_at, State.State}
use Rattle.model_guests.{specs.{Accesses.{Event, access, raises}, Slots.{Landing, Slots, slot_at, with_file}, Lone.{after_event, reset_guest}, Text.Text, Guests.{GuestNow, GuestsNow, file_in, function_in, guest_after, guest_named, lone_of, path_in, with_guest}, AgreedBoard.{state_over, with_change_at}, Seated.{AreSeated, IsSeat}, ChangeLaws.{ChangesAlike, EventReachesBoard, board_after, board_effect, lands, own_effect, with_slot_changed}}, proofs.{AgreedFiles.{writes_alike, raises_alike}, SeatedMoves.seat_in, FoundFiles.{file_stays, file_alike}, Changes.{changes_one_function, same_files_over}}}

part_alike : (e : Event) (p : Place) → ChangesAlike (own_effect e p) (board_effect e p)
part_alike (access a) p left own = grind (arith, writes_alike)
part_alike (raises r) p left own = raises_alike r.mask p left own

-- ---- the slots after an event

abbrev after_landing : Event → Slots → Option Landing → Slots
after_landing e slots o = option_map_or (λ (l : Landing). with_file (own_effect e l.place) l.slot slots) o slots

-- ---- the board after it

none_there : (b : Board) (o : Option Function) → IsSeat b None o → o ≡ None
none_there b o h = grind arith

module _ (s : State) (gs : GuestsNow) (seated : AreSeated (board_at s.functions) gs) (name : Text) (e : Event) where
  abbrev after_it : GuestNow → GuestNow
  after_it = guest_after e

  alone_is : (t : GuestNow) → guest_named gs name ≡ Some t → lone_of gs name ≡ t.lone
  alone_is t i = ap (λ (o : Option GuestNow). option_map_or (λ (u : GuestNow). u.lone) o (reset_guest [])) i

  slots_are : (t : GuestNow) → guest_named gs name ≡ Some t → (o : Option Landing) → lands (lone_of gs name) e ≡ o → (after_event t.lone e).slots ≡ after_landing e t.lone.slots o
  slots_are t i o h = grind (arith, alone_is)

  by_path : (l : Landing) → lands (lone_of gs name) e ≡ Some l → (q : Option Path) → path_in gs name l.slot ≡ q
      → state_over s (with_guest after_it name gs) ≡ option_map_or (λ (p : Path). with_change_at (board_effect e l.place) p (state_over s gs)) q (state_over s gs)
  by_path l h None i = grind (arith, same_files_over s gs (with_guest after_it name gs), file_stays after_it name, slots_are, empty)
    where
      empty : (t : GuestNow) → guest_named gs name ≡ Some t → slot_at t.lone.slots l.slot ≡ None
      empty t at = grind (arith, alone_is t, none_there (board_at s.functions) (function_in gs name l.slot), seat_in (board_at s.functions) gs seated.guests name l.slot)
  by_path l h (Some p) i =
      let changed : GuestNow → GuestNow = with_slot_changed (own_effect e l.place) l.slot in
      same_files_over s (with_guest changed name gs) (with_guest after_it name gs)
      (λ q. file_alike after_it changed name q gs seated.names_apart (λ t at. ap (λ (x : Slots). file_in t.paths x q) (slots_are t at (Some l) h)))
      ∙ changes_one_function s gs seated name l.slot p i (own_effect e l.place) (board_effect e l.place) (part_alike e l.place)

  pub by_landing : (o : Option Landing) → lands (lone_of gs name) e ≡ o → state_over s (with_guest after_it name gs) ≡ board_after gs name e o (state_over s gs)
  by_landing None h =
      same_files_over s gs (with_guest after_it name gs) (λ q. file_stays after_it name q gs seated.names_apart (λ t at. ap (λ (x : Slots). file_in t.paths x q) (slots_are t at None h)))
  by_landing (Some l) h = by_path l h (path_in gs name l.slot) refl

pub event_reaches_board : EventReachesBoard
event_reaches_board s gs seated name e = by_landing s gs seated name e (lands (lone_of gs name) e) refl
