-- Whatever the lines of a session do, the board's functions show the capability lists that they were declared with.
use Rattle.std.{proofs.Common.{◌≡◌, ℕ, Bool, List, [], ◌∷◌, Some, None, Option, refl, sym, ap, ◌∙◌, subst}, specs.{Prelude.map, Option.option_map_or}}
use Rattle.lists.{specs.Elements.Each, proofs.EachLemmas.{each_from_map, each_map}}
use Rattle.model_registers.{specs.{Registers.{Place, File, write}, Capabilities.write_of}, proofs.Capabilities.{lists_held, lists_after, list_shown}}
use Rattle.model_board.{specs.{Paths.Path, Board.{Decl, endpoint, bridge, Row, Board, has_multifunction_bit}, AtReset.{board_at, reset_file}, Lawful.HasLawfulDecls, State.{BoardFunction, State, row_at}}, proofs.StateRows.state_rows}
use Rattle.model_guests.{specs.{Text.Text, World.{World, IsLawfulWorld, declared, endpoint_of}, Guests.{GuestsNow, file_of, guests_at_first}, AgreedBoard.state_over, Lines.meaning, LineRuns.after_lines, Seated.AreSeated, WorldNow.{WorldNow, names_now}}, proofs.{Along.seated_meaning, DeclaredRows.rows_found, ListedBoards.{GuestsReached, HoldsAt, Holds, all_agreed, guests_hold, guests_reached_at_first, meaning_reached}, SeatedFirst.seated_at_first}}
use Rattle.model_handoff.{specs.{Handoffs.taken_over, Regions.{HandoffFault, first_fault}}, proofs.{First.first_is_reset, Keeping.rows_stay}}
use Rattle.model_lines.{specs.{FirmwareLines.{Meaning, nothing, asked, bad}, Requests.{HostRequest, for_report, for_guests, for_why, request}, Sessions.{DrivenNow, SessionNow, driven, given, at_reset, session_functions, session_protocol, handed_over, after_handover, after_meant, after_board_line, after_request, after_session_line}, SessionLists.{ShowsDeclared, SessionsShowLists}}, proofs.FirmwareLeaves.{IsKept, access_alike}}
use Rattle.model_lines.specs.FirmwareLines as firmware

-- ---- a board that firmware drives

record DrivenHolds (b : DrivenNow) : Type 0 where
  lawful : IsLawfulWorld b.world
  rows : board_at b.state.functions ≡ b.world.board
  lists : Each Holds b.state.functions

reset_holds : (b : Board) (p : Path) (d : Decl) → HasLawfulDecls (record { path = p; decl = d } ∷ []) → HoldsAt d (reset_file b p d)
reset_holds b p (endpoint d) h = lists_held d h.0 (has_multifunction_bit b p) 0 (λ r. 0)
reset_holds b p (bridge d) h = tt

all_reset : (b rs : Board) → HasLawfulDecls rs → Each Holds (map (λ (r : Row). record { path = r.path; decl = r.decl; file = reset_file b r.path r.decl }) rs)
all_reset b [] h = tt
all_reset b (r ∷ rs) h = (reset_holds b r.path r.decl (h.0, tt), all_reset b rs h.1)

at_reset_holds : (w : World) → IsLawfulWorld w → DrivenHolds (at_reset w)
at_reset_holds w lawful = record { lawful = lawful; rows = state_rows w.board (reset_file w.board); lists = all_reset w.board w.board lawful.functions }

kept_at : (d : Decl) (file : File) (ons : List Bool) (v : ℕ) (q : Place) → HoldsAt d file → HoldsAt d (write ons v q file)
kept_at (endpoint d) file ons v q h = lists_after (write_of ons v q) d file h
kept_at (bridge d) file ons v q h = tt

lists_kept : IsKept Holds
lists_kept f ons v q h = kept_at f.decl f.file ons v q h

meant_holds : (b : DrivenNow) (m : Meaning) → DrivenHolds b → DrivenHolds (after_meant b m)
meant_holds b nothing h = h
meant_holds b (asked a) h =
    let alike = access_alike Holds lists_kept b.state a in
    record { lawful = h.lawful; rows = alike.rows ∙ h.rows; lists = alike.all h.lists }
meant_holds b (bad who n) h = h

-- ---- a board that guests have

abbrev AreFound : List BoardFunction → Type 0
AreFound fs = Each (λ (f : BoardFunction). declared (board_at fs) f.path ≡ endpoint_of (row_at f)) fs

record GivenHolds (m : WorldNow) : Type 0 where
  found : AreFound m.handoff.functions
  lists : Each Holds m.handoff.functions
  seated : AreSeated (board_at m.handoff.functions) m.guests
  reached : GuestsReached m.guests

-- over a board with the lists and guests with theirs, the state of the board has them
over_holds : (s : State) (gs : GuestsNow) → AreFound s.functions → Each Holds s.functions → AreSeated (board_at s.functions) gs → GuestsReached gs → Each Holds (state_over s gs).functions
over_holds s gs found lists seated reached =
    all_agreed (board_at s.functions) (file_of gs) (λ p own e. guests_hold (board_at s.functions) gs p own seated.guests reached e) s.functions found lists

found_on : (w : World) → IsLawfulWorld w → (fs : List BoardFunction) → board_at fs ≡ w.board → AreFound fs
found_on w lawful fs same =
    each_from_map (λ (r : Row). declared (board_at fs) r.path ≡ endpoint_of r) row_at fs
    (subst (λ (b : Board). Each (λ (r : Row). declared b r.path ≡ endpoint_of r) b) (sym same) (rows_found w.board lawful.board.in_order))

seated_on : (w : World) → IsLawfulWorld w → (b : Board) → b ≡ w.board → AreSeated b (guests_at_first w)
seated_on w lawful b same = subst (λ (x : Board). AreSeated x (guests_at_first w)) (sym same) (seated_at_first w lawful.guests)

given_holds : (b : DrivenNow) → DrivenHolds b → GivenHolds (handed_over b).world
given_holds b h =
    let w : World = b.world in
    let gs : GuestsNow = guests_at_first w in
    let taken : State = taken_over w b.state in
    let first : GuestsReached gs = guests_reached_at_first w h.lawful.functions in
    let is : (state_over b.state gs).functions ≡ taken.functions = ap (λ (s : State). s.functions) (first_is_reset w b.state) in
    let rows : board_at taken.functions ≡ w.board = ap board_at (sym is) ∙ rows_stay (file_of gs) b.state.functions ∙ h.rows in
    record {
      found = found_on w h.lawful taken.functions rows;
      lists = subst (λ (fs : List BoardFunction). Each Holds fs) is
          (over_holds b.state gs (found_on w h.lawful b.state.functions h.rows) h.lists (seated_on w h.lawful (board_at b.state.functions) h.rows) first);
      seated = seated_on w h.lawful (board_at taken.functions) rows;
      reached = first;
    }

-- ---- sessions

abbrev SessionHolds : SessionNow → Type 0
SessionHolds (driven b) = DrivenHolds b
SessionHolds (given m) = GivenHolds m.world

handover_holds : (b : DrivenNow) (f : Option HandoffFault) → DrivenHolds b → SessionHolds (after_handover b f)
handover_holds b None h = given_holds b h
handover_holds b (Some f) h = h

request_holds : (b : DrivenNow) (line : Text) (r : Option HostRequest) → DrivenHolds b → SessionHolds (option_map_or (after_request b) r (driven (after_board_line b line)))
request_holds b line None h = meant_holds b (firmware.meaning line) h
request_holds b line (Some for_guests) h = handover_holds b (first_fault b.world b.state) h
request_holds b line (Some (for_report r)) h = h
request_holds b line (Some (for_why at)) h = h

line_holds : (x : SessionNow) (line : Text) → SessionHolds x → SessionHolds (after_session_line x line)
line_holds (driven b) line h = request_holds b line (request line) h
line_holds (given m) line h =
    let means = meaning (names_now m.world) line in record {
      found = h.found;
      lists = h.lists;
      seated = seated_meaning (board_at m.world.handoff.functions) m.world.guests means h.seated;
      reached = meaning_reached m.world.guests means h.reached;
    }

lines_hold : (ls : List Text) (x : SessionNow) → SessionHolds x → SessionHolds (after_lines session_protocol x ls)
lines_hold [] x h = h
lines_hold (l ∷ ls) x h = lines_hold ls (after_session_line x l) (line_holds x l h)

board_holds : (x : SessionNow) → SessionHolds x → Each Holds (session_functions x)
board_holds (driven b) h = h.lists
board_holds (given m) h = over_holds m.world.handoff m.world.guests h.found h.lists h.seated h.reached

pub sessions_show_capability_lists : SessionsShowLists
sessions_show_capability_lists w lawful ls =
    let now : SessionNow = after_lines session_protocol (driven (at_reset w)) ls in
    each_map Holds ShowsDeclared (session_functions now) (λ f h d c cs is ids. list_shown d (c ∷ cs) f.file (subst (λ (x : Decl). HoldsAt x f.file) is h d c cs refl ids))
    (board_holds now (lines_hold ls (driven (at_reset w)) (at_reset_holds w lawful)))
