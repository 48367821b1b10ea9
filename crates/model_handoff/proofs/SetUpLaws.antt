-- What holds over any handoff holds over what set-up leaves.
use Rattle.std.proofs.{Common.{◌≡◌, ℕ, ◌+◌, ◌≤◌, true, false, List, sym, ap, ◌∙◌, arith}, lemmas.Bool.Decides.nat_tests}
use Rattle.lists.{specs.Elements.IsIn, proofs.{EachLemmas.{each_of_map, each_map}, Tests.and_false}}
use Rattle.model_registers.{specs.{Registers.{File, cell_at}, Apertures.Apertures, EndpointTable.endpoint_reset}, proofs.HitRegions.hit_is_of_region}
use Rattle.model_board.specs.{Paths.Path, Board.{Decl, endpoint, bridge, Board}, Lawful.IsLawfulDecl, Ports.{ordinary, port_target}, Routing.routing, State.{BoardFunction, State}}
use Rattle.model_set_up.{specs.SetUp.{set_up_file, set_up_state}, proofs.{PlacedRegions.placed_addresses_are_in_range, SetUpNumbers.set_up_has_numbers, UniqueClaimant.{claim_of_region, left}}}
use Rattle.model_guests.{specs.{Guests.GuestsNow, AgreedBoard.state_over, AgreedLaws.Agrees}, proofs.{AgreedFiles.agreed_common, DeclaredRows.declared_row, DistinctPlaces.distinct_places, TablePlaces.{alike_places, agreed_at_reset}}}
use Rattle.model_handoff.{specs.{Handoffs.{is_given, HoldsReset}, AgreementLaws.OverHandoffs, SetUpLaws.{OverSetUp, SetUpAgrees, SetUpIsOnly, SetUpAtFirst, SetUpKeepsRouting, SetUpKeepsNumbers, HitReachesRegion}}, proofs.{Agreement.{state_agrees, state_is_only}, First.first_is_handoff, Keeping.{keeps_numbers, keeps_routing}, Regions.lanes_of, SetUpCase.{alike, set_up_is_handoff}}}

of_handoffs : (P : State → GuestsNow → Type 0) → OverHandoffs P → OverSetUp P
of_handoffs P holds b a board decls gs seated = grind (arith, set_up_is_handoff)

pub set_up_agrees : SetUpAgrees
set_up_agrees = of_handoffs (λ s gs. Agrees s gs (state_over s gs)) state_agrees

pub set_up_is_only : SetUpIsOnly
set_up_is_only = of_handoffs (λ s gs. (now : State) → Agrees s gs now → now ≡ state_over s gs) state_is_only

pub set_up_keeps_routing : SetUpKeepsRouting
set_up_keeps_routing =
    of_handoffs (λ s gs. routing (state_over s gs).functions ≡ routing s.functions) (λ s handoff gs seated. keeps_routing s handoff.board gs seated)

pub set_up_keeps_numbers : SetUpKeepsNumbers
set_up_keeps_numbers b a board decls gs seated few =
    let s : State = set_up_state b a in
    grind (arith, set_up_is_handoff b a board decls, keeps_numbers s, set_up_has_numbers b a few)

-- ---- at first

-- set-up writes no other register of an endpoint than those of which guests have copies
holds_reset : (b : Board) (a : Apertures) (p : Path) (d : Decl) → IsLawfulDecl d → HoldsReset d (set_up_file b a p d)
holds_reset b a p (endpoint d) lawful = λ q other.
    let reset : File = endpoint_reset d false in
    let file : File = set_up_file b a p (endpoint d) in
    ap (λ (f : File). cell_at f q) (sym (agreed_at_reset reset file (distinct_places d lawful false 0 (λ r. 0)) (alike b a p d lawful)))
    ∙ agreed_common file reset q (alike_places reset file (alike b a p d lawful)) other
holds_reset b a p (bridge d) lawful = tt

pub set_up_at_first : SetUpAtFirst
set_up_at_first w lawful =
    let handoff = set_up_is_handoff w.board w.apertures lawful.board lawful.functions in
    first_is_handoff w (set_up_state w.board w.apertures) handoff.0 handoff.1
    (each_of_map (λ (f : BoardFunction). is_given w f.path ≡ true → HoldsReset f.decl f.file) (left w.board w.apertures) w.board
    (grind (arith, each_map, holds_reset w.board w.apertures)))

-- ---- regions

no_less : (first off : ℕ) → 0x1000 ≤ first → 0x1000 ≤ first + off
no_less first off h = omega arith

beyond_the_latch : (n latch w : ℕ) → 0x1000 ≤ n → port_target latch n w ≡ ordinary
beyond_the_latch n latch w h = grind (arith, nat_tests, and_false)

pub hit_reaches_region : HitReachesRegion
hit_reaches_region b a can gs seated p f seat space n h e =
    let at = hit_is_of_region f.file f.decl.regions space n h e in
    let row : IsIn (record { path = p; decl = endpoint f.decl }) b = declared_row b p f.decl seat.decl in
    let fs : List BoardFunction = (state_over (set_up_state b a) gs).functions in
    let claim = claim_of_region b a can fs (set_up_keeps_routing b a can.places can.declarations gs seated) p f.decl row at.0 at.1 h.offset at.2.inside in
    grind (arith, lanes_of, beyond_the_latch, no_less, placed_addresses_are_in_range b a can p f.decl row at.0 at.1)
