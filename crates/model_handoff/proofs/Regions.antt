-- A byte of an open region is claimed where the handoff has it, whatever guests did.
use Rattle.std.{proofs.Common.{◌≡◌, ℕ, ◌+◌, ◌%◌, true, List, arith}, specs.Prelude.{map, IsTrue}}
use Rattle.lists.{specs.Elements.IsIn, proofs.Members.{each_in, in_map, in_filter, in_flat_map}}
use Rattle.model_registers.{specs.{Registers.File, Declarations.{Kind, Region, Endpoint}, Decoding.{space_of, base, base_address, opens_space, command_word, Function}}, proofs.HitRegions.hit_is_of_region}
use Rattle.model_board.specs.{Paths.Path, Board.Board, AtReset.board_at, Routing.{row_of, routing}, State.{BoardFunction, State}}
use Rattle.model_set_up.specs.PlacedRegions.{PlacedRegion}
use Rattle.model_findings.{specs.{OpenRegions.{region_now, open_of, open_regions}, Orderly.IsStateOfBoard}, proofs.Claims.consistent_claims_are_unique}
use Rattle.model_guests.{specs.{Guests.GuestsNow, Seated.{AreSeated, IsSeatedAt}, Text.Text, AgreedBoard.state_over}, proofs.{DeclaredRows.declared_row, SeatedMoves.seat_in}}
use Rattle.model_handoff.{specs.{Regions.opens_region, RegionLaws.{RegionIsClaimed, HasSlot, HitReachesOver}}, proofs.{Keeping.{keeps_board, keeps_routing}, Standing.{endpoint_at, stands}}}

-- the board with guests is a board
pub state_stays : (s : State) → IsStateOfBoard s.functions → (gs : GuestsNow) → IsStateOfBoard (state_over s gs).functions
state_stays s state gs = grind (arith, keeps_board)

-- an open region of an endpoint is an open region of the board
is_open_there : (fs : List BoardFunction) (p : Path) (d : Endpoint) (file : File) (r : Region) → IsIn (endpoint_at p d file) fs → IsIn r d.regions → opens_space (command_word file) (space_of r.kind) ≡ true
    → IsIn (region_now p (base_address file r)) (open_regions (routing fs))
is_open_there fs p d file r m k opened =
    in_flat_map open_of (row_of (endpoint_at p d file)) (region_now p (base_address file r)) (routing fs) (in_map row_of (endpoint_at p d file) fs m)
    (in_filter (λ (q : PlacedRegion). opens_space (command_word file) q.space) (region_now p (base_address file r)) (map (region_now p) (map (base_address file) d.regions))
    (in_map (region_now p) (base_address file r) (map (base_address file) d.regions) (in_map (base_address file) r d.regions k)) opened)

pub region_is_claimed : RegionIsClaimed
region_is_claimed s state orderly gs seated p d row r declared opened k small = grind (arith, keeps_routing, stands, consistent_claims_are_unique, state_stays, is_open_there, each_in)

-- ---- hits

base_whole : (file : File) (n : ℕ) (k : Kind) → base file n k % 4 ≡ 0
base_whole file n k = grind arith

pub lanes_of : (first off n : ℕ) → first % 4 ≡ 0 → off % 4 ≡ n % 4 → (first + off) % 4 ≡ n % 4
lanes_of first off n h k = omega arith

pub seat_of : (b : Board) (gs : GuestsNow) → AreSeated b gs → (name : Text) (n : ℕ) (p : Path) (f : Function) → HasSlot gs name n p f → IsSeatedAt b p f
seat_of b gs seated name n p f has = grind (arith, seat_in b gs seated.guests name n)

pub hit_reaches_over : HitReachesOver
hit_reaches_over s state orderly gs seated served name k p f has space n h e =
    let seat : IsSeatedAt (board_at s.functions) p f = seat_of (board_at s.functions) gs seated name k p f has in
    let at = hit_is_of_region f.file f.decl.regions space n h e in
    let opened : opens_region s p at.0 ≡ true = each_in (λ (r : Region). IsTrue (opens_region s p r)) at.0 f.decl.regions (served name k p has.path f.decl seat.decl) at.1 in
    let claimed = region_is_claimed s state orderly gs seated p f.decl (declared_row (board_at s.functions) p f.decl seat.decl) at.0 at.1 opened h.offset at.2.inside in
    grind (arith, lanes_of, base_whole)
