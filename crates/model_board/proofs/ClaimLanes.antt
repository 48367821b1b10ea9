-- A region begins at a multiple of 4, so an access lies in the same byte lanes in the region as at its address.
use Rattle.std.proofs.Common.{◌≡◌, ℕ, ◌%◌, List, Some, arith}
use Rattle.model_registers.{proofs.HitRegions.hit_is_of_region, specs.Decoding.Space}
use Rattle.model_board.specs.{State.BoardFunction, Claims.{Claim, claim_of}, PortLaws.ClaimsKeepLanes}
use Rattle.lists.proofs.FirstFound.{first_some_has}

function_in_lane : (fs : List BoardFunction) (space : Space) (a : ℕ) (f : BoardFunction) (c : Claim) → claim_of fs space a f ≡ Some c → c.offset % 4 ≡ a % 4
function_in_lane fs space a f c = grind (arith, hit_is_of_region)

pub claims_keep_lanes : ClaimsKeepLanes
claims_keep_lanes fs space a c = first_some_has (claim_of fs space a) (λ (c : Claim). c.offset % 4 ≡ a % 4) fs c (function_in_lane fs space a)
