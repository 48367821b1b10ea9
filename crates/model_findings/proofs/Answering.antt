-- What holds or forwards an address answers it.
use Rattle.std.{proofs.{Common.{◌≡◌, ℕ, true, refl, arith}, lemmas.Bool.Decides.nat_tests}, specs.List.list_any}
use Rattle.model_registers.specs.Decoding.{Space, same_space}
use Rattle.model_board.specs.{Paths.Path, Routing.{Ranges, regions, windows, RoutingRow, row_forwards}}
use Rattle.model_set_up.{specs.PlacedRegions.{PlacedRegion, holds}, proofs.Holders.self_space}
use Rattle.model_findings.specs.Agents.{extent_holds, forwarded_extents, region_agent, bridge_agent, answers}
use Rattle.lists.proofs.Tests.{or_false}

-- what a bridge forwards is what its extents hold
pub forwards_extents : (space : Space) (n : ℕ) (p : Path) (command : ℕ) (rs : Ranges)
    → list_any (extent_holds n) (forwarded_extents space (record { path = p; command = command; ranges = rs })) ≡ row_forwards space n (record { path = p; command = command; ranges = rs })
forwards_extents space n p command (regions bs) = refl
forwards_extents space n p command (windows wio wmem wpref) = grind (arith, nat_tests)

pub bridge_answers : (space : Space) (n : ℕ) (r : RoutingRow) → answers space n (bridge_agent r space) ≡ row_forwards space n r
bridge_answers space n r = let e : same_space space space ≡ true = self_space space in rw e (forwards_extents space n r.path r.command r.ranges)

pub region_answers : (space : Space) (n : ℕ) (q : PlacedRegion) → answers space n (region_agent q) ≡ holds space n q
region_answers space n q = grind (arith, or_false)
