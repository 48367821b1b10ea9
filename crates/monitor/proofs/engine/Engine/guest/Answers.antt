use Rattle.std.proofs.Common.{arith}
use Rattle.monitor.proofs.{QuerySteps.guest_nth_is, Calls.{guest_in, inside_guests}}
use Rattle.monitor.proofs.engine.Engine.guest.Goals as goal

pub index-requires : goal.index-requires
index-requires g c = omega (arith, inside_guests c.self.invariant.1 c.self.view_is c.args.guest c.requires)

pub returns : goal.returns
returns g c = guest_nth_is (guest_in c.self.invariant.1 c.self.view_is c.args.guest c.requires c.index.ensures)
