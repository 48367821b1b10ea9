use Rattle.std.proofs.Common.{◌≡◌, sym, ap, subst, arith}
use Rattle.model_guests.specs.World.{HasLawfulGuests}
use Rattle.host_bridge.specs.HostState.{HostState}
use Rattle.monitor.specs.Beginnings.{world_on}
use Rattle.session.proofs.Declared.{same_world}
use Rattle.session.proofs.opening.set_up_and_assign.Goals as goal
use Rattle.session.proofs.opening.set_up_and_assign.Goals.{In_ok-ready}

same : (c : In_ok-ready) → world_on c.in_ok-ready.ready.host c.args.guests.now ≡ world_on c.args.host c.args.guests.now
same c = same_world c.args.host c.in_ok-ready.ready.host c.args.guests.now c.in_ok-ready.ensures.board (ap (λ (h : HostState). h.apertures) c.in_ok-ready.ensures.ready)

pub new-requires : goal.new-requires
new-requires c = subst HasLawfulGuests (sym (same c)) c.requires.lawful.guests

pub returns-clause-made : goal.returns-clause-made
returns-clause-made c = grind (arith, same)
