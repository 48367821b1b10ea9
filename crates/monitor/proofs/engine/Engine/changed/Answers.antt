use Rattle.std.{proofs.Common.{◌∙◌, sym, ap, arith}, specs.Prelude.slice_get}
use Rattle.lists.proofs.Indices.{map_at}
use Rattle.model_handoff.specs.Changes.{MachineNow}
use Rattle.monitor.{specs.declared.guest.Guest.Guest, proofs.Calls.{guest_in, inside_guests}}
use Rattle.monitor.proofs.engine.Engine.changed.Goals as goal

pub index-requires : goal.index-requires
index-requires g c = omega (arith, inside_guests c.self.invariant.1 c.self.view_is c.args.guest c.requires)

pub returns : goal.returns
returns g c =
    let at = guest_in c.self.invariant.1 c.self.view_is c.args.guest c.requires c.index.ensures in
    ap (λ (m : MachineNow). slice_get m.counts c.args.guest) (sym c.self.view_is)
    ∙ map_at (λ (x : Guest). x.changed) c.self.inside.guests.items c.args.guest c.index.result.now at.stands
