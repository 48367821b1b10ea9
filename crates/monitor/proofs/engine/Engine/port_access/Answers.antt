use Rattle.std.proofs.Common.{◌≡◌, ◌∙◌, ap, sym, arith}
use Rattle.model_guests.specs.{Accesses.port, Lone.{Destination, LoneGuest, by_select, destination}}
use Rattle.accesses.specs.Accesses.{op_of}
use Rattle.monitor.{specs.{ByIndex.{lone_nth, with_lone_nth}, Counts.after_access_nth}, proofs.{Lands.nowhere_unchanged, Machines.untouched, PortSteps.{destination_is, named_select, nothing_after, nothing_at}, Calls.{guest_in, inside_guests}, Steps.with_same}}
use Rattle.paths.specs.declared.latch.Select.TheVariants as select
use Rattle.monitor.proofs.engine.Engine.port_access.Goals as goal

pub index-requires : goal.index-requires
index-requires g c = omega (arith, inside_guests c.self.invariant.1 c.self.view_is c.args.guest c.requires.there)

pub returns-in-Ordinary-clause-reply : goal.returns-in-Ordinary-clause-reply
returns-in-Ordinary-clause-reply g c =
    let at = guest_in c.self.invariant.1 c.self.view_is c.args.guest c.requires.there c.index.ensures in
    grind (arith, destination_is)

pub returns-in-Ordinary-clause-after : goal.returns-in-Ordinary-clause-after
returns-in-Ordinary-clause-after g c =
    let at = guest_in c.self.invariant.1 c.self.view_is c.args.guest c.requires.there c.index.ensures in
    grind (arith, destination_is)

pub returns-in-Nowhere-clause-reply : goal.returns-in-Nowhere-clause-reply
returns-in-Nowhere-clause-reply g c =
    let at = guest_in c.self.invariant.1 c.self.view_is c.args.guest c.requires.there c.index.ensures in
    grind (arith, destination_is, nothing_at)

pub returns-in-Nowhere-clause-after : goal.returns-in-Nowhere-clause-after
returns-in-Nowhere-clause-after g c =
    let at = guest_in c.self.invariant.1 c.self.view_is c.args.guest c.requires.there c.index.ensures in
    let lone = lone_nth c.args.self.now.world c.args.guest in
    let goes : by_select (port c.args.at) (named_select (select.Nowhere)) ≡ destination lone.latch c.args.width (port c.args.at) =
    destination_is c.args.at c.args.width (sym at.is.latch) (sym c.is_address_port.ensures ∙ c.if-is_address_port.false) c.in-Nowhere.ensures.select in
    untouched c.args.self.now c.args.guest _ _ (sym (with_same at) ∙ ap (λ (l : LoneGuest). with_lone_nth c.args.guest l c.args.self.now.world) (nothing_after lone (op_of c.args.op) c.args.width)) (nowhere_unchanged lone (op_of c.args.op) c.args.width)
    ∙ ap (λ (d : Destination). after_access_nth c.args.guest (op_of c.args.op) c.args.width d c.args.self.now) goes

pub returns-in-Slot-clause-reply : goal.returns-in-Slot-clause-reply
returns-in-Slot-clause-reply g c =
    let at = guest_in c.self.invariant.1 c.self.view_is c.args.guest c.requires.there c.index.ensures in
    grind (arith, destination_is)

pub returns-in-Slot-clause-after : goal.returns-in-Slot-clause-after
returns-in-Slot-clause-after g c =
    let at = guest_in c.self.invariant.1 c.self.view_is c.args.guest c.requires.there c.index.ensures in
    grind (arith, destination_is)
