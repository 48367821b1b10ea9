use Rattle.std.proofs.Common.{◌≡◌, ◌<◌, ◌∙◌, List, length, false, ap, refl, sym, subst, arith}
use Rattle.lists.proofs.Indices.{at_below}
use Rattle.model_registers.specs.ConfigAddress.{latched}
use Rattle.model_guests.specs.{Accesses.{answered, writes}, Lone.{own_latch, reply_at}}
use Rattle.accesses.specs.Accesses.{op_of}
use Rattle.config_bytes.specs.declared.op.Op.{Op}
use Rattle.monitor.{specs.{declared.guest.Guest.Guest, ByIndex.lone_nth, Counts.{after_access_nth, counted_nth, counts_of}}, proofs.{Calls.{guest_in, inside_guests, kept_in}, Steps.kept_nth, PortSteps.{latch_lent, latch_written}, Counts.set_counted, Lands.latch_unchanged, Machines.{accessed, same_machine}, Savable.after_access_sound}}
use Rattle.monitor.proofs.Ended.{Ends, ends}
use Rattle.monitor.proofs.engine.Engine.latch_access.Goals as goal

pub index-requires : goal.index-requires
index-requires g c = omega (arith, inside_guests c.self.invariant.1 c.self.view_is c.args.guest c.requires)

pub write_latch-requires : goal.write_latch-requires
write_latch-requires g c =
    subst (λ (gs : List Guest). c.args.guest < length gs) (sym c.deref_mut.ensures.value) (inside_guests c.self.invariant.1 c.self.view_is c.args.guest c.requires)

pub returns-in-Read-clause-reply : goal.returns-in-Read-clause-reply
returns-in-Read-clause-reply g c =
    let at = guest_in c.self.invariant.1 c.self.view_is c.args.guest c.requires c.index.ensures in
    ap (λ n. answered n 4) (c.value.ensures ∙ sym at.is.latch) ∙ ap (λ (op : Op). reply_at (lone_nth c.args.self.now.world c.args.guest) (op_of op) 4 own_latch) (sym c.in-Read.is)

pub returns-in-Read-clause-after : goal.returns-in-Read-clause-after
returns-in-Read-clause-after g c =
    same_machine c.args.self.now c.args.guest c.requires 4 own_latch
    ∙ ap (λ (op : Op). after_access_nth c.args.guest (op_of op) 4 own_latch c.args.self.now) (sym c.in-Read.is)

written : (g : _) (c : goal.After-self-1 g)
    → Ends c.self.inside c.self.inside.host c.write_latch.new.guests
    (λ m. m ≡ after_access_nth c.args.guest (writes c.in-Write.value) 4 own_latch c.args.self.now)
written g c =
    let gs = c.self.inside.guests.items in
    let one = at_below gs c.args.guest (inside_guests c.self.invariant.1 c.self.view_is c.args.guest c.requires) in
    let lent = latch_lent c.args.guest c.in-Write.value c.deref_mut.ensures.value one.1 c.write_latch.ensures in
    ends c.self.inside {ms = gs} refl (c.write_latch.auto.guests ∙ c.deref_mut.ensures.len)
    (latch_written (kept_nth (kept_in c.self.invariant.1 c.self.view_is) one.1) c.in-Write.value lent)
    (after_access_sound c.self.invariant.1 c.self.view_is c.args.guest c.requires (writes c.in-Write.value) 4 own_latch) (counted_nth c.args.guest false)
    (ap counts_of lent ∙ set_counted gs c.args.guest one.0 (record one.0 { latch = latched c.in-Write.value }) false one.1 refl)
    (λ left counts. accessed c.self.invariant.1 c.self.view_is c.args.guest left counts
    (sym (latch_unchanged (lone_nth c.args.self.now.world c.args.guest) (writes c.in-Write.value) 4)))

pub invariant_of-self : goal.invariant_of-self
invariant_of-self g c = (c.self.invariant.0, (written g c).sound)

pub returns-in-Write-clause-after : goal.returns-in-Write-clause-after
returns-in-Write-clause-after g c =
    (written g c).shown
    ∙ ap (λ (op : Op). after_access_nth c.args.guest (op_of op) 4 own_latch c.args.self.now) (sym c.in-Write.is)
