use Rattle.std.proofs.Common.{◌∙◌, arith}
use Rattle.monitor.proofs.{Steps.{empty_lent, slot_lent}, ConfigSteps.{seen, config_reads, config_reads_ones}, Calls.{guest_in, inside_guests}}
use Rattle.monitor.proofs.engine.Engine.config_read.Goals as goal

pub index-requires : goal.index-requires
index-requires g c = omega (arith, inside_guests c.self.invariant.1 c.self.view_is c.args.guest c.requires.there)

pub returns-in_default-clause-reply : goal.returns-in_default-clause-reply
returns-in_default-clause-reply g c =
    let at = guest_in c.self.invariant.1 c.self.view_is c.args.guest c.requires.there c.index.ensures in
    c.master_abort_reply.ensures.reply ∙ config_reads_ones at c.args.slot (empty_lent at c.args.slot c.deref.ensures.value c.in_default.ensures.empty) c.args.off c.args.width

pub read_as_guest-requires-clause-seen : goal.read_as_guest-requires-clause-seen
read_as_guest-requires-clause-seen g c =
    let at = guest_in c.self.invariant.1 c.self.view_is c.args.guest c.requires.there c.index.ensures in
    seen at (slot_lent at c.deref.ensures.value c.in-Some.ensures.there)

pub returns-clause-reply : goal.returns-clause-reply
returns-clause-reply g c =
    let at = guest_in c.self.invariant.1 c.self.view_is c.args.guest c.requires.there c.index.ensures in
    let slot = slot_lent at c.deref.ensures.value c.in-Some.ensures.there in
    config_reads at slot c.args.off c.args.width (c.read_as_guest.ensures.value (seen at slot))
