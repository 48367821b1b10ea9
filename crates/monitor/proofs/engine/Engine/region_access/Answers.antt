use Rattle.std.proofs.Common.{◌∙◌, false, ap, refl, sym, arith, rules}
use Rattle.model_guests.specs.{Accesses.writes, Lone.{at_target, reply_at}}
use Rattle.bars.specs.Kinds.{named_space}
use Rattle.host_bridge.specs.HostState.{HostState}
use Rattle.accesses.specs.Accesses.{op_of}
use Rattle.config_bytes.specs.declared.op.Op.{Op}
use Rattle.monitor.{specs.{Views.{machine_shown, texts}, ByIndex.lone_nth, Counts.after_access_nth, Reaches.target_in}, proofs.{RegionSteps.{after_nowhere, holds_landed, landing_at, region_written, reply_nowhere, reply_read}, Calls.{guest_in, inside_guests}, Lands.region_unchanged, Machines.{accessed, same_machine, untouched}, Savable.after_access_sound}}
use Rattle.monitor.proofs.engine.Engine.region_access.Goals as goal

pub index-requires : goal.index-requires
index-requires g c = omega (arith, inside_guests c.self.invariant.1 c.self.view_is c.args.guest c.requires.there)

pub returns-in_default-clause-reply : goal.returns-in_default-clause-reply
returns-in_default-clause-reply g c =
    let at = guest_in c.self.invariant.1 c.self.view_is c.args.guest c.requires.there c.index.ensures in
    c.master_abort_reply.ensures.reply ∙ reply_nowhere at (named_space c.args.space) c.args.addr c.deref.ensures.value c.in_default.ensures.landing (op_of c.args.op) c.args.width

pub returns-in_default-clause-after : goal.returns-in_default-clause-after
returns-in_default-clause-after g c =
    let at = guest_in c.self.invariant.1 c.self.view_is c.args.guest c.requires.there c.index.ensures in
    untouched c.args.self.now c.args.guest _ _ (after_nowhere at (named_space c.args.space) c.args.addr c.deref.ensures.value c.in_default.ensures.landing (op_of c.args.op) c.args.width)
    (region_unchanged (lone_nth c.args.self.now.world c.args.guest) (op_of c.args.op) c.args.width (named_space c.args.space) c.args.addr)

pub slot_bar_to_board-at-requires : goal.slot_bar_to_board-at-requires
slot_bar_to_board-at-requires g c = search (rules, guest_in, holds_landed)

pub region_read-value-requires-clause-landing : goal.region_read-value-requires-clause-landing
region_read-value-requires-clause-landing g c =
    let at = guest_in c.self.invariant.1 c.self.view_is c.args.guest c.requires.there c.index.ensures in
    landing_at at (named_space c.args.space) c.args.addr c.deref.ensures.value c.in-Some.ensures.there c.deref-2.ensures.value c.slot_bar_to_board-at.ensures c.args.width c.in-Some.ensures.landing c.requires.width c.requires.aligned

pub region_write-requires-clause-landing : goal.region_write-requires-clause-landing
region_write-requires-clause-landing g c =
    let at = guest_in c.self.invariant.1 c.self.view_is c.args.guest c.requires.there c.index.ensures in
    landing_at at (named_space c.args.space) c.args.addr c.deref.ensures.value c.in-Some.ensures.there c.deref-2.ensures.value c.slot_bar_to_board-at.ensures c.args.width c.in-Some.ensures.landing c.requires.width c.requires.aligned

pub returns-in-Read-clause-reply : goal.returns-in-Read-clause-reply
returns-in-Read-clause-reply g c =
    let at = guest_in c.self.invariant.1 c.self.view_is c.args.guest c.requires.there c.index.ensures in
    reply_read at (named_space c.args.space) c.args.addr c.deref.ensures.value c.in-Some.ensures.there c.deref-2.ensures.value c.slot_bar_to_board-at.ensures c.args.width c.in-Some.ensures.landing c.region_read-value.ensures.value
    ∙ ap (λ (op : Op). reply_at (lone_nth c.args.self.now.world c.args.guest) (op_of op) c.args.width (at_target (target_in (named_space c.args.space) c.args.addr))) (sym c.in-Read.is)

pub returns-in-Read-clause-after : goal.returns-in-Read-clause-after
returns-in-Read-clause-after g c =
    let e = c.self.inside in
    let d = at_target (target_in (named_space c.args.space) c.args.addr) in
    ap (λ (h : HostState). machine_shown h (texts e.names) e.guests.items) c.region_read-value.ensures.after ∙ c.self.view_is
    ∙ same_machine c.args.self.now c.args.guest c.requires.there c.args.width d
    ∙ ap (λ (op : Op). after_access_nth c.args.guest (op_of op) c.args.width d c.args.self.now) (sym c.in-Read.is)

pub invariant_of-self-in-Write : goal.invariant_of-self-in-Write
invariant_of-self-in-Write g c =
    let at = guest_in c.self.invariant.1 c.self.view_is c.args.guest c.requires.there c.index.ensures in
    let left = region_written at (named_space c.args.space) c.args.addr c.deref.ensures.value c.in-Some.ensures.there c.deref-2.ensures.value c.slot_bar_to_board-at.ensures c.args.width c.in-Some.ensures.landing c.in-Write.value c.region_write.ensures in
    (g.met.R.Route.by_routing c.self.inside.route c.self.inside.host c.region_write.new.self left.routes c.self.invariant.0, after_access_sound c.self.invariant.1 c.self.view_is c.args.guest c.requires.there (writes c.in-Write.value) c.args.width (at_target (target_in (named_space c.args.space) c.args.addr)) left)

pub returns-in-Write-clause-after : goal.returns-in-Write-clause-after
returns-in-Write-clause-after g c =
    let at = guest_in c.self.invariant.1 c.self.view_is c.args.guest c.requires.there c.index.ensures in
    let d = at_target (target_in (named_space c.args.space) c.args.addr) in
    accessed c.self.invariant.1 c.self.view_is c.args.guest {t = false}
    (region_written at (named_space c.args.space) c.args.addr c.deref.ensures.value c.in-Some.ensures.there c.deref-2.ensures.value c.slot_bar_to_board-at.ensures c.args.width c.in-Some.ensures.landing c.in-Write.value c.region_write.ensures) refl
    (sym (region_unchanged (lone_nth c.args.self.now.world c.args.guest) (writes c.in-Write.value) c.args.width (named_space c.args.space) c.args.addr))
    ∙ ap (λ (op : Op). after_access_nth c.args.guest (op_of op) c.args.width d c.args.self.now) (sym c.in-Write.is)
