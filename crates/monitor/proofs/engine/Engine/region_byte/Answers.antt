use Rattle.std.proofs.Common.{◌∙◌, ap, refl, sym, arith, false, Ok, Some}
use Rattle.model_registers.specs.Registers.{block}
use Rattle.model_guests.specs.{Accesses.{reads, writes}, Slots.Landing}
use Rattle.model_handoff.specs.RegionBytes.{byte_reply, reply_there, after_there, register_of}
use Rattle.config_bytes.specs.declared.op.Op.{Op}
use Rattle.accesses.specs.Accesses.{op_of, part_of}
use Rattle.monitor.{specs.{ByIndex.lone_nth, Counts.{after_byte_nth, after_nth}, DeviceBytes.device_byte}, proofs.{Calls.{guest_in, inside_guests}, Machines.{accessed, still_shown}, RegionBytes.{byte_refused, byte_closed, lands, opening_is, read_stays, slot_refused}, RegionSteps.{read_there, written_there}, Steps.slot_lent, Savable.after_write_sound}}
use Rattle.monitor.proofs.engine.Engine.region_byte.Goals as goal

pub index-requires : goal.index-requires
index-requires g c = omega (arith, inside_guests c.self.invariant.1 c.self.view_is c.args.guest c.requires)

pub returns-in-Err-clause-reply : goal.returns-in-Err-clause-reply
returns-in-Err-clause-reply g c =
    let at = guest_in c.self.invariant.1 c.self.view_is c.args.guest c.requires c.index.ensures in
    (byte_refused {m = c.args.self.now} at (op_of c.args.op) (device_byte c.args.slot c.args.place c.args.off) (slot_refused at c.deref.ensures.value c.args.slot c.args.place c.args.off c.in-Err.ensures.refused)).0

pub returns-in-Err-clause-after : goal.returns-in-Err-clause-after
returns-in-Err-clause-after g c =
    let at = guest_in c.self.invariant.1 c.self.view_is c.args.guest c.requires c.index.ensures in
    (byte_refused {m = c.args.self.now} at (op_of c.args.op) (device_byte c.args.slot c.args.place c.args.off) (slot_refused at c.deref.ensures.value c.args.slot c.args.place c.args.off c.in-Err.ensures.refused)).1

pub returns-in_default-clause-reply : goal.returns-in_default-clause-reply
returns-in_default-clause-reply g c =
    let at = guest_in c.self.invariant.1 c.self.view_is c.args.guest c.requires c.index.ensures in
    (byte_refused {m = c.args.self.now} at (op_of c.args.op) (device_byte c.args.slot c.args.place c.args.off) (opening_is at c.deref.ensures.value c.args.slot c.args.place c.args.off c.in-Ok.ensures.there c.in_default.ensures)).0

pub returns-in_default-clause-after : goal.returns-in_default-clause-after
returns-in_default-clause-after g c =
    let at = guest_in c.self.invariant.1 c.self.view_is c.args.guest c.requires c.index.ensures in
    (byte_refused {m = c.args.self.now} at (op_of c.args.op) (device_byte c.args.slot c.args.place c.args.off) (opening_is at c.deref.ensures.value c.args.slot c.args.place c.args.off c.in-Ok.ensures.there c.in_default.ensures)).1

pub returns-then-not-opened-clause-reply : goal.returns-then-not-opened-clause-reply
returns-then-not-opened-clause-reply g c =
    let at = guest_in c.self.invariant.1 c.self.view_is c.args.guest c.requires c.index.ensures in
    let opening = opening_is at c.deref.ensures.value c.args.slot c.args.place c.args.off c.in-Ok.ensures.there c.in-Some.ensures in
    c.master_abort_reply.ensures.reply ∙ (byte_closed {m = c.args.self.now} at (op_of c.args.op) (device_byte c.args.slot c.args.place c.args.off) (opening ∙ ap Ok c.if-not-opened.true)).0

pub returns-then-not-opened-clause-after : goal.returns-then-not-opened-clause-after
returns-then-not-opened-clause-after g c =
    let at = guest_in c.self.invariant.1 c.self.view_is c.args.guest c.requires c.index.ensures in
    let opening = opening_is at c.deref.ensures.value c.args.slot c.args.place c.args.off c.in-Ok.ensures.there c.in-Some.ensures in
    (byte_closed {m = c.args.self.now} at (op_of c.args.op) (device_byte c.args.slot c.args.place c.args.off) (opening ∙ ap Ok c.if-not-opened.true)).1

pub region_read-value-requires-clause-landing : goal.region_read-value-requires-clause-landing
region_read-value-requires-clause-landing g c =
    let at = guest_in c.self.invariant.1 c.self.view_is c.args.guest c.requires c.index.ensures in
    lands at c.deref.ensures.value c.args.slot c.args.place c.args.off c.in-Ok.ensures.there c.in-Some.ensures refl c.function_bar_to_board-at.ensures

pub region_write-requires-clause-landing : goal.region_write-requires-clause-landing
region_write-requires-clause-landing g c =
    let at = guest_in c.self.invariant.1 c.self.view_is c.args.guest c.requires c.index.ensures in
    lands at c.deref.ensures.value c.args.slot c.args.place c.args.off c.in-Ok.ensures.there c.in-Some.ensures refl c.function_bar_to_board-at.ensures

pub returns-in-Read-clause-reply : goal.returns-in-Read-clause-reply
returns-in-Read-clause-reply g c =
    let at = guest_in c.self.invariant.1 c.self.view_is c.args.guest c.requires c.index.ensures in
    let opening = opening_is at c.deref.ensures.value c.args.slot c.args.place c.args.off c.in-Ok.ensures.there c.in-Some.ensures in
    let lone = lone_nth c.args.self.now.world c.args.guest in
    let d = device_byte c.args.slot c.args.place c.args.off in
    read_there at (slot_lent at c.deref.ensures.value c.in-Ok.ensures.there.there) (register_of (part_of c.args.place)) c.args.off c.function_bar_to_board-at.ensures 1 c.region_read-value.ensures.value
    ∙ sym (ap (reply_there lone reads d) (opening ∙ ap Ok c.if-not-opened.false))
    ∙ ap (λ (op : Op). byte_reply lone (op_of op) d) (sym c.in-Read.is)

pub returns-in-Read-clause-after : goal.returns-in-Read-clause-after
returns-in-Read-clause-after g c =
    let at = guest_in c.self.invariant.1 c.self.view_is c.args.guest c.requires c.index.ensures in
    let opening = opening_is at c.deref.ensures.value c.args.slot c.args.place c.args.off c.in-Ok.ensures.there c.in-Some.ensures in
    still_shown c.self.invariant.1 c.self.view_is c.region_read-value.ensures.after
    ∙ read_stays {m = c.args.self.now} at (device_byte c.args.slot c.args.place c.args.off) (opening ∙ ap Ok c.if-not-opened.false)
    ∙ ap (λ (op : Op). after_byte_nth c.args.guest (op_of op) (device_byte c.args.slot c.args.place c.args.off) c.args.self.now) (sym c.in-Read.is)

pub returns-in-Read-clause-read : goal.returns-in-Read-clause-read
returns-in-Read-clause-read g c = λ _. still_shown c.self.invariant.1 c.self.view_is c.region_read-value.ensures.after

pub invariant_of-self-in-Write : goal.invariant_of-self-in-Write
invariant_of-self-in-Write g c =
    let at = guest_in c.self.invariant.1 c.self.view_is c.args.guest c.requires c.index.ensures in
    let left = written_there at (slot_lent at c.deref.ensures.value c.in-Ok.ensures.there.there) (register_of (part_of c.args.place)) c.args.off c.function_bar_to_board-at.ensures 1 c.in-Write.value c.region_write.ensures in (
      g.met.R.Route.by_routing c.self.inside.route c.self.inside.host c.region_write.new.self left.routes c.self.invariant.0,
      after_write_sound c.self.invariant.1 c.self.view_is c.args.guest c.requires c.in-Write.value 1
          (Some (let l : Landing = record { slot = c.args.slot; place = block (register_of (part_of c.args.place)) c.args.off } in l)) left,
    )

pub returns-in-Write-clause-reply : goal.returns-in-Write-clause-reply
returns-in-Write-clause-reply g c =
    let at = guest_in c.self.invariant.1 c.self.view_is c.args.guest c.requires c.index.ensures in
    let opening = opening_is at c.deref.ensures.value c.args.slot c.args.place c.args.off c.in-Ok.ensures.there c.in-Some.ensures in
    let lone = lone_nth c.args.self.now.world c.args.guest in
    let d = device_byte c.args.slot c.args.place c.args.off in
    sym (ap (reply_there lone (writes c.in-Write.value) d) (opening ∙ ap Ok c.if-not-opened.false))
    ∙ ap (λ (op : Op). byte_reply lone (op_of op) d) (sym c.in-Write.is)

pub returns-in-Write-clause-after : goal.returns-in-Write-clause-after
returns-in-Write-clause-after g c =
    let at = guest_in c.self.invariant.1 c.self.view_is c.args.guest c.requires c.index.ensures in
    let opening = opening_is at c.deref.ensures.value c.args.slot c.args.place c.args.off c.in-Ok.ensures.there c.in-Some.ensures in
    let m = c.args.self.now in
    let d = device_byte c.args.slot c.args.place c.args.off in
    accessed c.self.invariant.1 c.self.view_is c.args.guest {t = false}
    (written_there at (slot_lent at c.deref.ensures.value c.in-Ok.ensures.there.there) (register_of (part_of c.args.place)) c.args.off c.function_bar_to_board-at.ensures 1 c.in-Write.value c.region_write.ensures) refl refl
    ∙ sym (ap (λ o. after_nth c.args.guest (after_there (lone_nth m.world c.args.guest) (writes c.in-Write.value) d o) false m) (opening ∙ ap Ok c.if-not-opened.false))
    ∙ ap (λ (op : Op). after_byte_nth c.args.guest (op_of op) d m) (sym c.in-Write.is)

pub returns-in-Write-clause-read : goal.returns-in-Write-clause-read
returns-in-Write-clause-read g c = λ e. let never = sym (ap op_of c.in-Write.is) ∙ e in cc
