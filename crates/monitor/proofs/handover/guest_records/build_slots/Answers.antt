use Rattle.std.proofs.Common.{◌≡◌, ◌+◌, ◌-◌, ℕ, suc, Option, List, length, sym, subst, arith, rules}
use Rattle.lists.proofs.Indices.{read_at}
use Rattle.monitor.{specs.declared.guest.AssignedFunction.AssignedFunction, proofs.FirstGuests.{AreSlotsWith, slot_pushed, all_filled, empty_pushed, all_slots}}
use Rattle.monitor.proofs.handover.guest_records.build_slots.Goals as goal

pub loop-path-preserved : goal.loop-path-preserved
loop-path-preserved c = search (rules, read_at, slot_pushed)

pub loop-empty-init : goal.loop-empty-init
loop-empty-init c = search (rules, all_filled)

pub loop-empty-preserved : goal.loop-empty-preserved
loop-empty-preserved c =
    let h = c.args.host.now in
    let ps = c.args.paths.now in
    let n = c.loop-empty._empty in
    let next : suc (n - length ps) ≡ (n + 1) - length ps = omega (arith, c.loop-empty.auto._empty) in
    subst (λ (k : ℕ). AreSlotsWith h ps k c.push-in-loop-empty.new.self.items) next
    (subst (λ (os : List (Option AssignedFunction)). AreSlotsWith h ps (suc (n - length ps)) os) (sym c.in_ok-push-2.ensures.items) (empty_pushed h ps (n - length ps) c.loop-empty.slots.items c.loop-empty.invariant))

pub returns : goal.returns
returns c = search (rules, all_slots)
