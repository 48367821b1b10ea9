use Rattle.std.proofs.{Common.{◌≡◌, ◌+◌, ◌-◌, ◌<◌, length, get_or, arith, subst}, lemmas.Option.slice_get-get_or}
use Rattle.bridge_forward.proofs.Skipping.{Linked, linked_none, linked_more, all_linked}
use Rattle.bridge_forward.proofs.build.set_first_bridges.Goals as goal

pub loop-i-init : goal.loop-i-init
loop-i-init c = record { within = omega arith; linked = linked_none c.args.nodes.now }

pub loop-i-preserved : goal.loop-i-preserved
loop-i-preserved c =
    let nodes = c.loop-i.nodes in
    let i = c.loop-i.i - 1 in
    let here : i < length nodes = omega (arith, c.loop-i-test.true, c.loop-i.invariant.within, c.loop-i.auto.nodes) in
    let before : c.loop-i.i ≡ i + 1 = omega (arith, c.loop-i-test.true) in
    record {
      within = omega (arith, c.loop-i.invariant.within);
      linked = linked_more nodes c.args.nodes.now i c.loop-i.next (get_or nodes i c.index-nodes-i.result) c.first_bridge_from-next.result
          (subst (λ k. Linked nodes c.args.nodes.now k c.loop-i.next) before c.loop-i.invariant.linked)
          (slice_get-get_or nodes i c.index-nodes-i.result here) c.first_bridge_from-next.ensures;
    }

pub returns-clause-tree : goal.returns-clause-tree
returns-clause-tree c =
    let start : c.loop-i.i ≡ 0 = omega (arith, c.loop-i-test.false) in
    all_linked c.loop-i.nodes c.args.nodes.now c.loop-i.next (subst (λ k. Linked c.loop-i.nodes c.args.nodes.now k c.loop-i.next) start c.loop-i.invariant.linked) c.requires
