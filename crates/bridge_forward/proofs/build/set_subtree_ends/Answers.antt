use Rattle.std.proofs.{Common.{◌<◌, length, arith}, lemmas.Option.slice_get-get_or}
use Rattle.bridge_forward.proofs.Extents.{done_more, all_done}
use Rattle.bridge_forward.proofs.build.set_subtree_ends.Goals as goal

pub loop-i-preserved : goal.loop-i-preserved
loop-i-preserved c =
    let l : c.loop-i.i < length c.loop-i.nodes = omega (arith, c.loop-i-test.true, c.loop-i.auto.nodes) in
    done_more c.loop-i.nodes c.args.nodes.now c.loop-i.i c.subtree_end-end.result _ c.loop-i.invariant (slice_get-get_or c.loop-i.nodes c.loop-i.i c.index-nodes-i.result l) c.subtree_end-end.ensures

pub returns-clause-laid : goal.returns-clause-laid
returns-clause-laid c = grind (arith, all_done)
